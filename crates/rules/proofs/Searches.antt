-- The backtracking search over any list of tries. The last lemma, `search_outcome`: where it finds none no valid selection keeps the choices it began
-- with, and what it finds is valid, keeps them, and is certified. Assumes nothing.
use mathlib.Core.Path.{◌≡◌, refl, sym, ◌∙◌, ap, subst}
use mathlib.Core.Logic.{◌⊎◌, inl, inr, ⊎_elim, ◌≢◌}
use mathlib.Core.Bool.{Bool, true, false, cond}
use mathlib.Core.List.Memᴰ.{head as here}
use mathlib.Core.List.Memᴰ.{not-nil}
use mathlib.Core.List.Memᴰ.{tail as there}
use mathlib.Core.List.{List, [], ◌∷◌, Memᴰ as Mem}
use mathlib.Core.Option.{Option, none, some}
use Prim.Native.Nat.{ℕ, zero, suc, ◌-◌, ◌≤◌, ◌<◌}
use native.Mathlib.Omega.{arith}
use lib.Dec.{eqb}
use lib.ListN.{set}
use borrow.Author.Tests.{eq-eqb}
use Rattle.rules.specs.Lists.{among, count_of, ahead}
use Rattle.rules.specs.Catalogue.{Catalogue, is_of, WellFormed}
use Rattle.rules.specs.Selection.{Selection, chosen_at, with_choice, next_modules}
use Rattle.rules.specs.Search.{Tries, IsTries, barring, Searched, searched, trial_by, and_then, try_each, search_from, Keeps, Refuted}
use Rattle.rules.specs.Search.{CertifiedFrom}
use Rattle.rules.proofs.Lists.{mem_count, count_mem, among_mem}
use Rattle.rules.proofs.Selections.{chosen_new, asked_keeps, is_asked_mem, Next, next_first, Valid, valid_parts, parts_valid}
use Rattle.rules.proofs.Partials.{unset_choice, unset_left, Partial, next_within, choice_cases, choice_keeps, choice_partial, barred_refuted}
use Rattle.rules.proofs.Partials.{whole_valid}

-- nothing is next, or a module is
pub next_cases : (c : Catalogue) (p : Selection) → (next_modules c p ≡ []) ⊎ ((m : ℕ) × (ms : List ℕ) × (next_modules c p ≡ m ∷ ms))
next_cases c p = go (next_modules c p) refl
  where
    go : (l : List ℕ) → next_modules c p ≡ l → (next_modules c p ≡ []) ⊎ ((m : ℕ) × (ms : List ℕ) × (next_modules c p ≡ m ∷ ms))
    go [] e = inl e
    go (m ∷ ms) e = inr (m, ms, e)

-- without unset modules nothing is next
pub all_set : (c : Catalogue) (p : Selection) → Partial c p → count_of 0 p ≤ 0 → next_modules c p ≡ []
all_set c p g z = ⊎_elim (λ e. e) (λ r. absurd (none r.0 (next_first c p r.0 r.1 r.2))) (next_cases c p)
  where
    none : (m : ℕ) → Next c p m → ⊥
    none m n = let u = unset_left p m (next_within g n) n.unset in omega arith

-- THE STEPS of the definitions that go by the next module
module _ (n : ℕ) (c : Catalogue) (t : Tries) (p : Selection) where
  -- with nothing next the search ends with success
  pub search_done : next_modules c p ≡ [] → search_from (suc n) c t p ≡ searched (some p) 0
  unfolding search_from
  search_done e = rw (e, search_from)

  -- and otherwise it tries the next module's places
  pub search_next : (m : ℕ) (ms : List ℕ) → next_modules c p ≡ m ∷ ms → search_from (suc n) c t p ≡ try_each c (search_from n c t) p m (t m)
  unfolding search_from
  search_next m ms e = rw (e, search_from)

module _ (n : ℕ) (c : Catalogue) (t : Tries) (s p : Selection) where
  pub certified_done : next_modules c p ≡ [] → CertifiedFrom (suc n) c t s p
  unfolding CertifiedFrom
  certified_done e = rw (e, CertifiedFrom) tt

  -- the certificate at a next module: what stands ahead is refuted, and the rest is certified
  abbrev pub CertifiedAt : ℕ → Type 0
  CertifiedAt m =
      ((i : ℕ) → among i (ahead (t m) (chosen_at s m - 1)) ≡ true → Refuted c (with_choice p m i)) × CertifiedFrom n c t s (set p m (chosen_at s m))

  pub certified_next : (m : ℕ) (ms : List ℕ) → next_modules c p ≡ m ∷ ms → CertifiedAt m → CertifiedFrom (suc n) c t s p
  unfolding CertifiedFrom
  certified_next m ms e x = rw (e, CertifiedFrom) x

  pub next_certified : (m : ℕ) (ms : List ℕ) → next_modules c p ≡ m ∷ ms → CertifiedFrom (suc n) c t s p → CertifiedAt m
  unfolding CertifiedFrom
  next_certified m ms e x = rw (e, CertifiedFrom) at x

-- TRIES of a module are its versions
module _ (c : Catalogue) (t : Tries) (τ : IsTries c t) where
  -- each version is tried
  pub tried : (m i : ℕ) → m < c.modules → is_of c m i ≡ true → Mem i (t m)
  tried m i h o = count_mem i (t m) (let k = τ m i h ∙ ap (λ (b : Bool). cond {A = ℕ} b 1 0) o in omega arith)

  -- and each try is a version
  pub try_of : (m i : ℕ) → m < c.modules → Mem i (t m) → is_of c m i ≡ true
  try_of m i h x = go (is_of c m i) refl
    where
      go : (b : Bool) → is_of c m i ≡ b → is_of c m i ≡ true
      go true e = e
      go false e = absurd (let k = τ m i h ∙ ap (λ (b : Bool). cond {A = ℕ} b 1 0) e in let z = mem_count x in omega arith)

-- a choice of the next module leaves fewer unset
pub fewer : (c : Catalogue) (p : Selection) (m i n : ℕ) → Partial c p → Next c p m → count_of 0 p ≤ suc n → count_of 0 (with_choice p m i) ≤ n
fewer c p m i n g x z = let one = unset_choice p m i (next_within g x) x.unset in omega arith

-- A VALID SELECTION at a next module: it has a version there, and keeping the choice of that version
module _ (c : Catalogue) (p s : Selection) (m : ℕ) (g : Partial c p) (n : Next c p m) (v : Valid c s) (k : Keeps p s) where
  -- it has a version there, for the need that asks for the module
  pub valid_at : (i : ℕ) × (chosen_at s m ≡ suc i)
  valid_at =
      let a = is_asked_mem c p m n.needed in
      let r = v.met a.0 (asked_keeps c p s k a.1.0) in
      (r.0, subst (λ (x : ℕ). chosen_at s x ≡ suc r.0) a.1.1 r.1)

  -- with that version chosen its choices are still kept
  pub keeps_at : (i : ℕ) → chosen_at s m ≡ suc i → Keeps (with_choice p m i) s
  keeps_at i e x j h = ⊎_elim same other (choice_cases p m i (next_within g n) x j h)
    where
      same : (x ≡ m) × (j ≡ i) → chosen_at s x ≡ suc j
      same r = rw (r.0, r.1) e

      other : (x ≢ m) × (chosen_at p x ≡ suc j) → chosen_at s x ≡ suc j
      other r = k x j r.1

  -- no need bars the version that a valid selection has
  pub unbarred : WellFormed c → (i : ℕ) → chosen_at s m ≡ suc i → barring c p m i ≡ none
  unbarred w i e = go (barring c p m i) refl
    where
      go : (b : Option ℕ) → barring c p m i ≡ b → barring c p m i ≡ none
      go none b = b
      go (some j) b = absurd (barred_refuted c p m i w g n j s b v (keeps_at i e))

-- THE OUTCOME of a search from p
abbrev pub Outcome : ℕ → Catalogue → Tries → Selection → Option Selection → Type 0
Outcome n c t p none = Refuted c p
Outcome n c t p (some r) = Valid c r × Keeps p r × CertifiedFrom n c t r p

-- the outcome of trying places in turn: all refuted, or one found and those ahead of it refuted
abbrev TriesOutcome : ℕ → Catalogue → Tries → Selection → ℕ → List ℕ → Option Selection → Type 0
TriesOutcome n c t p m is none = (i : ℕ) → Mem i is → Refuted c (with_choice p m i)
TriesOutcome n c t p m is (some r) =
    (i : ℕ) × Mem i is × Outcome n c t (with_choice p m i) (some r) × ((j : ℕ) → Mem j (ahead is i) → Refuted c (with_choice p m j))

module _ (n : ℕ) (c : Catalogue) (t : Tries) (p : Selection) (m : ℕ) where
  -- a place that is given up, ahead of the others
  given_up : (i : ℕ) (is : List ℕ) (x : Option Selection) → Refuted c (with_choice p m i) → TriesOutcome n c t p m is x →
      TriesOutcome n c t p m (i ∷ is) x
  unfolding ahead
  given_up i is none r h = all
    where
      all : (j : ℕ) → Mem j (i ∷ is) → Refuted c (with_choice p m j)
      all j (here e) = subst (λ (y : ℕ). Refuted c (with_choice p m y)) (sym e) r
      all j (there x) = h j x
  given_up i is (some s) r h = (h.0, there h.1, h.2, λ j x. earlier j (eqb i h.0) x)
    where
      earlier : (j : ℕ) (b : Bool) → Mem j (cond b [] (i ∷ ahead is h.0)) → Refuted c (with_choice p m j)
      earlier j true x = absurd (not-nil x)
      earlier j false (here e) = subst (λ (y : ℕ). Refuted c (with_choice p m y)) (sym e) r
      earlier j false (there x) = h.3 j x

  -- a place at which the search goes on to success
  succeeded : (i : ℕ) (is : List ℕ) (s : Selection) → Outcome n c t (with_choice p m i) (some s) → TriesOutcome n c t p m (i ∷ is) (some s)
  unfolding ahead
  succeeded i is s o = (i, here refl, o, λ j x. absurd (not-nil (rw (eq-eqb i i refl) at x)))

  -- the outcome of trying places in turn, where those that go on have theirs and the barred ones are refuted
  pub tries_outcome : (go : Selection → Searched) (is : List ℕ) →
      ((i : ℕ) → Mem i is → barring c p m i ≡ none → Outcome n c t (with_choice p m i) (go (with_choice p m i)).found) →
      ((i k : ℕ) → barring c p m i ≡ some k → Refuted c (with_choice p m i)) →
      TriesOutcome n c t p m is (try_each c go p m is).found
  unfolding try_each trial_by
  tries_outcome go [] on barred = λ i x. absurd (not-nil x)
  tries_outcome go (i ∷ is) on barred = trial (barring c p m i) refl (tries_outcome go is (λ j x e. on j (there x) e) barred)
    where
      rest : Searched
      rest = try_each c go p m is

      ended : (x : Option Selection) (k : ℕ) → Outcome n c t (with_choice p m i) x → TriesOutcome n c t p m is rest.found →
          TriesOutcome n c t p m (i ∷ is) (and_then x k rest).found
      ended none k o r = given_up i is rest.found o r
      ended (some s) k o r = succeeded i is s o

      trial : (b : Option ℕ) → barring c p m i ≡ b → TriesOutcome n c t p m is rest.found →
          TriesOutcome n c t p m (i ∷ is) (and_then (trial_by b go (with_choice p m i)).found (trial_by b go (with_choice p m i)).trials rest).found
      trial (some k) e r = given_up i is rest.found (barred i k e) r
      trial none e r = ended (go (with_choice p m i)).found _ (on i (here refl) e) r

module _ (c : Catalogue) (t : Tries) (w : WellFormed c) (τ : IsTries c t) where
  -- the outcome at a place from the outcome of its tries
  place_outcome : (n : ℕ) (p : Selection) (m : ℕ) (ms : List ℕ) → Partial c p → next_modules c p ≡ m ∷ ms → (x : Option Selection) →
      TriesOutcome n c t p m (t m) x → Outcome (suc n) c t p x
  place_outcome n p m ms g e none h = λ o v k. refuted o (valid_parts c o v) k
    where
      next : Next c p m
      next = next_first c p m ms e

      refuted : (o : Selection) → Valid c o → Keeps p o → ⊥
      refuted o v k =
          let a = valid_at c p o m g next v k in
          h a.0 (tried c t τ m a.0 next.fits (v.states m a.0 a.1)) o (parts_valid c o v) (keeps_at c p o m g next v k a.0 a.1)
  place_outcome n p m ms g e (some s) h = (h.2.0, kept, certified_next n c t s p m ms e (earlier, on))
    where
      next : Next c p m
      next = next_first c p m ms e

      kept : Keeps p s
      kept x j z = h.2.1 x j (choice_keeps p m h.0 (next_within g next) next.unset x j z)

      at : chosen_at s m ≡ suc h.0
      at = h.2.1 m h.0 (chosen_new p m h.0 (next_within g next))

      earlier : (i : ℕ) → among i (ahead (t m) (chosen_at s m - 1)) ≡ true → Refuted c (with_choice p m i)
      earlier i a = h.3 i (among_mem i (ahead (t m) h.0) (subst (λ (y : ℕ). among i (ahead (t m) y) ≡ true) (omega (arith, at)) a))

      on : CertifiedFrom n c t s (set p m (chosen_at s m))
      on = rw at h.2.2

  -- with nothing next the partial selection itself is found
  done_outcome : (n : ℕ) (p : Selection) → Partial c p → next_modules c p ≡ [] → CertifiedFrom n c t p p → Outcome n c t p (some p)
  done_outcome n p g e x = (whole_valid c p w g e, λ m i h. h, x)

  -- the outcome of the search
  pub search_outcome : (n : ℕ) (p : Selection) → Partial c p → count_of 0 p ≤ n → Outcome n c t p (search_from n c t p).found
  unfolding search_from CertifiedFrom
  search_outcome zero p g z = done_outcome zero p g (all_set c p g z) tt
  search_outcome (suc n) p g z = ⊎_elim done (next (λ q h l. search_outcome n q h l)) (next_cases c p)
    where
      done : next_modules c p ≡ [] → Outcome (suc n) c t p (search_from (suc n) c t p).found
      done e = rw (search_done n c t p e) (done_outcome (suc n) p g e (certified_done n c t p p e))

      next : ((q : Selection) → Partial c q → count_of 0 q ≤ n → Outcome n c t q (search_from n c t q).found) →
          (m : ℕ) × (ms : List ℕ) × (next_modules c p ≡ m ∷ ms) → Outcome (suc n) c t p (search_from (suc n) c t p).found
      next deeper (m, ms, e) =
          rw (search_next n c t p m ms e)
          (place_outcome n p m ms g e (try_each c (search_from n c t) p m (t m)).found
          (tries_outcome n c t p m (search_from n c t) (t m) on barred))
        where
          first : Next c p m
          first = next_first c p m ms e

          on : (i : ℕ) → Mem i (t m) → barring c p m i ≡ none → Outcome n c t (with_choice p m i) (search_from n c t (with_choice p m i)).found
          on i x b =
              deeper (with_choice p m i) (choice_partial c p m i w g first (try_of c t τ m i first.fits x) b) (fewer c p m i n g first z)

          barred : (i k : ℕ) → barring c p m i ≡ some k → Refuted c (with_choice p m i)
          barred i k b o v = barred_refuted c p m i w g first k o b (valid_parts c o v)
