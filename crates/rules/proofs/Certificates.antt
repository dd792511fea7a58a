-- Certified selections: they are what the search finds (`certified_found`), every selected module stands in the choice order once (`order_whole`), and
-- the last lemma: they stand ahead of every other valid selection (`certified_best`). Assumes nothing.
use mathlib.Core.Path.{◌≡◌, refl, sym, ◌∙◌, ap, subst, subst₂}
use mathlib.Core.Logic.{⊎_elim, ◌≢◌}
use mathlib.Core.Bool.{Bool, true, cond}
use mathlib.Core.List.Memᴰ
use mathlib.Core.List.Memᴰ.{head as here}
use mathlib.Core.List.Memᴰ.{tail as there}
use mathlib.Core.List.{List, [], ◌∷◌, map, Memᴰ as Mem}
use mathlib.Core.Option.{Option, none, some}
use Prim.Native.Nat.{ℕ, zero, suc, ◌+◌, ◌-◌, ◌≤◌, ◌<◌}
use native.Mathlib.Omega.{arith}
use lib.Dec.{eqb}
use lib.ListN.{get_or, set}
use borrow.Author.Tests.{eq-eqb, ne_eqb, lt-ltb}
use Rattle.rules.specs.Lists.{among, count_of, ahead}
use Rattle.rules.specs.Catalogue.{Catalogue, is_of, places_of, WellFormed}
use Rattle.rules.specs.Selection.{Selection, chosen_at, with_choice, root_only, next_modules, Choice, choice, order_from, order_of}
use Rattle.rules.specs.Search.{Tries, IsTries, barring, Searched, trial_by, and_then, try_each, search_from, is_ahead_by, Keeps, Refuted}
use Rattle.rules.specs.Search.{CertifiedFrom, Certified}
use Rattle.rules.proofs.Lists.{mem_among, same_or_not, one_ahead, ahead_mem, rest_mem}
use Rattle.rules.proofs.Selections.{suc_not_zero, chosen_new, chosen_old, mem_places, Next, next_first, Valid, parts_valid}
use Rattle.rules.proofs.Partials.{root_chosen, root_only_lem, start_unset, root_partial, unset_most, Partial, next_within, choice_partial}
use Rattle.rules.proofs.Partials.{whole_only}
use Rattle.rules.proofs.Searches.{next_cases, search_done, search_next, CertifiedAt, next_certified, tried, try_of, fewer, valid_at, keeps_at}
use Rattle.rules.proofs.Searches.{unbarred, Outcome, all_set, search_outcome}

-- what a trial finds goes on to the next place or ends it
none_then : (x : Option Selection) (n : ℕ) (b : Searched) → x ≡ none → (and_then x n b).found ≡ b.found
none_then x n b e = rw e

some_then : (x : Option Selection) (n : ℕ) (b : Searched) (s : Selection) → x ≡ some s → (and_then x n b).found ≡ some s
some_then x n b s e = rw e

-- TRYING PLACES IN TURN finds what the trial of a place finds, where every place ahead of it is given up
module _ (c : Catalogue) (go : Selection → Searched) (p : Selection) (m i : ℕ) (s : Selection) where
  -- what the trial of a place finds
  abbrev TrialIs : ℕ → Option Selection → Type 0
  TrialIs j x = (trial_by (barring c p m j) go (with_choice p m j)).found ≡ x

  -- what trying places in turn finds, where those ahead of place i are given up and place i succeeds
  tries_found : (is : List ℕ) → Mem i is → ((j : ℕ) → Mem j (ahead is i) → TrialIs j none) → TrialIs i (some s) → (try_each c go p m is).found ≡ some s
  unfolding try_each ahead
  tries_found [] x given found = elim x [ ]
  tries_found (j ∷ is) x given found =
      ⊎_elim now (λ e. later e (tries_found is (rest_mem x e) (λ k h. given k (rw (ne_eqb j i e) (there h))) found)) (same_or_not j i)
    where
      now : j ≡ i → (try_each c go p m (j ∷ is)).found ≡ some s
      now e = some_then _ _ (try_each c go p m is) s (subst (λ (k : ℕ). TrialIs k (some s)) (sym e) found)

      later : j ≢ i → (try_each c go p m is).found ≡ some s → (try_each c go p m (j ∷ is)).found ≡ some s
      later e r = none_then _ _ (try_each c go p m is) (given j (rw (ne_eqb j i e) (here refl))) ∙ r

-- a trial that goes on, one that is barred
trial_on : (b : Option ℕ) (go : Selection → Searched) (q : Selection) → b ≡ none → (trial_by b go q).found ≡ (go q).found
unfolding trial_by
trial_on b go q e = rw e

-- the partial selection after a choice that a valid selection has
after : (c : Catalogue) (w : WellFormed c) (p s : Selection) (m i : ℕ) → Partial c p → Next c p m → Valid c s → Keeps p s → chosen_at s m ≡ suc i →
    Partial c (with_choice p m i)
after c w p s m i g x v k e = choice_partial c p m i w g x (v.states m i e) (unbarred c p s m g x v k w i e)

module _ (c : Catalogue) (t : Tries) (w : WellFormed c) (τ : IsTries c t) where
  -- a refuted choice is given up
  trial_refuted : (n : ℕ) (p : Selection) (m i : ℕ) → Partial c p → Next c p m → Mem i (t m) → count_of 0 p ≤ suc n → Refuted c (with_choice p m i) →
      (trial_by (barring c p m i) (search_from n c t) (with_choice p m i)).found ≡ none
  unfolding trial_by
  trial_refuted n p m i g x h z r = barred (barring c p m i) refl
    where
      found : (y : Option Selection) → Outcome n c t (with_choice p m i) y → y ≡ none
      found none o = refl
      found (some s) o = absurd (r s (parts_valid c s o.0) o.1)

      barred : (b : Option ℕ) → barring c p m i ≡ b → (trial_by b (search_from n c t) (with_choice p m i)).found ≡ none
      barred (some k) e = refl
      barred none e =
          found _ (search_outcome c t w τ n (with_choice p m i) (choice_partial c p m i w g x (try_of c t τ m i x.fits h) e) (fewer c p m i n g x z))

  -- a valid and certified selection is what the search finds
  pub certified_found : (n : ℕ) (s p : Selection) → Partial c p → count_of 0 p ≤ n → Valid c s → Keeps p s → CertifiedFrom n c t s p →
      (search_from n c t p).found ≡ some s
  unfolding search_from
  certified_found zero s p g z v k x = ap some (sym (whole_only c p s w g (all_set c p g z) v k))
  certified_found (suc n) s p g z v k x = ⊎_elim done (next (λ q h l j y. certified_found n s q h l v j y)) (next_cases c p)
    where
      done : next_modules c p ≡ [] → (search_from (suc n) c t p).found ≡ some s
      done e = ap (λ (r : Searched). r.found) (search_done n c t p e) ∙ ap some (sym (whole_only c p s w g e v k))

      next : ((q : Selection) → Partial c q → count_of 0 q ≤ n → Keeps q s → CertifiedFrom n c t s q → (search_from n c t q).found ≡ some s) →
          (m : ℕ) × (ms : List ℕ) × (next_modules c p ≡ m ∷ ms) → (search_from (suc n) c t p).found ≡ some s
      next deeper (m, ms, e) =
          ap (λ (r : Searched). r.found) (search_next n c t p m ms e) ∙
          tries_found c (search_from n c t) p m i s (t m) (tried c t τ m i first.fits (v.states m i at.1)) given found
        where
          first : Next c p m
          first = next_first c p m ms e

          at : (i : ℕ) × (chosen_at s m ≡ suc i)
          at = valid_at c p s m g first v k

          i : ℕ
          i = at.0

          certified : CertifiedAt n c t s p m
          certified = next_certified n c t s p m ms e x

          place : i ≡ chosen_at s m - 1
          place = let a = at.1 in omega arith

          given : (j : ℕ) → Mem j (ahead (t m) i) → (trial_by (barring c p m j) (search_from n c t) (with_choice p m j)).found ≡ none
          given j h =
              trial_refuted n p m j g first (ahead_mem i (t m) h) z
              (certified.0 j (subst (λ (y : ℕ). among j (ahead (t m) y) ≡ true) place (mem_among h)))

          found : (trial_by (barring c p m i) (search_from n c t) (with_choice p m i)).found ≡ some s
          found =
              trial_on (barring c p m i) (search_from n c t) (with_choice p m i) (unbarred c p s m g first v k w i at.1) ∙
              deeper (with_choice p m i) (after c w p s m i g first v k at.1) (fewer c p m i n g first z) (keeps_at c p s m g first v k i at.1)
              (subst (λ (y : ℕ). CertifiedFrom n c t s (set p m y)) at.1 certified.1)

-- THE CHOICE ORDER by its steps
module _ (n : ℕ) (c : Catalogue) (s p : Selection) where
  order_done : next_modules c p ≡ [] → order_from (suc n) c s p ≡ []
  unfolding order_from
  order_done e = rw (e, order_from)

  order_next : (m : ℕ) (ms : List ℕ) → next_modules c p ≡ m ∷ ms →
      order_from (suc n) c s p ≡ choice m (chosen_at s m) ∷ order_from n c s (set p m (chosen_at s m))
  unfolding order_from
  order_next m ms e = rw (e, order_from)

-- two orders that begin with a choice of one module: the same version, or a better one
module _ (h : (owner ours theirs : ℕ) → Bool) (xs ys : List Choice) (m i j : ℕ) where
  ahead_same : i ≡ j → is_ahead_by h xs ys ≡ true → is_ahead_by h (choice m (suc i) ∷ xs) (choice m (suc j) ∷ ys) ≡ true
  unfolding is_ahead_by
  ahead_same e r = rw (eq-eqb m m refl, eq-eqb (suc i) (suc j) (ap suc e)) r

  ahead_other : i ≢ j → h m i j ≡ true → is_ahead_by h (choice m (suc i) ∷ xs) (choice m (suc j) ∷ ys) ≡ true
  unfolding is_ahead_by
  ahead_other e r =
      rw (eq-eqb m m refl, ne_eqb (suc i) (suc j) (λ z. e (omega arith)), lt-ltb 0 (suc i) (omega arith), lt-ltb 0 (suc j) (omega arith))
      (subst₂ (λ (x y : ℕ). h m x y ≡ true) (place i) (place j) r)
    where
      place : (x : ℕ) → x ≡ suc x - 1
      place x = omega arith

module _ (c : Catalogue) (t : Tries) (w : WellFormed c) (τ : IsTries c t) (h : (owner ours theirs : ℕ) → Bool) where
  -- standing ahead in the tries is standing better
  abbrev pub Better : Type 0
  Better =
      (m x y : ℕ) → m < c.modules → is_of c m x ≡ true → is_of c m y ≡ true → Mem x (ahead (t m) y) → h m x y ≡ true

  -- of two valid selections that keep the choices so far the certified one stands ahead
  pub certified_ahead : Better → (n : ℕ) (s o p : Selection) → Partial c p → count_of 0 p ≤ n → Valid c s → Valid c o → Keeps p s → Keeps p o → s ≢ o →
      CertifiedFrom n c t s p → is_ahead_by h (order_from n c s p) (order_from n c o p) ≡ true
  certified_ahead b zero s o p g z v u k l d x =
      let e = all_set c p g z in absurd (d (whole_only c p s w g e v k ∙ sym (whole_only c p o w g e u l)))
  certified_ahead b (suc n) s o p g z v u k l d x =
      ⊎_elim done (next (λ q a f i j y. certified_ahead b n s o q a f v u i j d y)) (next_cases c p)
    where
      done : next_modules c p ≡ [] → is_ahead_by h (order_from (suc n) c s p) (order_from (suc n) c o p) ≡ true
      done e = absurd (d (whole_only c p s w g e v k ∙ sym (whole_only c p o w g e u l)))

      next : ((q : Selection) → Partial c q → count_of 0 q ≤ n → Keeps q s → Keeps q o → CertifiedFrom n c t s q →
          is_ahead_by h (order_from n c s q) (order_from n c o q) ≡ true) →
          (m : ℕ) × (ms : List ℕ) × (next_modules c p ≡ m ∷ ms) → is_ahead_by h (order_from (suc n) c s p) (order_from (suc n) c o p) ≡ true
      next deeper (m, ms, e) =
          rw (order_next n c s p m ms e, order_next n c o p m ms e, ours.1, theirs.1) (⊎_elim same other (same_or_not ours.0 theirs.0))
        where
          first : Next c p m
          first = next_first c p m ms e

          ours : (i : ℕ) × (chosen_at s m ≡ suc i)
          ours = valid_at c p s m g first v k

          theirs : (i : ℕ) × (chosen_at o m ≡ suc i)
          theirs = valid_at c p o m g first u l

          after_ours : Selection
          after_ours = with_choice p m ours.0

          certified : CertifiedAt n c t s p m
          certified = next_certified n c t s p m ms e x

          Ahead : Type 0
          Ahead =
              is_ahead_by h (choice m (suc ours.0) ∷ order_from n c s (set p m (suc ours.0)))
              (choice m (suc theirs.0) ∷ order_from n c o (set p m (suc theirs.0))) ≡ true

          same : ours.0 ≡ theirs.0 → Ahead
          same q =
              ahead_same h _ _ m ours.0 theirs.0 q
              (subst (λ (y : ℕ). is_ahead_by h (order_from n c s after_ours) (order_from n c o (set p m (suc y))) ≡ true) q
              (deeper after_ours (after c w p s m ours.0 g first v k ours.1) (fewer c p m ours.0 n g first z)
              (keeps_at c p s m g first v k ours.0 ours.1)
              (keeps_at c p o m g first u l ours.0 (theirs.1 ∙ ap suc (sym q)))
              (subst (λ (y : ℕ). CertifiedFrom n c t s (set p m y)) ours.1 certified.1)))

          -- theirs would be refuted if it stood ahead
          behind : Mem theirs.0 (ahead (t m) ours.0) → ⊥
          behind a =
              certified.0 theirs.0
              (subst (λ (y : ℕ). among theirs.0 (ahead (t m) y) ≡ true) (let f = ours.1 in omega arith) (mem_among a))
              o (parts_valid c o u) (keeps_at c p o m g first u l theirs.0 theirs.1)

          other : ours.0 ≢ theirs.0 → Ahead
          other q =
              let mine = v.states m ours.0 ours.1 in
              let other = u.states m theirs.0 theirs.1 in
              ahead_other h _ _ m ours.0 theirs.0 q
              (b m ours.0 theirs.0 first.fits mine other
              (⊎_elim (λ a. a) (λ a. absurd (behind a)) (one_ahead (tried c t τ m _ first.fits mine) (tried c t τ m _ first.fits other) q)))

-- EVERY SELECTED MODULE once: what follows in the order are the modules that are selected and not yet set
abbrev pub owners : List Choice → List ℕ
owners xs = map (λ (x : Choice). x.owner) xs

-- 1 for a chosen state, 0 for absent
abbrev pub is_set : (state : ℕ) → ℕ
is_set x = cond (eqb x 0) 0 1

-- a chosen version counts
set_suc : {x i : ℕ} → x ≡ suc i → is_set x ≡ 1
set_suc {x} {i} e = rw (ne_eqb x 0 (suc_not_zero e))

-- with nothing next, what is selected is what is set
none_left : (c : Catalogue) (w : WellFormed c) (s p : Selection) (m : ℕ) → Partial c p → next_modules c p ≡ [] → Valid c s → Keeps p s →
    0 + is_set (chosen_at p m) ≡ is_set (chosen_at s m)
none_left c w s p m g e v k = rw (whole_only c p s w g e v k) (omega arith)

-- a module is counted once in what follows in the order if it is selected and not yet set, and otherwise not
pub order_rest : (c : Catalogue) (w : WellFormed c) (n : ℕ) (s p : Selection) (m : ℕ) → Partial c p → count_of 0 p ≤ n → Valid c s → Keeps p s →
    count_of m (owners (order_from n c s p)) + is_set (chosen_at p m) ≡ is_set (chosen_at s m)
unfolding count_of order_from
order_rest c w zero s p m g z v k = none_left c w s p m g (all_set c p g z) v k
order_rest c w (suc n) s p m g z v k = ⊎_elim done (next (λ q h l j. order_rest c w n s q m h l v j)) (next_cases c p)
  where
    Rest : List Choice → Type 0
    Rest xs = count_of m (owners xs) + is_set (chosen_at p m) ≡ is_set (chosen_at s m)

    done : next_modules c p ≡ [] → Rest (order_from (suc n) c s p)
    done e = subst Rest (sym (order_done n c s p e)) (none_left c w s p m g e v k)

    next : ((q : Selection) → Partial c q → count_of 0 q ≤ n → Keeps q s →
        count_of m (owners (order_from n c s q)) + is_set (chosen_at q m) ≡ is_set (chosen_at s m)) →
        (x : ℕ) × (xs : List ℕ) × (next_modules c p ≡ x ∷ xs) → Rest (order_from (suc n) c s p)
    next deeper (x, xs, e) = subst Rest (sym (order_next n c s p x xs e)) (⊎_elim same other (same_or_not m x))
      where
        first : Next c p x
        first = next_first c p x xs e

        at : (i : ℕ) × (chosen_at s x ≡ suc i)
        at = valid_at c p s x g first v k

        q : Selection
        q = with_choice p x at.0

        rest : count_of m (owners (order_from n c s (set p x (chosen_at s x)))) + is_set (chosen_at q m) ≡ is_set (chosen_at s m)
        rest =
            rw at.1
            (deeper q (after c w p s x at.0 g first v k at.1) (fewer c p x at.0 n g first z) (keeps_at c p s x g first v k at.0 at.1))

        same : m ≡ x → Rest (choice x (chosen_at s x) ∷ order_from n c s (set p x (chosen_at s x)))
        same d =
            let unset : is_set (chosen_at p m) ≡ 0 = rw (d, first.unset) in
            let now : is_set (chosen_at q m) ≡ 1 = rw d (set_suc (chosen_new p x at.0 (next_within g first))) in
            rw (eq-eqb m x d) (omega (arith, rest))

        other : m ≢ x → Rest (choice x (chosen_at s x) ∷ order_from n c s (set p x (chosen_at s x)))
        other d = let unchanged = ap is_set (chosen_old p x at.0 m d) in rw (ne_eqb m x d) (omega (arith, rest, unchanged))

-- THE START of every order and search is the root's one version
module _ (c : Catalogue) (w : WellFormed c) where
  -- the modules are fuel enough
  pub start_fits : count_of 0 (root_only c) ≤ c.modules
  start_fits = let l = (root_partial c w).size in let u = unset_most (root_only c) in omega arith

  module _ (s : Selection) (v : Valid c s) where
    root_state : chosen_at s 0 ≡ suc (get_or (places_of c 0) 0 0)
    root_state =
        let one = mem_places c 0 v.root.0 (v.states 0 _ v.root.1) in
        let same = Memᴰ.eq_of_singleton (subst (λ (l : List ℕ). Mem v.root.0 l) w.root.1 one) in
        v.root.1 ∙ ap suc (same ∙ sym (ap (λ (l : List ℕ). get_or l 0 0) w.root.1))

    pub start_kept : Keeps (root_only c) s
    start_kept m i e = let r = root_only_lem c w m i e in rw (r.0, r.1) root_state

    pub start_order : order_of c s ≡ choice 0 (suc (get_or (places_of c 0) 0 0)) ∷ order_from c.modules c s (root_only c)
    unfolding order_of
    start_order = rw root_state

-- every selected module stands in the choice order once, and no other
pub order_whole : (c : Catalogue) (w : WellFormed c) (s : Selection) (m : ℕ) → Valid c s → count_of m (owners (order_of c s)) ≡ is_set (chosen_at s m)
unfolding count_of
order_whole c w s m v = rw (start_order c w s v) (⊎_elim root other (same_or_not m 0))
  where
    rest : List Choice
    rest = order_from c.modules c s (root_only c)

    counted : count_of m (owners rest) + is_set (chosen_at (root_only c) m) ≡ is_set (chosen_at s m)
    counted = order_rest c w c.modules s (root_only c) m (root_partial c w) (start_fits c w) v (start_kept c w s v)

    root : m ≡ 0 → cond (eqb m 0) (suc (count_of m (owners rest))) (count_of m (owners rest)) ≡ is_set (chosen_at s m)
    root e =
        let one : is_set (chosen_at (root_only c) m) ≡ 1 = rw e (set_suc (root_chosen c w)) in
        rw (eq-eqb m 0 e) (omega (arith, counted))

    other : m ≢ 0 → cond (eqb m 0) (suc (count_of m (owners rest))) (count_of m (owners rest)) ≡ is_set (chosen_at s m)
    other n =
        let unset : is_set (chosen_at (root_only c) m) ≡ 0 = rw (start_unset c w m n) in
        rw (ne_eqb m 0 n) (omega (arith, counted))

-- a valid and certified selection stands ahead of every other valid one, from the root on
pub certified_best : (c : Catalogue) (t : Tries) (w : WellFormed c) (τ : IsTries c t) (h : (owner ours theirs : ℕ) → Bool) → Better c t w τ h →
    (s o : Selection) → Valid c s → Valid c o → s ≢ o → Certified c t s → is_ahead_by h (order_of c s) (order_of c o) ≡ true
certified_best c t w τ h b s o v u d x =
    rw (start_order c w s v, start_order c w o u)
    (ahead_same h _ _ 0 _ _ refl
    (certified_ahead c t w τ h b c.modules s o (root_only c) (root_partial c w) (start_fits c w) v u (start_kept c w s v) (start_kept c w o u) d x))
