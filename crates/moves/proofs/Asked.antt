-- What is wanted, over tables that hold a catalogue, is the rules' next module with the first need that asks for it (`wanted_next`), and with the range
-- that every need of a chosen version leaves to it (`within_all`, `all_within`); or nothing, where nothing is next (`wanted_none`).
-- The tables are folded need by need, in the order of the needs that all chosen versions have. Assumes nothing.
use mathlib.Core.Path.{◌≡◌, refl, sym, ◌∙◌, ap, subst}
use mathlib.Core.Logic.{◌⊎◌, inl, inr, ◌≢◌}
use mathlib.Core.Bool.{Bool, true, false, cond}
use mathlib.Core.List.Memᴰ.{head as here}
use mathlib.Core.List.Memᴰ.{tail as there}
use mathlib.Core.List.{List, [], ◌∷◌, ◌++◌, flat_map, Memᴰ as Mem}
use mathlib.Core.List.Memᴰ.{not-nil}
use mathlib.Core.Option.{some}
use Prim.Native.Nat.{ℕ, zero, suc, ◌≤◌, ◌<◌}
use native.Mathlib.Omega.{arith}
use lib.Dec.{ltb, eqb}
use lib.ListN.{get_or}
use lib.Seq.{get_or-take}
use borrow.Author.Tests.{ltb-true, ltb-false, eqb-true, eqb-false, eq-eqb, ne_eqb}
use Rattle.rules.specs.Lists.{first_of, up_from, below}
use Rattle.rules.specs.Catalogue.{Catalogue, WellFormed, need_at}
use Rattle.rules.specs.Selection.{chosen_at, needs_at, asked, is_asked, next_modules}
use Rattle.rules.specs.Sheet.{asking}
use Rattle.std.specs.Prelude.{Some, None}
use Rattle.rules.proofs.Lists.{true_or_false, cond_true, cond_false, first_mem, below_mem}
use Rattle.rules.proofs.Selections.{Next, suc_not_zero, asked_mem, mem_is_asked, is_asked_mem, next_first, next_none}
use Rattle.rules.proofs.Theorems.{next_is_lowest}
use Rattle.store.specs.declared.tables.Tables.{Tables}
use Rattle.store.specs.Tables.{Holds}
use Rattle.moves.specs.Wanted.{no_module, wanted_by, none_wanted, narrowed, better_in, fold_in, wanted_state, wanted_at, if_any, wanted_in}
use Rattle.moves.specs.declared.wanted.Wanted.{Wanted}
use Rattle.moves.proofs.Chosen.{chosen_of}

-- FOLDS OVER LISTS
fold_over : {A : Type 0} → (ℕ → A → A) → A → List ℕ → A
fold_over h b [] = b
fold_over h b (x ∷ xs) = fold_over h (h x b) xs

module _ {A : Type 0} (h : ℕ → A → A) where
  over_append : (b : A) (xs ys : List ℕ) → fold_over h b (xs ++ ys) ≡ fold_over h (fold_over h b xs) ys
  unfolding fold_over
  over_append b [] ys = refl
  over_append b (x ∷ xs) ys = over_append (h x b) xs ys

  -- a fold over a run of numbers, by an equal step
  over_run : (g : ℕ → A → A) → ((k : ℕ) (b : A) → g k b ≡ h k b) → (b : A) (i n : ℕ) → fold_in g b i n ≡ fold_over h b (up_from i n)
  unfolding fold_in up_from fold_over
  over_run g e b i zero = refl
  over_run g e b i (suc n) = over_run g e (g i b) (suc i) n ∙ ap (λ (x : A). fold_over h x (up_from (suc i) n)) (e i b)

  -- a fold of folds is one fold
  over_flat : (w : ℕ → A → A) (f : ℕ → List ℕ) (xs : List ℕ) → ((k : ℕ) → Mem k xs → (b : A) → w k b ≡ fold_over h b (f k)) →
      (b : A) → fold_over w b xs ≡ fold_over h b (flat_map f xs)
  unfolding flat_map fold_over
  over_flat w f [] e b = refl
  over_flat w f (x ∷ xs) e b =
      over_flat w f xs (λ k m. e k (there m)) (w x b) ∙ ap (λ (a : A). fold_over h a (flat_map f xs)) (e x (here refl) b) ∙
      sym (over_append b (f x) (flat_map f xs))

-- THE FIRST OF A LIST
first_here : (f : ℕ → Bool) (x : ℕ) (xs : List ℕ) → f x ≡ true → first_of f (x ∷ xs) ≡ some x
unfolding first_of
first_here f x xs e = rw e

first_later : (f : ℕ → Bool) (x : ℕ) (xs : List ℕ) → f x ≡ false → first_of f (x ∷ xs) ≡ first_of f xs
unfolding first_of
first_later f x xs e = rw e

-- THE LOWEST TARGET that is not chosen, over a list of needs with their targets and ranges
module _ (target low high : ℕ → ℕ) (chosen : List ℕ) where
  abbrev Unset : (owner : ℕ) → Type 0
  Unset m = get_or chosen m 0 ≡ 0

  abbrev lower : (number : ℕ) → Wanted → Wanted
  lower k w =
      cond (ltb w.owner.0 (target k)) w
      (cond (eqb (target k) w.owner.0) (narrowed (low k) (high k) w)
      (cond (eqb (get_or chosen (target k) 0) 0) (wanted_by (target k) k (low k) (high k)) w))

  -- one turn from `w` to `r`
  data Turn (k : ℕ) (w r : Wanted) : Type 0 where
    takes : r ≡ wanted_by (target k) k (low k) (high k) → Unset (target k) → target k < w.owner.0 → Turn k w r
    narrows : r ≡ narrowed (low k) (high k) w → target k ≡ w.owner.0 → Turn k w r
    leaves : r ≡ w → target k ≢ w.owner.0 → (Unset (target k) → w.owner.0 < target k) → Turn k w r

  turn : (k : ℕ) (w : Wanted) → Turn k w (lower k w)
  turn k w =
      go (true_or_false (ltb w.owner.0 (target k))) (true_or_false (eqb (target k) w.owner.0))
      (true_or_false (eqb (get_or chosen (target k) 0) 0))
    where
      go : (ltb w.owner.0 (target k) ≡ true) ⊎ (ltb w.owner.0 (target k) ≡ false) →
          (eqb (target k) w.owner.0 ≡ true) ⊎ (eqb (target k) w.owner.0 ≡ false) →
          (eqb (get_or chosen (target k) 0) 0 ≡ true) ⊎ (eqb (get_or chosen (target k) 0) 0 ≡ false) → Turn k w (lower k w)
      go (inl l) e u = let h : w.owner.0 < target k = ltb-true _ _ l in leaves (rw l) (λ q. omega arith) (λ z. h)
      go (inr l) (inl e) u = narrows (rw (l, e)) (eqb-true _ _ e)
      go (inr l) (inr e) (inl u) =
          let h : target k ≤ w.owner.0 = ltb-false _ _ l in
          let n : target k ≢ w.owner.0 = eqb-false _ _ e in
          takes (rw (l, e, u)) (eqb-true _ _ u) (omega arith)
      go (inr l) (inr e) (inr u) = leaves (rw (l, e, u)) (eqb-false _ _ e) (λ z. absurd (eqb-false _ _ u z))

  turn_falls : {k : ℕ} {w r : Wanted} → Turn k w r → r.owner.0 ≤ w.owner.0
  turn_falls (takes e u l) = rw e (omega arith)
  turn_falls (narrows e t) = rw e (omega arith)
  turn_falls (leaves e n h) = rw e (omega arith)

  turn_passes : {k : ℕ} {w r : Wanted} → Turn k w r → Unset (target k) → r.owner.0 ≤ target k
  turn_passes (takes e u l) z = rw e (omega arith)
  turn_passes (narrows e t) z = rw e (omega arith)
  turn_passes (leaves e n h) z = let l = h z in rw e (omega arith)

  falls : (xs : List ℕ) (w : Wanted) → (fold_over lower w xs).owner.0 ≤ w.owner.0
  unfolding fold_over
  falls [] w = omega arith
  falls (x ∷ xs) w =
      let one = turn_falls (turn x w) in
      let rest = falls xs (lower x w) in omega arith

  -- nothing lower is passed by
  lowest : (xs : List ℕ) (w : Wanted) {k : ℕ} → Mem k xs → Unset (target k) → (fold_over lower w xs).owner.0 ≤ target k
  unfolding fold_over
  lowest [] w x'' u = elim x'' [ ]
  lowest (x ∷ xs) w {k} (here p) u =
      let one : (lower x w).owner.0 ≤ target x = turn_passes (turn x w) (rw p at u) in
      let rest = falls xs (lower x w) in
      rw p (omega arith)
  lowest (x ∷ xs) w (there h) u = lowest xs (lower x w) h u

  -- what a fold from `w` comes to: the same module by the same need, or a lower target with the first need that has it
  data Came (xs : List ℕ) (w r : Wanted) : Type 0 where
    stayed : r.owner.0 ≡ w.owner.0 → r.need ≡ w.need → Came xs w r
    found : r.owner.0 < w.owner.0 → Unset r.owner.0 → first_of (λ (k : ℕ). eqb (target k) r.owner.0) xs ≡ some r.need → Came xs w r

  came_more : {x : ℕ} {xs : List ℕ} {w n r : Wanted} → Turn x w n → Came xs n r → Came (x ∷ xs) w r
  came_more {x} {xs} {w} {n} {r} (takes e u l) (stayed p q) =
      let is_owner : r.owner.0 ≡ target x = p ∙ rw e in
      let is-need : r.need ≡ x = q ∙ rw e in
      found (omega arith) (rw is_owner u) (rw is-need (first_here _ x xs (eq-eqb (target x) r.owner.0 (sym is_owner))))
  came_more {x} {xs} {w} {n} {r} (takes e u l) (found g z f) =
      let o : n.owner.0 ≡ target x = rw e in
      found (omega arith) z (first_later _ x xs (ne_eqb (target x) r.owner.0 (λ q. omega arith)) ∙ f)
  came_more (narrows e t) (stayed p q) = stayed (p ∙ rw e) (q ∙ rw e)
  came_more {x} {xs} {w} {n} {r} (narrows e t) (found g z f) =
      let o : n.owner.0 ≡ w.owner.0 = rw e in
      found (omega arith) z (first_later _ x xs (ne_eqb (target x) r.owner.0 (λ q. omega arith)) ∙ f)
  came_more (leaves e m h) (stayed p q) = stayed (p ∙ rw e) (q ∙ rw e)
  came_more {x} {xs} {w} {n} {r} (leaves e m h) (found g z f) =
      let o : n.owner.0 ≡ w.owner.0 = rw e in
      found (omega arith) z (first_later _ x xs (ne_eqb (target x) r.owner.0 other) ∙ f)
    where
      other : target x ≢ r.owner.0
      other q = let o : n.owner.0 ≡ w.owner.0 = rw e in let l = h (rw q z) in omega arith

  came : (xs : List ℕ) (w : Wanted) → Came xs w (fold_over lower w xs)
  unfolding fold_over
  came [] w = stayed refl refl
  came (x ∷ xs) w = came_more (turn x w) (came xs (lower x w))

  -- THE RANGE THAT IS LEFT: a number lies in it just if every need that names the module allows it, and so does the range at the start
  abbrev Within : Wanted → (value : ℕ) → Type 0
  Within w v = (w.low.0 ≤ v) × (v < w.high.0)

  abbrev Allows : (number value : ℕ) → Type 0
  Allows k v = (low k ≤ v) × (v < high k)

  record Ranged (xs : List ℕ) (w r : Wanted) (v : ℕ) : Type 0 where
    pub allowed : Within r v → (k : ℕ) → Mem k xs → target k ≡ r.owner.0 → Allows k v
    pub before : Within r v → r.owner.0 ≡ w.owner.0 → Within w v
    pub all : ((k : ℕ) → Mem k xs → target k ≡ r.owner.0 → Allows k v) → (r.owner.0 ≡ w.owner.0 → Within w v) → Within r v

  -- one turn before a fold
  module _ {x : ℕ} {xs : List ℕ} {n r : Wanted} {v : ℕ} (w : Wanted) (falls-on : r.owner.0 ≤ n.owner.0) (f : Ranged xs n r v) where
    -- the needs of the longer list, by the first and the others
    first_and_rest : (Within r v → target x ≡ r.owner.0 → Allows x v) → Within r v → (k : ℕ) → Mem k (x ∷ xs) → target k ≡ r.owner.0 → Allows k v
    first_and_rest one h k (here p) q = rw p (one h (ap target (sym p) ∙ q))
    first_and_rest one h k (there m) q = f.allowed h k m q

    ranged_takes : n ≡ wanted_by (target x) x (low x) (high x) → target x < w.owner.0 → Ranged (x ∷ xs) w r v
    ranged_takes e l =
        let o : n.owner.0 ≡ target x = rw e in
        record {
          allowed = first_and_rest (λ h q. subst (λ (y : Wanted). Within y v) e (f.before h (omega arith)));
          before = λ h q. absurd (omega arith);
          all = λ every start.
              f.all (λ k m q. every k (there m) q) (λ q. subst (λ (y : Wanted). Within y v) (sym e) (every x (here refl) (omega arith)));
        }

    ranged_narrows : n ≡ narrowed (low x) (high x) w → target x ≡ w.owner.0 → Ranged (x ∷ xs) w r v
    ranged_narrows e t =
        let o : n.owner.0 ≡ w.owner.0 = rw e in
        record {
          allowed = first_and_rest (λ h q. (both (subst (λ (y : Wanted). Within y v) e (f.before h (omega arith)))).0);
          before = λ h q. (both (subst (λ (y : Wanted). Within y v) e (f.before h (omega arith)))).1;
          all = λ every start.
              f.all (λ k m q. every k (there m) q)
              (λ q. subst (λ (y : Wanted). Within y v) (sym e) (joined (every x (here refl) (omega arith)) (start (omega arith))));
        }
      where
        -- to lie in what a need leaves of a range is to lie in both
        both : Within (narrowed (low x) (high x) w) v → Allows x v × Within w v
        both h = ((omega (arith, h.0), omega (arith, h.1)), (omega (arith, h.0), omega (arith, h.1)))

        joined : Allows x v → Within w v → Within (narrowed (low x) (high x) w) v
        joined p q = (omega (arith, p.0, q.0), omega (arith, p.1, q.1))

    ranged_leaves : n ≡ w → (target x ≡ r.owner.0 → ⊥) → Ranged (x ∷ xs) w r v
    ranged_leaves e other =
        let o : n.owner.0 ≡ w.owner.0 = rw e in
        record {
          allowed = first_and_rest (λ h q. absurd (other q));
          before = λ h q. subst (λ (y : Wanted). Within y v) e (f.before h (omega arith));
          all = λ every start.
              f.all (λ k m q. every k (there m) q) (λ q. subst (λ (y : Wanted). Within y v) (sym e) (start (omega arith)));
        }

  -- a module that a need names, and that isn't the one wanted so far, isn't wanted afterwards unless the need asks for it
  not_named : {x : ℕ} {xs : List ℕ} {w n r : Wanted} → Came xs n r → n ≡ w → target x ≢ w.owner.0 → (Unset (target x) → w.owner.0 < target x) →
      target x ≡ r.owner.0 → ⊥
  not_named {w = w} {n = n} (stayed p s) e m h q = let o : n.owner.0 ≡ w.owner.0 = rw e in m (q ∙ p ∙ o)
  not_named {w = w} {n = n} (found g z f) e m h q = let o : n.owner.0 ≡ w.owner.0 = rw e in let l = h (rw q z) in omega arith

  ranged_more : {x : ℕ} {xs : List ℕ} {w n r : Wanted} {v : ℕ} → Turn x w n → Came xs n r → r.owner.0 ≤ n.owner.0 → Ranged xs n r v →
      Ranged (x ∷ xs) w r v
  ranged_more (takes e u l) c o f = ranged_takes _ o f e l
  ranged_more (narrows e t) c o f = ranged_narrows _ o f e t
  ranged_more (leaves e m h) c o f = ranged_leaves _ o f e (not_named c e m h)

  ranged : (xs : List ℕ) (w : Wanted) (v : ℕ) → Ranged xs w (fold_over lower w xs) v
  unfolding fold_over
  ranged [] w v = record { allowed = λ h k m q. absurd (not-nil m); before = λ h q. h; all = λ every start. start refl }
  ranged (x ∷ xs) w v = ranged_more (turn x w) (came xs (lower x w)) (falls xs (lower x w)) (ranged xs (lower x w) v)

-- OVER TABLES THAT HOLD A CATALOGUE
abbrev target_of : Catalogue → (number : ℕ) → ℕ
target_of c k = (need_at c k).target

abbrev low_of : Catalogue → (number : ℕ) → ℕ
low_of c k = (need_at c k).low

abbrev high_of : Catalogue → (number : ℕ) → ℕ
high_of c k = (need_at c k).high

-- what all needs of chosen versions come to
abbrev pub wanted_of : Tables → Catalogue → (chosen : List ℕ) → Wanted
wanted_of t c ch = wanted_in t ch c.modules

module _ (t : Tables) (c : Catalogue) (h : Holds t c) (chosen : List ℕ) where
  abbrev step : ℕ → Wanted → Wanted
  step = lower (target_of c) (low_of c) (high_of c) chosen

  same_step : (k : ℕ) (b : Wanted) → better_in t chosen k b ≡ step k b
  same_step k b = rw (h.targets k, h.lows k, h.highs k)

  same_state : (x : ℕ) (b : Wanted) → wanted_state t chosen x b ≡ fold_over step b (needs_at c x)
  unfolding fold_over
  same_state zero b = refl
  same_state (suc j) b = over_run step _ same_step b _ _ ∙ ap (fold_over step b) (sym (h.needs j))

  same_module : (k : ℕ) → k < c.modules → (b : Wanted) →
      wanted_at t chosen k b ≡ fold_over step b (needs_at c (chosen_at (chosen_of c chosen) k))
  same_module k l b = rw (get_or-take c.modules chosen k 0 l) (same_state (get_or chosen k 0) b)

  -- what is wanted is one fold over the needs that all chosen versions have
  one_fold : wanted_of t c chosen ≡ fold_over step none_wanted (asked c (chosen_of c chosen))
  unfolding asked
  one_fold =
      over_run _ _ (λ k b. refl) none_wanted 0 c.modules ∙
      over_flat step (wanted_at t chosen) (λ (m : ℕ). needs_at c (chosen_at (chosen_of c chosen) m)) (below c.modules)
      (λ k m. same_module k (below_mem m)) none_wanted

-- THE LAWS
module _ (t : Tables) (c : Catalogue) (h : Holds t c) (w : WellFormed c) (few : c.modules ≤ 32) (chosen : List ℕ) where
  abbrev Comes : Wanted → Type 0
  Comes r = Came (target_of c) (low_of c) (high_of c) chosen (asked c (chosen_of c chosen)) none_wanted r

  comes : Comes (wanted_of t c chosen)
  comes = rw (one_fold t c h chosen) (came (target_of c) (low_of c) (high_of c) chosen (asked c (chosen_of c chosen)) none_wanted)

  -- a module's state is the same in the table and in the selection
  same_chosen : (m x : ℕ) → m < c.modules → get_or chosen m 0 ≡ x → chosen_at (chosen_of c chosen) m ≡ x
  same_chosen m x l e = get_or-take c.modules chosen m 0 l ∙ e

  -- a module with a need that asks for it is one of the catalogue's, and asked for by the rules
  asked_for : (m k : ℕ) → first_of (λ (j : ℕ). eqb (target_of c j) m) (asked c (chosen_of c chosen)) ≡ some k →
      (m < c.modules) × (is_asked c (chosen_of c chosen) m ≡ true)
  asked_for m k e =
      let f = first_mem (λ (j : ℕ). eqb (target_of c j) m) (asked c (chosen_of c chosen)) k e in
      let q : target_of c k ≡ m = eqb-true (target_of c k) m f.1 in
      (rw q at (w.targets k (asked_mem c (chosen_of c chosen) f.0).is_need), rw q at (mem_is_asked c (chosen_of c chosen) f.0))

  -- where nothing is next, nothing is wanted
  pub wanted_none : next_modules c (chosen_of c chosen) ≡ [] → if_any (wanted_of t c chosen) ≡ None
  wanted_none e = cond_true _ _ (eq-eqb _ no_module (go (wanted_of t c chosen) comes))
    where
      go : (r : Wanted) → Comes r → r.owner.0 ≡ no_module
      go r (stayed p q) = p
      go r (found l u f) =
          let a = asked_for r.owner.0 r.need f in
          let n = next_none c (chosen_of c chosen) r.owner.0 e a.0 a.1 in
          absurd (suc_not_zero n.1 (same_chosen r.owner.0 0 a.0 u))

  -- the next module is wanted, by the first need that asks for it
  pub wanted_next : (m : ℕ) (ms : List ℕ) → next_modules c (chosen_of c chosen) ≡ m ∷ ms →
      (if_any (wanted_of t c chosen) ≡ Some (wanted_of t c chosen)) × ((wanted_of t c chosen).owner.0 ≡ m) ×
      (asking c (chosen_of c chosen) m ≡ some (wanted_of t c chosen).need)
  unfolding asking
  wanted_next m ms e =
      let both = go (wanted_of t c chosen) comes at_most in
      let l = first.fits in
      (cond_false _ _ (ne_eqb (wanted_of t c chosen).owner.0 no_module (λ q. omega (arith, both.0))), both.0, both.1)
    where
      first : Next c (chosen_of c chosen) m
      first = next_first c (chosen_of c chosen) m ms e

      at_most : (wanted_of t c chosen).owner.0 ≤ m
      at_most =
          let k = is_asked_mem c (chosen_of c chosen) m first.needed in
          let unset : get_or chosen (target_of c k.0) 0 ≡ 0 = rw k.1.1 (sym (get_or-take c.modules chosen m 0 first.fits) ∙ first.unset) in
          let l = lowest (target_of c) (low_of c) (high_of c) chosen (asked c (chosen_of c chosen)) none_wanted k.1.0 unset in
          rw (one_fold t c h chosen) (rw k.1.1 at l)

      go : (r : Wanted) → Comes r → r.owner.0 ≤ m → (r.owner.0 ≡ m) × (asking c (chosen_of c chosen) m ≡ some r.need)
      go r (stayed p q) l = let f = first.fits in absurd (omega arith)
      go r (found g u f) l =
          let a = asked_for r.owner.0 r.need f in
          let z = same_chosen r.owner.0 0 a.0 u in
          let b : m ≤ r.owner.0 = (next_is_lowest c (chosen_of c chosen) m ms e).1 r.owner.0 a.0 z a.1 in
          let q : r.owner.0 ≡ m = omega arith in
          (q, rw q at f)

  -- what is left to the next module: a number lies in the range just if every need that names the module allows it
  module _ (m : ℕ) (ms : List ℕ) (e : next_modules c (chosen_of c chosen) ≡ m ∷ ms) (v : ℕ) where
    abbrev All : Type 0
    All = (k : ℕ) → Mem k (asked c (chosen_of c chosen)) → (need_at c k).target ≡ m → ((need_at c k).low ≤ v) × (v < (need_at c k).high)

    abbrev IsWithin : Type 0
    IsWithin = ((wanted_of t c chosen).low.0 ≤ v) × (v < (wanted_of t c chosen).high.0)

    is_owner : (wanted_of t c chosen).owner.0 ≡ m
    is_owner = (wanted_next m ms e).1

    left : Ranged (target_of c) (low_of c) (high_of c) chosen (asked c (chosen_of c chosen)) none_wanted (wanted_of t c chosen) v
    left = rw (one_fold t c h chosen) (ranged (target_of c) (low_of c) (high_of c) chosen (asked c (chosen_of c chosen)) none_wanted v)

    pub within_all : IsWithin → All
    within_all i k g q = left.allowed i k g (q ∙ sym is_owner)

    pub all_within : All → IsWithin
    all_within every =
        let first = (next_first c (chosen_of c chosen) m ms e).fits in
        left.all (λ k g q. every k g (q ∙ is_owner)) (λ q. absurd (omega (arith, is_owner)))
