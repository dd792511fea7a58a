-- Over tables that hold a catalogue a version of the next module fits just if no need bars its trial by the rules (`fits_free`, `barred_unfit`).
-- Assumes nothing.
use mathlib.Core.Path.{◌≡◌, refl, sym, ◌∙◌, ap, subst}
use mathlib.Core.Logic.{⊎_elim, ◌≢◌}
use mathlib.Core.Bool.{Bool, true, false, not, and-false}
use mathlib.Core.List.Memᴰ.{head as here}
use mathlib.Core.List.Memᴰ.{tail as there}
use mathlib.Core.List.{List, [], ◌∷◌, Memᴰ as Mem}
use mathlib.Core.Option as Rules
use mathlib.Core.Option.{none, some}
use Rattle.std.specs.Prelude.{Option, is_none}
use Prim.Native.Nat.{ℕ, suc, ◌≤◌, ◌<◌}
use native.Mathlib.Omega.{arith}
use lib.Dec.{leb}
use lib.ListN.{length, get_or}
use lib.Seq.{length-take-le}
use borrow.Author.Tests.{leb-true, ltb-true, le-leb, lt-ltb, eq-eqb, ne_eqb, not-true, not-false}
use Rattle.rules.specs.Lists.{first_of}
use Rattle.rules.specs.Catalogue.{Catalogue, WellFormed, version_at_place, need_at, is_of, is_within, in_range}
use Rattle.rules.specs.Selection.{Selection, chosen_at, with_choice, needs_at, asked, next_modules}
use Rattle.rules.specs.Search.{bars, barring, leaves_out}
use Rattle.rules.proofs.Lists.{true_or_false, not_both, and_fst, and_snd, and_both, cond_true, first_mem, first_none}
use Rattle.rules.proofs.Selections.{suc_not_zero, chosen_new, of_parts, needs_at_mem, mem_needs_at, asked_mem, mem_asked, asked_keeps, Next, next_first}
use Rattle.rules.proofs.Partials.{choice_cases, choice_keeps, bars_cases}
use Rattle.store.specs.declared.tables.Tables.{Tables}
use Rattle.store.specs.Tables.{Holds}
use Rattle.moves.specs.declared.wanted.Wanted.{Wanted}
use Rattle.moves.specs.Fitting.{fits_in}
use Rattle.moves.specs.Scan.{bars_in, scan_state}
use Rattle.moves.proofs.Chosen.{chosen_of, Chosen}
use Rattle.moves.proofs.Barring.{hit_of, chosen_left_out, state_hit}
use Rattle.moves.proofs.Asked.{wanted_of, within_all, all_within}

-- nothing passes a test that every member fails
none_first : {A : Type 0} (f : A → Bool) (xs : List A) → ((x : A) → Mem x xs → f x ≡ false) → first_of f xs ≡ none
unfolding first_of
none_first f [] h = refl
none_first f (x ∷ xs) h = rw (h x (here refl)) (none_first f xs (λ y g. h y (there g)))

-- to pass the test of a range is to lie in it
within_parts : (a b v : ℕ) → is_within a b v ≡ true → (a ≤ v) × (v < b)
within_parts a b v e = (leb-true a v (and_fst _ _ e), ltb-true v b (and_snd (leb a v) _ e))

parts_within : (a b v : ℕ) → (a ≤ v) × (v < b) → is_within a b v ≡ true
parts_within a b v h = and_both (le-leb a v h.0) (lt-ltb v b h.1)

-- module m is next, and is tried at place i
module _
    (t : Tables) (c : Catalogue) (holds : Holds t c) (w : WellFormed c) (few : c.modules ≤ 32)
    (chosen : List ℕ) (placed : Chosen c chosen) (m : ℕ) (ms : List ℕ) (is-next : next_modules c (chosen_of c chosen) ≡ m ∷ ms)
    (i : ℕ) (is : is_of c m i ≡ true)
  where
    abbrev s : Selection
    s = chosen_of c chosen

    abbrev wanted : Wanted
    wanted = wanted_of t c chosen

    abbrev value : ℕ
    value = get_or t.values i 0

    next : Next c s m
    next = next_first c s m ms is-next

    in_selection : m < length s
    in_selection = let l = length-take-le c.modules chosen placed.long in let f = next.fits in omega arith

    -- a need of a chosen version is not the tried version's
    other_version : (k : ℕ) → Mem k (asked c s) → (need_at c k).version ≢ i
    other_version k g v =
        let a = asked_mem c s g in
        let owner = (of_parts c a.needy (need_at c k).version (placed.placed a.needy _ a.chosen)).1 in
        let same : a.needy ≡ m = sym owner ∙ ap (λ (x : ℕ). (version_at_place c x).owner) v ∙ (of_parts c m i is).1 in
        suc_not_zero a.chosen (subst (λ (x : ℕ). chosen_at s x ≡ 0) (sym same) next.unset)

    -- THE RANGE THAT IS LEFT to the module: whether the version lies in it
    abbrev is_left : Bool
    is_left = is_within wanted.low.0 wanted.high.0 value

    -- a need's range, by the value that the tables have
    allowed : (k : ℕ) → in_range c (need_at c k) i ≡ true → ((need_at c k).low ≤ value) × (value < (need_at c k).high)
    unfolding in_range
    allowed k r = rw (holds.values i) (within_parts _ _ _ r)

    in_all_lem : ((k : ℕ) → Mem k (asked c s) → (need_at c k).target ≡ m → in_range c (need_at c k) i ≡ true) → is_left ≡ true
    in_all_lem every =
        parts_within _ _ _ (all_within t c holds w few chosen m ms is-next value (λ k g q. allowed k (every k g q)))

    not_in_one : (k : ℕ) → Mem k (asked c s) → (need_at c k).target ≡ m → in_range c (need_at c k) i ≡ false → is_left ≡ false
    unfolding in_range
    not_in_one k g q r = ⊎_elim (λ z. absurd (clash z)) (λ z. z) (true_or_false is_left)
      where
        clash : is_left ≡ true → ⊥
        clash z =
            let a = within_all t c holds w few chosen m ms is-next value (within_parts _ _ _ z) k g q in
            not_both (parts_within (need_at c k).low (need_at c k).high value a) (rw (holds.values i) r)

    -- THE VERSION'S OWN NEEDS, against what is chosen
    abbrev own : ℕ → Bool
    own = bars_in t chosen true wanted.owner.0 (suc i)

    abbrev own_bar : Option ℕ
    own_bar = scan_state t own (suc i)

    own_bars : (k : ℕ) → Mem k (needs_at c (suc i)) → own k ≡ bars c s m i k
    own_bars k g =
        let need = needs_at_mem c (suc i) g in
        let version : (need_at c k).version ≡ i = let e = need.0 in omega arith in
        chosen_left_out t c holds w chosen k need.1 ∙ sym (cond_true _ _ (eq-eqb _ i version))

    own_hit : own_bar ≡ hit_of (first_of own (needs_at c (suc i)))
    own_hit = state_hit t c holds own (suc i)

    own_free : ((k : ℕ) → Mem k (needs_at c (suc i)) → bars c s m i k ≡ false) → is_none own_bar ≡ true
    own_free every =
        ap is_none (own_hit ∙ ap hit_of (none_first own (needs_at c (suc i)) (λ k g. own_bars k g ∙ every k g)))

    own_barred : (k : ℕ) → Mem k (needs_at c (suc i)) → bars c s m i k ≡ true → is_none own_bar ≡ false
    own_barred k g b = go (first_of own (needs_at c (suc i))) refl
      where
        go : (x : Rules.Option ℕ) → first_of own (needs_at c (suc i)) ≡ x → is_none own_bar ≡ false
        go none e = absurd (not_both (own_bars k g ∙ b) (first_none own e g))
        go (some j) e = ap is_none (own_hit ∙ ap hit_of e)

    -- THE LAWS
    abbrev fit : Bool
    fit = fits_in t chosen wanted i

    -- a need of another version bars the trial just if it names the module and leaves the version out
    named_bars : (k : ℕ) → (need_at c k).version ≢ i → (need_at c k).target ≡ m → bars c s m i k ≡ not (in_range c (need_at c k) i)
    named_bars k v q = rw (ne_eqb _ i v, eq-eqb _ m q)

    pub fits_free : barring c s m i ≡ none → fit ≡ true
    unfolding barring
    fits_free b = and_both (in_all_lem named) (own_free mine)
      where
        named : (k : ℕ) → Mem k (asked c s) → (need_at c k).target ≡ m → in_range c (need_at c k) i ≡ true
        named k g q =
            let kept = asked_keeps c s (with_choice s m i) (choice_keeps s m i in_selection next.unset) g in
            not-false _ (sym (named_bars k (other_version k g) q) ∙ first_none (bars c s m i) b kept)

        mine : (k : ℕ) → Mem k (needs_at c (suc i)) → bars c s m i k ≡ false
        mine k g =
            let need = needs_at_mem c (suc i) g in
            first_none (bars c s m i) b
            (mem_asked c (with_choice s m i) k m next.fits (chosen_new s m i in_selection ∙ need.0) need.1)

    pub barred_unfit : (k : ℕ) → barring c s m i ≡ some k → fit ≡ false
    unfolding barring
    barred_unfit k b = ⊎_elim mine named (bars_cases c s m i k hit.1)
      where
        hit : Mem k (asked c (with_choice s m i)) × (bars c s m i k ≡ true)
        hit = first_mem (bars c s m i) (asked c (with_choice s m i)) k b

        mine : ((need_at c k).version ≡ i) × (leaves_out c k (chosen_at s (need_at c k).target) ≡ true) → fit ≡ false
        mine r =
            let is-need = (asked_mem c (with_choice s m i) hit.0).is_need in
            rw (own_barred k (mem_needs_at c (suc i) k (ap suc (sym r.0)) is-need) hit.1) (and-false is_left)

        named : ((need_at c k).version ≢ i) × ((need_at c k).target ≡ m) × (leaves_out c k (suc i) ≡ true) → fit ≡ false
        named r = rw (not_in_one k asks r.1 (not-true _ r.2))
          where
            asks : Mem k (asked c s)
            asks =
                let a = asked_mem c (with_choice s m i) hit.0 in
                ⊎_elim (λ z. absurd (r.0 z.1)) (λ z. mem_asked c s k a.needy a.fits z.1 a.is_need)
                (choice_cases s m i in_selection a.needy _ a.chosen)
