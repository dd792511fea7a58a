-- Over tables that hold a catalogue the scan of all modules finds the need that the rules' search finds (`barring_law`). Assumes nothing.
use mathlib.Core.Path.{◌≡◌, refl, sym, ◌∙◌, ap, ap₂}
use mathlib.Core.Logic.{⊎_elim, ◌≢◌}
use mathlib.Core.Bool.{Bool, true, false, ◌&&◌, not, cond}
use mathlib.Core.List.Memᴰ.{head as here}
use mathlib.Core.List.Memᴰ.{tail as there}
use mathlib.Core.List.{List, [], ◌∷◌, ◌++◌, flat_map, Memᴰ as Mem}
use mathlib.Core.Option as Rules
use mathlib.Core.Option.{none, some}
use Prim.Native.Nat.{ℕ, zero, suc, ◌<◌}
use native.Mathlib.Omega.{arith}
use lib.Dec.{eqb}
use lib.ListN.{length, get_or}
use lib.Seq.{get_or-take, length-take-le}
use borrow.Author.Tests.{eq-eqb, ne_eqb}
use Rattle.rules.specs.Lists.{first_of, up_from}
use Rattle.rules.specs.Catalogue.{Catalogue, version_at_place, need_at, is_of, is_within, in_range, WellFormed}
use Rattle.rules.specs.Selection.{Selection, chosen_at, with_choice, needs_at, asked}
use Rattle.rules.specs.Search.{leaves_out, bars, barring}
use Rattle.rules.proofs.Lists.{cond_true, cond_false, same_or_not, below_mem}
use Rattle.rules.proofs.Selections.{chosen_new, chosen_old, of_parts, needs_at_mem}
use Rattle.std.specs.Prelude.{Option, Some, None}
use Rattle.std.specs.Option.{option_or}
use Rattle.store.specs.declared.tables.Tables.{Tables}
use Rattle.store.specs.Tables.{Holds}
use Rattle.moves.specs.Scan.{leaves_out_in, bars_in, first_in, scan_state, scan_in, over_in}
use Rattle.moves.proofs.Chosen.{chosen_of, Chosen}

-- FIRST HITS
-- a hit of the rules as the code tells it
abbrev pub hit_of : Rules.Option ℕ → Option ℕ
hit_of none = None
hit_of (some k) = Some k

-- tests that agree on a list's members have the same first hit
first_agree : {A : Type 0} (f g : A → Bool) (xs : List A) → ((x : A) → Mem x xs → f x ≡ g x) → first_of f xs ≡ first_of g xs
unfolding first_of
first_agree f g [] h = refl
first_agree {A} f g (x ∷ xs) h =
    ap₂ (λ (b : Bool) (r : Rules.Option A). cond b (some x) r) (h x (here refl)) (first_agree f g xs (λ y m. h y (there m)))

-- the first hit of a run of numbers
first_number : (f : ℕ → Bool) (i n : ℕ) → first_in f i n ≡ hit_of (first_of f (up_from i n))
unfolding first_in first_of up_from
first_number f i zero = refl
first_number f i (suc n) = go (f i) (first_of f (up_from (suc i) n)) (first_number f (suc i) n)
  where
    go : {x : Option ℕ} (b : Bool) (r : Rules.Option ℕ) → x ≡ hit_of r → cond b (Some i) x ≡ hit_of (cond b (some i) r)
    go true r e = refl
    go false r e = e

module _ (f : ℕ → Bool) where
  -- the first hit of two lists is the first list's, or the second's
  first_append : (xs ys : List ℕ) → hit_of (first_of f (xs ++ ys)) ≡ option_or (hit_of (first_of f xs)) (hit_of (first_of f ys))
  unfolding first_of
  first_append [] ys = refl
  first_append (x ∷ xs) ys = go (f x) (first_of f (xs ++ ys)) (first_of f xs) (hit_of (first_of f ys)) (first_append xs ys)
    where
      go : (b : Bool) (r s : Rules.Option ℕ) (z : Option ℕ) → hit_of r ≡ option_or (hit_of s) z →
          hit_of (cond b (some x) r) ≡ option_or (hit_of (cond b (some x) s)) z
      go true r s z e = refl
      go false r s z e = e

  -- the first hit of a run of scans is that of their lists side by side
  over_number : (of : ℕ → List ℕ) (g : ℕ → Option ℕ) (i n : ℕ) → ((k : ℕ) → Mem k (up_from i n) → g k ≡ hit_of (first_of f (of k))) →
      over_in g i n ≡ hit_of (first_of f (flat_map of (up_from i n)))
  unfolding first_of over_in up_from flat_map
  over_number of g i zero e = refl
  over_number of g i (suc n) e =
      ap₂ option_or (e i (here refl)) (over_number of g (suc i) n (λ k m. e k (there m))) ∙ sym (first_append (of i) (flat_map of (up_from (suc i) n)))

-- WHAT THE TABLES TELL
module _ (t : Tables) (c : Catalogue) (holds : Holds t c) where
  -- whether a need leaves a state out
  left_out : (k x : ℕ) → leaves_out_in t k x ≡ leaves_out c k x
  unfolding in_range
  left_out k zero = refl
  left_out k (suc i) = go (holds.lows k) (holds.highs k) (holds.values i)
    where
      go : {a b v : ℕ} → a ≡ (need_at c k).low → b ≡ (need_at c k).high → v ≡ (version_at_place c i).value →
          not (is_within a b v) ≡ leaves_out c k (suc i)
      go p q r = rw (p, q, r)

  -- whether it leaves out what is chosen of the module that it names
  pub chosen_left_out : WellFormed c → (chosen : List ℕ) (k : ℕ) → k < length c.needs →
      leaves_out_in t k (get_or chosen (get_or t.targets k 0) 0) ≡
      leaves_out c k (chosen_at (chosen_of c chosen) (need_at c k).target)
  chosen_left_out well chosen k l =
      left_out k (get_or chosen (get_or t.targets k 0) 0) ∙
      ap (leaves_out c k)
      (ap (λ (x : ℕ). get_or chosen x 0) (holds.targets k) ∙ sym (get_or-take c.modules chosen (need_at c k).target 0 (well.targets k l)))

  -- the first hit among the needs that a state brings
  pub state_hit : (f : ℕ → Bool) (x : ℕ) → scan_state t f x ≡ hit_of (first_of f (needs_at c x))
  unfolding first_of
  state_hit f zero = refl
  state_hit f (suc j) = first_number f _ _ ∙ ap (λ (l : List ℕ). hit_of (first_of f l)) (sym (holds.needs j))

-- THE LAW: module m is tried at place i, and every chosen version is one of its module
module _
    (t : Tables) (c : Catalogue) (chosen : List ℕ) (m i : ℕ)
    (holds : Holds t c) (well : WellFormed c) (placed : Chosen c chosen) (fits : m < c.modules) (is : is_of c m i ≡ true)
  where
    -- what is chosen, and the state of each module in the trial
    abbrev s : Selection
    s = chosen_of c chosen

    abbrev states : ℕ → ℕ
    states k = chosen_at (with_choice s m i) k

    tried : states m ≡ suc i
    tried = let l = length-take-le c.modules chosen placed.long in chosen_new s m i (omega arith)

    -- the code finds that state
    state_of_lem : (k : ℕ) → k < c.modules → cond (eqb k m) (suc i) (get_or chosen k 0) ≡ states k
    state_of_lem k h =
        ⊎_elim (λ e. cond_true _ _ (eq-eqb k m e) ∙ sym (ap states e ∙ tried))
        (λ n. cond_false _ _ (ne_eqb k m n) ∙ sym (chosen_old s m i k n ∙ get_or-take c.modules chosen k 0 h))
        (same_or_not k m)

    -- a need is the tried version's just if its module is tried
    own_need : (k j : ℕ) → states k ≡ suc j → eqb k m ≡ eqb j i
    own_need k j e =
        ⊎_elim (λ z. eq-eqb k m z ∙ sym (eq-eqb j i (version_tried z)))
        (λ n. ne_eqb k m n ∙ sym (ne_eqb j i (other_version n)))
        (same_or_not k m)
      where
        version_tried : k ≡ m → j ≡ i
        version_tried z = let both = sym (sym (ap states z) ∙ e) ∙ tried in omega arith

        other_version : k ≢ m → j ≢ i
        other_version n z =
            let owner = (of_parts c k j (placed.placed k j (sym (chosen_old s m i k n) ∙ e))).1 in
            n (sym owner ∙ ap (λ (x : ℕ). (version_at_place c x).owner) z ∙ (of_parts c m i is).1)

    -- the tests agree on the needs of a module's version
    tests_agree : (k n : ℕ) → Mem n (needs_at c (states k)) →
        bars_in t chosen (eqb k m) m (suc i) n ≡ bars c s m i n
    tests_agree k n h =
        let need = needs_at_mem c (states k) h in
        go (own_need k (need_at c n).version need.0) (chosen_left_out t c holds well chosen n need.1)
        (ap₂ (λ (x : ℕ) (b : Bool). eqb x m && b) (holds.targets n) (left_out t c holds n (suc i)))
      where
        go : {a b x y v w : Bool} → a ≡ b → x ≡ y → v ≡ w → cond a x v ≡ cond b y w
        go p q r = rw (p, q, r)

    -- the scan of a module
    scan_hit : (k : ℕ) → k < c.modules →
        scan_in t chosen m (suc i) k ≡
        hit_of (first_of (bars c s m i) (needs_at c (states k)))
    scan_hit k h =
        let f = bars_in t chosen (eqb k m) m (suc i) in
        ap (scan_state t f) (state_of_lem k h) ∙ state_hit t c holds f (states k) ∙
        ap hit_of (first_agree f (bars c s m i) (needs_at c (states k)) (λ n q. tests_agree k n q))

    -- the scan of all modules
    pub barring_law :
        over_in (scan_in t chosen m (suc i)) 0 c.modules ≡
        hit_of (barring c s m i)
    unfolding barring asked
    barring_law =
        over_number (bars c s m i) (λ (k : ℕ). needs_at c (states k)) _ 0 c.modules (λ k q. scan_hit k (below_mem q))
