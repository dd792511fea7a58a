-- A search over tables that hold a catalogue begins as by the rules: with the root chosen and nothing else (`start_root`, `start_chosen`). Assumes nothing.
use mathlib.Core.Path.{◌≡◌, refl, sym, ◌∙◌, ap, ap₂}
use mathlib.Core.List.{List, [], ◌∷◌}
use Prim.Native.Nat.{ℕ, zero, suc, ◌≤◌}
use native.Mathlib.Omega.{arith}
use native.Mathlib.Nat.{not-suc-le-zero, le_of_suc-le-suc}
use lib.ListN.{length, get_or, set, take, replicate, length-set}
use lib.Seq.{take-set-lt}
use Rattle.rules.specs.Lists.{up_from}
use Rattle.rules.specs.Catalogue.{Catalogue, WellFormed, places_of}
use Rattle.rules.specs.Selection.{Selection, chosen_at, root_only}
use Rattle.rules.specs.Search.{newest_first, search_from, search, best}
use Rattle.rules.proofs.Partials.{root_fits_lem, root_partial}
use Rattle.store.specs.declared.tables.Tables.{Tables}
use Rattle.store.specs.Tables.{Holds}
use Rattle.moves.proofs.Chosen.{chosen_of, Chosen}

-- the best selection is what the search from the root finds
pub best_found : (c : Catalogue) → best c ≡ (search_from c.modules c (newest_first c) (root_only c)).found
unfolding best search
best_found c = refl

-- the first of many numbers that are alike
taken_alike : (n k x : ℕ) → n ≤ k → take n (replicate k x) ≡ replicate n x
taken_alike zero k x h = refl
taken_alike (suc n) zero x h = absurd (not-suc-le-zero h)
taken_alike (suc n) (suc k) x h = ap (λ (l : List ℕ). x ∷ l) (taken_alike n k x (le_of_suc-le-suc h))

-- a run of one number begins with it
run_first : (i n k : ℕ) → up_from i n ≡ k ∷ [] → i ≡ k
unfolding up_from
run_first i zero k e = let l = ap length e in absurd (omega (arith, l))
run_first i (suc n) k e = ap (λ (l : List ℕ). get_or l 0 0) e

-- the root's first version chosen and nothing else
abbrev pub start_in : Tables → List ℕ
start_in t = set (replicate 32 0) 0 (suc (get_or t.firsts 0 0))

module _ (t : Tables) (c : Catalogue) (holds : Holds t c) (w : WellFormed c) (few : c.modules ≤ 32) where
  root_place : get_or t.firsts 0 0 ≡ get_or (places_of c 0) 0 0
  root_place =
      let one = w.root in
      run_first _ _ one.0 (sym (holds.places 0) ∙ one.1) ∙ sym (ap (λ (l : List ℕ). get_or l 0 0) one.1)

  -- the search begins as by the rules
  pub start_root : chosen_of c (start_in t) ≡ root_only c
  start_root =
      take-set-lt c.modules (replicate 32 0) 0 (suc (get_or t.firsts 0 0)) (root_fits_lem c w) ∙
      ap₂ (λ (s : Selection) (i : ℕ). set s 0 (suc i)) (taken_alike c.modules 32 0 few) root_place

  pub start_chosen : Chosen c (start_in t)
  start_chosen =
      record {
        long = rw (length-set (replicate 32 0) 0 (suc (get_or t.firsts 0 0))) few;
        placed = λ k j e. (root_partial c w).states k j (sym (ap (λ (s : Selection). chosen_at s k) start_root) ∙ e);
      }
