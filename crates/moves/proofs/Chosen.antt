-- The choices of a search: every chosen version is one of its module, and one choice more keeps that (`chosen_more`). Assumes nothing.
use mathlib.Core.Path.{◌≡◌, sym, ◌∙◌, ap}
use mathlib.Core.Logic.{⊎_elim, ◌≢◌}
use mathlib.Core.Bool.{true}
use mathlib.Core.List.{List}
use Prim.Native.Nat.{ℕ, suc, ◌≤◌, ◌<◌}
use native.Mathlib.Omega.{arith}
use lib.ListN.{length, set, take, length-set}
use lib.Seq.{take-set-lt, length-take-le}
use Rattle.rules.specs.Catalogue.{Catalogue, is_of}
use Rattle.rules.specs.Selection.{Selection, chosen_at, with_choice}
use Rattle.rules.proofs.Lists.{same_or_not}
use Rattle.rules.proofs.Selections.{chosen_new, chosen_old}

-- what is chosen of the catalogue's modules
abbrev pub chosen_of : Catalogue → (chosen : List ℕ) → Selection
chosen_of c ch = take c.modules ch

-- every module has an entry, and every chosen version is one of its module
pub record Chosen (c : Catalogue) (ch : List ℕ) : Type 0 where
  pub long : c.modules ≤ length ch
  pub placed : (k j : ℕ) → chosen_at (chosen_of c ch) k ≡ suc j → is_of c k j ≡ true

-- one more choice keeps that
module _ (c : Catalogue) (ch : List ℕ) (m i : ℕ) (h : Chosen c ch) (fits : m < c.modules) (is : is_of c m i ≡ true) where
  abbrev before : Selection
  before = chosen_of c ch

  pub same_choice : chosen_of c (set ch m (suc i)) ≡ with_choice before m i
  same_choice = take-set-lt c.modules ch m (suc i) fits

  still_placed : (k j : ℕ) → chosen_at (chosen_of c (set ch m (suc i))) k ≡ suc j → is_of c k j ≡ true
  still_placed k j e = ⊎_elim own other (same_or_not k m)
    where
      state : chosen_at (with_choice before m i) k ≡ suc j
      state = ap (λ (x : Selection). chosen_at x k) (sym same_choice) ∙ e

      own : k ≡ m → is_of c k j ≡ true
      own z =
          let l = length-take-le c.modules ch h.long in
          let tried : chosen_at (with_choice before m i) m ≡ suc i = chosen_new before m i (omega arith) in
          let both : suc j ≡ suc i = sym state ∙ ap (chosen_at (with_choice before m i)) z ∙ tried in
          let q : j ≡ i = omega arith in
          rw (z, q) is

      other : k ≢ m → is_of c k j ≡ true
      other n = h.placed k j (sym (chosen_old before m i k n) ∙ state)

  pub chosen_more : Chosen c (set ch m (suc i))
  chosen_more = record { long = rw (length-set ch m (suc i)) h.long; placed = still_placed }
