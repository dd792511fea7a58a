-- What an area holds with a text stored in it: at its start (`stored_over`), and at each turn of copying a text into it (`Copied`). Assumes nothing.
use mathlib.Core.Path.{◌≡◌, ◌∙◌}
use mathlib.Core.List.{List, [], ◌∷◌, ◌++◌}
use Prim.Native.Nat.{ℕ, ◌+◌, ◌≤◌, ◌<◌}
use native.Mathlib.Omega.{arith}
use native.Mathlib.Numerals.{add-one}
use lib.ListN.{length, get_or, take, set, length-set}
use lib.Seq.{sets, sets-eq, take-suc, length-take-le}
use Rattle.frames.proofs.Areas.{sets_append}
use Rattle.picker.specs.Entry.{over}

-- A TEXT STORED AT THE START of an area that has room for it: all bytes behind it stay
pub stored_over : (new old : List ℕ) → length new ≤ length old → sets old 0 new ≡ over new old
stored_over new old l = let z : 0 + length new ≡ length new = omega arith in sets-eq new old 0 (omega arith) ∙ rw z

-- COPIED SO FAR: the first i of `count` bytes of a text are stored
pub record Copied (old : List ℕ) (at : ℕ) (text : List ℕ) (count : ℕ) (area : List ℕ) (i : ℕ) : Type 0 where
  pub within : i ≤ count
  pub size : length area ≡ length old
  pub stored : area ≡ sets old at (take i text)

module _ (old : List ℕ) (at : ℕ) (text : List ℕ) (count : ℕ) where
  module _ {area : List ℕ} {i : ℕ} (h : Copied old at text count area i) where
    pub one_copied : {x : ℕ} → i < count → count ≤ length text → x ≡ get_or text i 0 → Copied old at text count (set area (at + i) x) (i + 1)
    one_copied {x} l m e =
        record {
          within = omega arith;
          size = length-set area (at + i) x ∙ h.size;
          stored =
              rw (e, h.stored, taken)
              (sets_append old at (take i text) (get_or text i 0 ∷ []) (omega (arith, length-take-le i text (omega arith))));
        }
      where
        taken : take (i + 1) text ≡ take i text ++ (get_or text i 0 ∷ [])
        taken = rw add-one (take-suc text i 0 (omega arith))
