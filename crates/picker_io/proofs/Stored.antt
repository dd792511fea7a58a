-- A text that is stored over a whole array is the array (`whole_stored`). Assumes nothing.
use mathlib.Core.Path.{◌≡◌, ◌∙◌, ap}
use mathlib.Core.List.{List, [], ◌++◌, append-nil}
use Prim.Native.Nat.{ℕ, ◌+◌}
use native.Mathlib.Omega.{arith}
use lib.ListN.{length, drop, drop_of_length-le}
use lib.Seq.{sets, sets-eq}

pub whole_stored : (old new : List ℕ) → length new ≡ length old → sets old 0 new ≡ new
whole_stored old new e = sets-eq new old 0 (omega arith) ∙ ap (λ (rest : List ℕ). new ++ rest) nothing_left ∙ append-nil new
  where
    nothing_left : drop (0 + length new) old ≡ []
    nothing_left = drop_of_length-le old {i = 0 + length new} (omega arith)
