-- At each turn of the loop of `frames::kinds::look_up`: looking in the rules' rows from here on finds what looking in all finds.
use mathlib.Core.Path.{◌≡◌}
use mathlib.Core.List.{List}
use Prim.Native.Nat.{ℕ}
use lib.ListN.{drop}
use Rattle.rules.specs.Frames as Rules
use Rattle.rules.specs.Frames.{row_in, kinds}
use Rattle.frames.specs.Kinds.{text_number}
use Rattle.frames.proofs.kinds.look_up.Given as goal

-- looking in the rows from a place on finds what looking in all of them finds
abbrev pub Same : (rows : List Rules.Kind) → (text kind from : ℕ) → Type 0
Same rs t k i = row_in rs t k ≡ row_in (drop i rs) t k

abbrev pub invariant-loop-row : goal.invariant-loop-row
invariant-loop-row l = Same kinds (text_number l.text) l.kind l.row-index
