-- The text that a program writes. Assumes nothing: these are definitions.
use Rattle.std.specs.Prelude.{cond, List, [], ◌∷◌, ℕ, ◌/◌, ◌%◌, eqb, take}
use Rattle.rules.specs.Frames.{frame_text}

-- "one frame: 1F, number, line (2), check"
abbrev pub told_text : (number line : ℕ) → List ℕ
told_text n l = frame_text (31 ∷ n ∷ l / 256 % 256 ∷ l % 256 ∷ [])

-- with 0 what stands at the start of the selection's area, with 9 of the sheet's, and else the told frame
abbrev pub answer_text : (number size : ℕ) → (selection sheet told : List ℕ) → List ℕ
answer_text n size selection sheet told = cond (eqb n 0) (take size selection) (cond (eqb n 9) (take size sheet) told)
