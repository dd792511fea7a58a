-- A sheet's text as the code writes it, from the text of its lines. Assumes nothing: these are definitions.
use Rattle.std.specs.Prelude.{List, [], ◌∷◌, ◌++◌, ℕ, ◌/◌, ◌%◌}
use Rattle.rules.specs.Frames.{frame_text}

abbrev pub head_of : (count : ℕ) → List ℕ
head_of n = frame_text (32 ∷ n / 256 % 256 ∷ n % 256 ∷ [])

abbrev pub end_line : List ℕ
end_line = frame_text (36 ∷ [])

-- the whole text: head, lines, end
unfoldable pub sheet_in : (lines : List ℕ) → (count : ℕ) → List ℕ
sheet_in ls n = head_of n ++ ls ++ end_line
