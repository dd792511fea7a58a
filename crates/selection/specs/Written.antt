-- A selection's text as the code writes it, from a table of version values and the choices. Assumes nothing: these are definitions.
use Rattle.std.specs.Prelude.{Bool, ℕ, ◌-◌, ◌/◌, ◌%◌, ltb, length, get_or}
use mathlib.Core.List.{List, [], ◌∷◌, ◌++◌, flat_map}
use Rattle.rules.specs.Lists.{keep, below}
use Rattle.rules.specs.Frames.{frame_text}

-- a version is chosen of the module
abbrev pub is_settled : (chosen : List ℕ) → (owner : ℕ) → Bool
is_settled ch m = ltb 0 (get_or ch m 0)

-- those of the first n modules that have a version chosen
abbrev pub settled_in : (chosen : List ℕ) → (modules : ℕ) → List ℕ
settled_in ch n = keep (is_settled ch) (below n)

-- the line of a module at a version
abbrev pub line_of : (owner value : ℕ) → List ℕ
line_of m v = frame_text (18 ∷ m % 256 ∷ v / 65536 % 256 ∷ v / 256 % 256 ∷ v % 256 ∷ [])

-- the line of a module at its chosen version
abbrev pub line_in : (values chosen : List ℕ) → (owner : ℕ) → List ℕ
line_in vs ch m = line_of m (get_or vs (get_or ch m 0 - 1) 0)

abbrev pub head_of : (count : ℕ) → List ℕ
head_of n = frame_text (17 ∷ n % 256 ∷ [])

abbrev pub end_line : List ℕ
end_line = frame_text (20 ∷ [])

-- the whole text: head, a line for each module that has a version chosen, end
unfoldable pub text_in : (values chosen : List ℕ) → (modules : ℕ) → List ℕ
text_in vs ch n = head_of (length (settled_in ch n)) ++ flat_map (line_in vs ch) (settled_in ch n) ++ end_line
