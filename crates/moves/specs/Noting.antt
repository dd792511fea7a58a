-- The lines of a sheet that a search leaves in the work area, as text, one behind the other. Assumes nothing: these are definitions.
use Rattle.std.specs.Prelude.{◌≡◌, Bool, true, false, ◌||◌, cond, List, [], ◌∷◌, ℕ, ◌+◌, ◌*◌, ◌-◌, ◌/◌, ◌%◌, ltb, leb, length}
use Rattle.std.proofs.lemmas.List.Edits.{sets}
use Rattle.rules.specs.Frames.{frame_text}
use Rattle.rules.specs.Sheet.{Entry, cites, resolves}
use Rattle.moves.specs.declared.noting.Noted.{Noted}
use Rattle.moves.specs.declared.noting.Sheet as Kept

abbrev pub noted : (lines end : ℕ) → (over : Bool) → Noted
noted n e o = record { lines = n; end = e; over = o }

-- the work area, and how far it is written
pub record Sheet : Type 0 where
  pub area : List ℕ
  pub noted : Noted

abbrev pub sheet : (area : List ℕ) → Noted → Sheet
sheet a n = record { area = a; noted = n }

-- what the code keeps of them
abbrev pub sheet_of : Kept.Sheet → Sheet
sheet_of s = sheet s.area.now s.noted

-- what a function that is lent a sheet leaves: the same area and allowance, and the area written so far
pub record Leaves (old new : Kept.Sheet) (s : Sheet) : Type 0 where
  pub same : new.area.ghost_name ≡ old.area.ghost_name
  pub allowance : new.allowance ≡ old.allowance
  pub sheet : sheet_of new ≡ s

-- no line yet
abbrev pub fresh : (area : List ℕ) → Sheet
fresh a = sheet a (noted 0 0 false)

-- the next line's number
abbrev pub number_in : Sheet → ℕ
number_in s = s.noted.lines

-- a frame's line, with no more bytes of it than bytes can carry
abbrev pub entry_bytes : Entry → List ℕ
entry_bytes (cites k) = 33 ∷ k / 256 % 256 ∷ k % 256 ∷ []
entry_bytes (resolves a b m) = 34 ∷ a / 256 % 256 ∷ a % 256 ∷ b / 256 % 256 ∷ b % 256 ∷ m % 256 ∷ []

-- the longest line has 15 bytes
abbrev pub is_over : (allowance : ℕ) → Sheet → Bool
is_over a s = s.noted.over || leb a s.noted.lines || ltb (length s.area - s.noted.end) 15

-- one line more, or told that there is no room for it
unfoldable pub note_in : (allowance : ℕ) → (bytes : List ℕ) → Sheet → Sheet
note_in a bs s =
    cond (is_over a s) (sheet s.area (noted s.noted.lines s.noted.end true))
    (sheet (sets s.area s.noted.end (frame_text bs)) (noted (s.noted.lines + 1) (s.noted.end + (2 * length bs + 3)) false))
