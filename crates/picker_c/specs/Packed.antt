-- An answer packed into one number of 64 bits, and what the calls for C owe. Assumes nothing: these are definitions.
use Rattle.std.specs.Prelude.{◌≡◌, cond, ◌&&◌, List, ℕ, ◌+◌, ◌*◌, ◌%◌, leb}
use Rattle.picker.specs.declared.Checked.{Checked}
use Rattle.picker.specs.declared.Picked.{Picked}
use Rattle.picker.specs.Entry.{PickOwes}

-- two more bytes below a number
abbrev pub below : (high two : ℕ) → ℕ
below h n = h * 65536 + n % 65536

-- from the highest byte: number (1), text at fault (1: 0 neither, 1 the catalogue, 2 the sheet), line (2), place (2), length (2)
abbrev pub packed : (number text line place size : ℕ) → ℕ
packed n t l p s = below (below (below (n * 256 + t) l) p) s

-- the text that a pick's number finds at fault: the catalogue with 1 to 8
abbrev pub text_of : (number : ℕ) → ℕ
text_of n = cond (leb 1 n && leb n 8) 1 0

-- a pick's answer; no place is told
abbrev pub packed_pick : Picked → ℕ
packed_pick p = packed p.number (text_of p.number) p.line 0 p.size

-- a check's answer; no place is told, and nothing is written
abbrev pub packed_check : Checked → ℕ
packed_check c = packed c.number c.text c.line 0 0

-- WHAT A PICK FOR C OWES: the packed answer is that of a pick that owes what the picker's own call owes
pub record PackedOwes (text selection sheet work : List ℕ) (allowance answer : ℕ) (selectionAfter sheetAfter work_after : List ℕ) : Type 0 where
  pub told : Picked
  pub packs : answer ≡ packed_pick told
  pub owes : PickOwes text selection sheet work allowance told selectionAfter sheetAfter work_after
