-- What a frame of a sheet means to the reader's code. Assumes nothing: these are definitions.
use Rattle.std.specs.Prelude.{true, ◌&&◌, not, cond, List, ℕ, ◌+◌, ◌-◌, ltb, eqb, length}
use Rattle.rules.specs.Lists.{is_in}
use Rattle.rules.specs.Frames.{byte_at, kind_of, pair_at, sheets, kinds, row_in}
use Rattle.rules.specs.Sheet.{SheetReading, most_lines}
use Rattle.store.specs.Frame.{module_no, stands_number, checks}
use Rattle.frames.specs.Kinds.{kind_number}
use Rattle.frames.specs.declared.numbers.ModuleNo.{ModuleNo}
use Rattle.sheets.specs.declared.frame.Fields as Code
use Rattle.sheets.specs.declared.frame.State as Code_State

-- THE FIELDS of a frame, its kind by its number, and where a reading stands (0 before the head, 1 in the body, 2 after the end), how many lines are due and
-- how many have been read
pub record Fields : Type 0 where
  pub kind : ℕ
  pub first : ℕ
  pub second : ℕ
  pub owner : ModuleNo

pub record State : Type 0 where
  pub stands : ℕ
  pub due : ℕ
  pub lines : ℕ

-- as the code has them, by enums
abbrev pub fields_told : Code.Fields → Fields
fields_told f = record { kind = kind_number f.kind; first = f.first; second = f.second; owner = f.owner }

abbrev pub state_told : Code_State.State → State
state_told s = record { stands = stands_number s.stands; due = s.due; lines = s.lines }

-- what the code keeps of a reading beside the rows
abbrev pub state_of : SheetReading → State
state_of u = record { stands = u.stands; due = u.due; lines = length u.entries }

-- the fields of a frame whose first, second and third field stand at these places
abbrev pub fields_at : (first second third : ℕ) → (frame : List ℕ) → Fields
fields_at i j k f = record { kind = byte_at f 0; first = pair_at f i; second = pair_at f j; owner = module_no (byte_at f k) }

-- by the row of the frame's kind in the table
abbrev pub fields_in : (frame : List ℕ) → Fields
fields_in f =
    fields_at (row_in kinds sheets (kind_of f)).first (row_in kinds sheets (kind_of f)).second (row_in kinds sheets (kind_of f)).third f

-- 5 and 6, kind by kind: a head, a need line and a resolved line where lines are due, an end where none is
abbrev pub head_fault : State → Fields → ℕ
head_fault s f = checks (eqb s.stands 0) (is_in 1 most_lines f.first) true

abbrev pub need_fault : State → (needs : ℕ) → Fields → ℕ
need_fault s n f = checks (eqb s.stands 1 && not (eqb s.due 0)) (ltb f.first n) true

abbrev pub resolved_fault : State → (modules : ℕ) → Fields → ℕ
resolved_fault s m f =
    checks (eqb s.stands 1 && not (eqb s.due 0)) (ltb f.first s.lines && ltb f.second s.lines && ltb f.owner.0 m) true

abbrev pub end_fault : State → ℕ
end_fault s = checks (eqb s.stands 1 && eqb s.due 0) true true

unfoldable pub frame_fault : State → (modules needs : ℕ) → Fields → ℕ
frame_fault s m n f =
    cond (eqb f.kind 32) (head_fault s f)
    (cond (eqb f.kind 33) (need_fault s n f)
    (cond (eqb f.kind 34) (resolved_fault s m f) (end_fault s)))

-- how the reading goes on
unfoldable pub after : State → Fields → State
after s f =
    cond (eqb f.kind 32) (record { stands = 1; due = f.first; lines = 0 })
    (cond (eqb f.kind 36) (record { stands = 2; due = 0; lines = s.lines })
    (record { stands = 1; due = s.due - 1; lines = s.lines + 1 }))
