-- A sheet read by the code, over what it is lent, and what that means of a catalogue. Assumes nothing: these are definitions.
use Rattle.std.specs.Prelude.{◌≡◌, cond, List, ℕ, ◌+◌, ◌*◌, ◌-◌, ◌≤◌, ltb, eqb, length}
use Rattle.rules.specs.Lines.{Fault, unless, lines_of}
use Rattle.rules.specs.Frames.{sheets, Reader, read_text, fault_of}
use Rattle.rules.specs.Catalogue.{Catalogue, WellFormed, limits}
use Rattle.rules.specs.Sheet.{most_lines, sheet_fault}
use Rattle.frames.specs.Texts.{reached_from}
use Rattle.store.specs.declared.tables.Tables.{Tables}
use Rattle.store.specs.Lent.{Lent, lent_by, lent_of}
use Rattle.store.specs.Tables.{Holds}
use Rattle.rows.specs.Needed.{need_row}
use Rattle.rows.specs.Derived.{resolved_row, refutes_in}
use Rattle.rows.specs.Stands.{Narrow}
use Rattle.sheets.specs.Frame.{Fields, State, state_told, fields_in, frame_fault, after}
use Rattle.sheets.specs.declared.reading.SheetReader.{SheetReader}

-- the area after a good line: a need line or a resolved line adds its row, any other frame none
unfoldable pub kept_line : Lent → (area : List ℕ) → State → Fields → List ℕ
kept_line l a s f =
    cond (eqb f.kind 33)
    (need_row a s.lines l f.first)
    (cond (eqb f.kind 34) (resolved_row a s.lines l.modules f.first f.second f.owner.0) a)

-- THE READING as the code keeps it: what is lent of a catalogue with so many needs, its state, and the area with a row for each line so far
pub record Held : Type 0 where
  pub lent : Lent
  pub needs : ℕ
  pub state : State
  pub area : List ℕ

abbrev pub held : Lent → (needs : ℕ) → State → (area : List ℕ) → Held
held l n s a = record { lent = l; needs = n; state = s; area = a }

abbrev pub start : State
start = record { stands = 0; due = 0; lines = 0 }

-- the reader over what is lent: 13 where the last line's row does not refute
abbrev pub reader : Reader Held
reader = record {
  text = sheets;
  fault = λ h f. frame_fault h.state h.lent.modules h.needs (fields_in f);
  after = λ h f. held h.lent h.needs (after h.state (fields_in f)) (kept_line h.lent h.area h.state (fields_in f));
  is_ended = λ h. eqb h.state.stands 2;
  last = λ h. unless (refutes_in h.area (h.state.lines - 1) h.lent) 13;
}

-- the code's reader stands for a reading; no more lines are due and read than a sheet may have
pub record StandsFor (s : SheetReader) (h : Held) : Type 0 where
  pub held_is : held (lent_of s.lent) s.lent.needs (state_told s.state) s.work.now ≡ h
  pub few : s.state.due + s.state.lines ≤ most_lines

-- the reading of a sheet's text up to its first faulty line
abbrev pub reached_in : Lent → (needs : ℕ) → (text area : List ℕ) → Held
reached_in l n t a = reached_from reader (held l n start a) (lines_of t)

-- THE FAULT of a sheet's text over what is lent, and the area after it; a text that is too long is not read
abbrev pub fault_in : Lent → (needs : ℕ) → (text area : List ℕ) → Fault
fault_in l n t a = fault_of (read_text reader limits.bytes (held l n start a) t)

abbrev pub area_in : Lent → (needs : ℕ) → (text area : List ℕ) → List ℕ
area_in l n t a = cond (ltb limits.bytes (length t)) a (reached_in l n t a).area

-- the bytes of a work area with a row for each line that a sheet may have
abbrev pub work_bytes : ℕ
work_bytes = 132 * most_lines

-- A CATALOGUE that the tables hold: their lists are lent, it has so many needs, its incompatibilities fit into rows, and the area has so many bytes
pub record Given (t : Tables) (c : Catalogue) (l : Lent) (needs size : ℕ) : Type 0 where
  pub lent_is : l ≡ lent_by t c.modules
  pub needs_are : needs ≡ length c.needs
  pub room : work_bytes ≤ size
  pub holds : Holds t c
  pub well_formed : WellFormed c
  pub narrow : Narrow t c

-- WHAT IS OWED of a sheet: its fault and the area after it; and over every catalogue given the fault is the rules'
pub record SheetJudged (l : Lent) (needs : ℕ) (text area exit : List ℕ) (x : Fault) : Type 0 where
  pub fault_is : x ≡ fault_in l needs text area
  pub area_is : exit ≡ area_in l needs text area
  pub as_rules : (t : Tables) (c : Catalogue) → Given t c l needs (length area) → x ≡ sheet_fault limits c text
