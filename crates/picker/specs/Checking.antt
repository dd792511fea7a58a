-- What a call of check answers and leaves in the work area, for every two texts and any area; and what its answers mean. Assumes nothing: these are
-- definitions.
use Rattle.std.specs.Prelude.{◌≡◌, ◌↔◌, true, cond, List, ℕ, ◌≤◌, leb, length, take}
use Rattle.rules.specs.Lines.{Fault, fault, fine}
use Rattle.rules.specs.Frames.{catalogues, sheets}
use Rattle.rules.specs.Catalogue.{limits, text_fault, catalogue_of}
use Rattle.rules.specs.Sheet.{Entry, is_refuting, sheet_fault, sheet_text}
use Rattle.rules.specs.Promises.{SomeValid}
use Rattle.picker.specs.Entry.{sheet_least, work_least, zeroed, is_fine, areas_fit, PickOwes}
use Rattle.picker.specs.declared.Checked.{Checked}
use Rattle.picker.specs.declared.Picked.{Picked}

-- THE ANSWER: a number and a line of the table, and "which text was at fault": 0 neither, 1 the catalogue, 2 the sheet
abbrev pub checked : Fault → (text : ℕ) → Checked
checked x k = record { number = x.number; line = x.line; text = k }

-- a text's fault, or that it has none
abbrev pub checked_by : (text : ℕ) → Fault → Checked
checked_by k x = checked x (cond (is_fine x) 0 k)

-- the catalogue first and whole, then the sheet
abbrev pub check_on : (text sheet : List ℕ) → Checked
check_on t h = cond (is_fine (text_fault limits t)) (checked_by sheets (sheet_fault limits (catalogue_of limits t) h)) (checked_by catalogues (text_fault limits t))

-- WHAT A CHECK OWES: 11 for a work area below its minimum, and nothing changed; else the texts' answer, and the work area is all zero
abbrev pub check_of : (text sheet work : List ℕ) → Checked
check_of t h w = cond (leb work_least (length w)) (check_on t h) (checked (fault 11 0) 0)

abbrev pub work_after : (work : List ℕ) → List ℕ
work_after w = cond (leb work_least (length w)) (zeroed w) w

-- WHAT ITS ANSWERS MEAN, for any work area that is long enough. Number 0: both texts read, and the sheet's last line refutes
abbrev pub ChecksExactly : Type 0
ChecksExactly = (t h w : List ℕ) → work_least ≤ length w →
    ((check_of t h w).number ≡ 0) ↔ ((text_fault limits t ≡ fine) × ((es : List Entry) × (is_refuting (catalogue_of limits t) es ≡ true) × (h ≡ sheet_text es)))

-- then no valid selection exists
abbrev pub CheckedNone : Type 0
CheckedNone = (t h w : List ℕ) → work_least ≤ length w → (check_of t h w).number ≡ 0 → SomeValid (catalogue_of limits t) → ⊥

-- every sheet that pick writes with 9 is accepted on the same catalogue
abbrev pub AcceptsPicked : Type 0
AcceptsPicked = (t s h w : List ℕ) (a : ℕ) (r : Picked) (u v x y : List ℕ) → areas_fit s h w a ≡ true → PickOwes t s h w a r u v x → r.number ≡ 9 →
    work_least ≤ length y → check_of t (take r.size v) y ≡ checked fine 0

-- THE LINE that either call tells is no more than one past the bytes of the longest text, so two bytes hold it
abbrev pub PickLine : Type 0
PickLine = (t s h w : List ℕ) (a : ℕ) (r : Picked) (u v x : List ℕ) → PickOwes t s h w a r u v x → r.line ≤ 32769

abbrev pub CheckLine : Type 0
CheckLine = (t h w : List ℕ) → (check_of t h w).line ≤ 32769

-- THE LENGTH that a pick tells is no more than the bytes of the longest sheet, so two bytes hold it too
abbrev pub PickLength : Type 0
PickLength = (t s h w : List ℕ) (a : ℕ) (r : Picked) (u v x : List ℕ) → PickOwes t s h w a r u v x → r.size ≤ sheet_least
