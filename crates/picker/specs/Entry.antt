-- What a call of pick answers and leaves in the lent areas, for every text and all areas. Assumes nothing: these are definitions.
use Rattle.std.specs.Prelude.{◌≡◌, ◌⊎◌, Bool, true, false, ◌&&◌, List, ◌++◌, ℕ, ◌*◌, ◌≤◌, leb, eqb, length, drop, replicate}
use Rattle.std.proofs.Math.Option.{Option, none, some}
use Rattle.rules.specs.Lines.{Fault, fault, fine}
use Rattle.rules.specs.Catalogue.{Catalogue, limits, text_fault, catalogue_of}
use Rattle.rules.specs.Selection.{Selection, selection_text}
use Rattle.rules.specs.Search.{best, trials_of}
use Rattle.rules.specs.Sheet.{Entry, most_lines, is_refuting, sheet_text}
use Rattle.picker.specs.declared.Picked.{Picked}

-- AREAS: the least bytes of each; "Work areas: minimums set by the builder"
abbrev pub selection_least : ℕ
selection_least = 428

abbrev pub sheet_least : ℕ
sheet_least = 7214

abbrev pub work_least : ℕ
work_least = 65536

-- not 11: no lent area is below its minimum, and the allowance is not above 480
abbrev pub areas_fit : (selection sheet work : List ℕ) → (allowance : ℕ) → Bool
areas_fit s h w a = leb selection_least (length s) && leb sheet_least (length h) && leb work_least (length w) && leb a most_lines

-- an area after a new text is written into it: the text "from the area's start"; "All other bytes of those areas stay"
abbrev pub over : (new old : List ℕ) → List ℕ
over xs old = xs ++ drop (length xs) old

-- a work area afterwards: "all zero"
abbrev pub zeroed : (work : List ℕ) → List ℕ
zeroed w = replicate (length w) 0

-- THE ANSWER: a number and a line of the table, and the length of the text that was written
abbrev pub picked : Fault → (size : ℕ) → Picked
picked x n = record { number = x.number; line = x.line; size = n }

-- number 0 is no fault
abbrev pub is_fine : Fault → Bool
is_fine x = eqb x.number 0

-- 9, "sheet written": a sheet that the checker accepts, with no more lines than the allowance, and its text in the area
pub record SheetWritten (c : Catalogue) (sheet : List ℕ) (allowance : ℕ) (answer : Picked) (sheetAfter : List ℕ) : Type 0 where
  pub entries : List Entry
  pub refutes : is_refuting c entries ≡ true
  pub within : length entries ≤ allowance
  pub size : answer.size ≡ length (sheet_text entries)
  pub text : sheetAfter ≡ over (sheet_text entries) sheet

-- WHERE NO SELECTION IS VALID. Left to the program are which lines a sheet has, and 9 or 10 below 2W + 1; this holds of them
pub record SheetOwes (c : Catalogue) (sheet : List ℕ) (allowance : ℕ) (answer : Picked) (sheetAfter : List ℕ) : Type 0 where
  pub either : (answer.number ≡ 9) ⊎ (answer.number ≡ 10)
  pub line_none : answer.line ≡ 0
  -- 10, "no sheet written": "never given when the allowance is 2W+1 or more", and "allowance 0 always gives 10"
  pub unwritten : answer.number ≡ 10 → (answer.size ≡ 0) × (sheetAfter ≡ sheet)
  pub too_small : answer.number ≡ 10 → allowance ≤ 2 * trials_of c
  pub none_allowed : allowance ≡ 0 → answer.number ≡ 10
  pub written : answer.number ≡ 9 → SheetWritten c sheet allowance answer sheetAfter

-- A TEXT THAT READS WELL: the best selection's text with 0, or, where none is valid, what is owed then; the other area stays
abbrev pub OutcomeOwes :
    Catalogue → (found : Option Selection) → (selection sheet : List ℕ) → (allowance : ℕ) → (answer : Picked) → (selectionAfter sheetAfter : List ℕ) → Type 0
OutcomeOwes c none s h a r u v = SheetOwes c h a r v × (u ≡ s)
OutcomeOwes c (some x) s h a r u v = (r ≡ picked fine (length (selection_text c x))) × (u ≡ over (selection_text c x) s) × (v ≡ h)

-- ANY TEXT, once the areas fit: refused with its number and line, and nothing written; or read
pub record ReadOwes (text selection sheet : List ℕ) (allowance : ℕ) (answer : Picked) (selectionAfter sheetAfter : List ℕ) : Type 0 where
  pub refused : is_fine (text_fault limits text) ≡ false → (answer ≡ picked (text_fault limits text) 0) × (selectionAfter ≡ selection) × (sheetAfter ≡ sheet)
  pub read :
      is_fine (text_fault limits text) ≡ true →
      OutcomeOwes (catalogue_of limits text) (best (catalogue_of limits text)) selection sheet allowance answer selectionAfter sheetAfter

-- WHAT A PICK OWES: 11 "changes nothing"; else what is owed of the text, and the work area is all zero
pub record PickOwes (text selection sheet work : List ℕ) (allowance : ℕ) (answer : Picked) (selectionAfter sheetAfter work_after : List ℕ) : Type 0 where
  pub unfit :
      areas_fit selection sheet work allowance ≡ false →
      (answer ≡ picked (fault 11 0) 0) × (selectionAfter ≡ selection) × (sheetAfter ≡ sheet) × (work_after ≡ work)
  pub fit :
      areas_fit selection sheet work allowance ≡ true →
      ReadOwes text selection sheet allowance answer selectionAfter sheetAfter × (work_after ≡ zeroed work)
