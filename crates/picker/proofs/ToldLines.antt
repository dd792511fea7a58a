-- The line that an answer tells is at most 32,769, one past the bytes of the longest text (`pick_line`, `check_line`), and the length at most 7,214, the
-- bytes of the longest sheet (`pick_length`), so two bytes hold each. Assumes nothing.
use mathlib.Core.Path.{◌≡◌, refl, ap}
use mathlib.Core.Logic.{◌⊎◌, inl, inr}
use mathlib.Core.Bool.{Bool, true, false, cond}
use mathlib.Core.List.{List, [], ◌∷◌}
use mathlib.Core.Option.{Option, none, some}
use Prim.Native.Nat.{ℕ, suc, ◌+◌, ◌-◌, ◌≤◌}
use native.Mathlib.Omega.{arith}
use lib.Dec.{ltb, leb, eqb}
use lib.ListN.{length}
use borrow.Author.Tests.{ltb-false, eqb-true}
use Rattle.rules.specs.Lines.{fault, Line, line, with_byte, line_feed, lines_of}
use Rattle.rules.specs.Frames.{catalogues, sheets, frame_of, Reader, Read, bad, got, line_fault, read_from, read_text, fault_of}
use Rattle.rules.specs.Catalogue.{Catalogue, Carried, reading, no_catalogue, limits, catalogue_reader, text_fault, catalogue_of}
use Rattle.rules.specs.Selection.{Selection}
use Rattle.rules.specs.Search.{best}
use Rattle.rules.specs.Sheet.{sheet_reader, sheet_reading, sheet_fault}
use Rattle.rules.proofs.Reading.{limits_carried}
use Rattle.rules.proofs.SelectionText.{selection_short}
use Rattle.rules.proofs.Theorems.{reads_well_formed}
use Rattle.rules.proofs.SheetText.{sheet_short}
use Rattle.picker.specs.Entry.{sheet_least, work_least, is_fine, areas_fit, SheetOwes, OutcomeOwes, ReadOwes}
use Rattle.picker.specs.Checking.{checked, checked_by, PickLine, PickLength, CheckLine}
use Rattle.picker.specs.declared.Picked.{Picked}
use Rattle.picker.proofs.Numbers.{text_fine}

-- A TEXT has no more lines than bytes
with_byte_few : (c n : ℕ) (ls : List Line) → length ls ≤ n → length (with_byte c ls) ≤ suc n
unfolding with_byte
with_byte_few c n [] h = omega arith
with_byte_few c n (l ∷ ls) h = omega arith

lines_few : (t : List ℕ) → length (lines_of t) ≤ length t
unfolding lines_of
lines_few [] = omega arith
lines_few (c ∷ cs) = go (eqb c line_feed) (lines_few cs)
  where
    go : (b : Bool) → length (lines_of cs) ≤ length cs → length (cond b (line [] true ∷ lines_of cs) (with_byte c (lines_of cs))) ≤ suc (length cs)
    go true h = omega arith
    go false h = with_byte_few c (length cs) (lines_of cs) h

-- A READER tells no line past the one behind the last
module _ {S : Type 0} (r : Reader S) where
  abbrev Within : (most : ℕ) → Read S → Type 0
  Within n (bad x) = x.line ≤ n
  Within n (got s) = Unit {0}

  lines_within : (i most : ℕ) (s : S) (ls : List Line) → i + length ls ≤ most → Within most (read_from r i s ls)
  unfolding read_from
  lines_within i most s [] h = go (r.is_ended s) (eqb (r.last s) 0)
    where
      go : (a b : Bool) → Within most (cond a (cond b (got s) (bad (fault (r.last s) (i - 1)))) (bad (fault 5 i)))
      go true true = tt
      go true false = omega arith
      go false b = omega arith
  lines_within i most s (l ∷ ls) h = go (eqb (line_fault r s l) 0) (lines_within (suc i) most (r.after s (frame_of l.digits)) ls (omega arith))
    where
      rest : Read S
      rest = read_from r (suc i) (r.after s (frame_of l.digits)) ls

      go : (b : Bool) → Within most rest → Within most (cond b rest (bad (fault (line_fault r s l) i)))
      go true w = w
      go false w = omega arith

  text_within : (bytes : ℕ) (s : S) (t : List ℕ) → (fault_of (read_text r bytes s t)).line ≤ bytes + 1
  unfolding read_text
  text_within bytes s t = go (ltb bytes (length t)) refl
    where
      told : (x : Read S) → Within (bytes + 1) x → (fault_of x).line ≤ bytes + 1
      told (bad x) h = h
      told (got u) h = omega arith

      go : (b : Bool) → ltb bytes (length t) ≡ b → (fault_of (cond b (bad (fault 1 0)) (read_from r 1 s (lines_of t)))).line ≤ bytes + 1
      go true e = omega arith
      go false e =
          let most = ltb-false bytes (length t) e in
          let few = lines_few t in
          told (read_from r 1 s (lines_of t)) (lines_within 1 (bytes + 1) s (lines_of t) (omega arith))

text_line : (t : List ℕ) → (text_fault limits t).line ≤ 32769
text_line t = text_within (catalogue_reader limits) limits.bytes (reading 0 no_catalogue) t

-- THE CALLS
pub pick_line : PickLine
pick_line t s h w a r u v x owes = by_areas (areas_fit s h w a) refl
  where
    by_outcome : (o : Option Selection) → OutcomeOwes (catalogue_of limits t) o s h a r u v → r.line ≤ 32769
    by_outcome none owed = let told = owed.0.line_none in omega (arith, told)
    by_outcome (some y) owed = let told = ap (λ (p : Picked). p.line) owed.0 in omega (arith, told)

    by_text : (b : Bool) → is_fine (text_fault limits t) ≡ b → ReadOwes t s h a r u v → r.line ≤ 32769
    by_text true e read = by_outcome (best (catalogue_of limits t)) (read.read e)
    by_text false e read =
        let told = ap (λ (p : Picked). p.line) (read.refused e).0 in
        let most = text_line t in
        omega (arith, told, most)

    by_areas : (b : Bool) → areas_fit s h w a ≡ b → r.line ≤ 32769
    by_areas true e = by_text (is_fine (text_fault limits t)) refl (owes.fit e).0
    by_areas false e = let told = ap (λ (p : Picked). p.line) (owes.unfit e).0 in omega (arith, told)

pub pick_length : PickLength
pick_length t s h w a r u v x owes = by_areas (areas_fit s h w a) refl
  where
    c : Catalogue
    c = catalogue_of limits t

    by_number : SheetOwes c h a r v → (r.number ≡ 9) ⊎ (r.number ≡ 10) → r.size ≤ sheet_least
    by_number owed (inl e) =
        let written = owed.written e in
        let short = sheet_short c written.entries written.refutes in
        omega (arith, written.size, short)
    by_number owed (inr e) = let none = (owed.unwritten e).0 in omega (arith, none)

    by_outcome : (o : Option Selection) → Carried c → OutcomeOwes c o s h a r u v → r.size ≤ sheet_least
    by_outcome none carried owed = by_number owed.0 owed.0.either
    by_outcome (some y) carried owed =
        let told = ap (λ (p : Picked). p.size) owed.0 in
        let short = selection_short c y carried.modules in
        omega (arith, told, short)

    by_text : (b : Bool) → is_fine (text_fault limits t) ≡ b → ReadOwes t s h a r u v → r.size ≤ sheet_least
    by_text true e read =
        by_outcome (best c) (reads_well_formed limits t limits_carried (text_fine t (eqb-true _ 0 e))).1 (read.read e)
    by_text false e read = let told = ap (λ (p : Picked). p.size) (read.refused e).0 in omega (arith, told)

    by_areas : (b : Bool) → areas_fit s h w a ≡ b → r.size ≤ sheet_least
    by_areas true e = by_text (is_fine (text_fault limits t)) refl (owes.fit e).0
    by_areas false e = let told = ap (λ (p : Picked). p.size) (owes.unfit e).0 in omega (arith, told)

pub check_line : CheckLine
check_line t h w = by_area (leb work_least (length w)) (is_fine (text_fault limits t))
  where
    c : Catalogue
    c = catalogue_of limits t

    of_sheet : (sheet_fault limits c h).line ≤ 32769
    of_sheet = text_within (sheet_reader c) limits.bytes (sheet_reading 0 0 []) h

    by_area : (a b : Bool) →
        (cond a (cond b (checked_by sheets (sheet_fault limits c h)) (checked_by catalogues (text_fault limits t))) (checked (fault 11 0) 0)).line ≤ 32769
    by_area true true = of_sheet
    by_area true false = text_line t
    by_area false b = omega arith
