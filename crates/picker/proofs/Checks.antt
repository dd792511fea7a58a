-- What check's answers mean: number 0 exactly for the texts of refuting sheets (`checks_exactly`), and then no selection is valid (`checked_none`); every
-- sheet that pick writes is accepted (`accepts_picked`). Assumes nothing.
use mathlib.Core.Path.{◌≡◌, refl, sym, ◌∙◌, ap}
use mathlib.Core.Bool.{Bool, true, false, cond}
use mathlib.Core.List.{List}
use mathlib.Core.Option.{Option, none, some}
use Prim.Native.Nat.{ℕ, ◌≤◌}
use native.Mathlib.Omega.{arith}
use lib.ListN.{length, take, drop}
use lib.Seq.{take_at}
use borrow.Author.Tests.{le-leb, eqb-true, eqb-false}
use Rattle.rules.specs.Lines.{fine}
use Rattle.rules.specs.Frames.{sheets, catalogues}
use Rattle.rules.specs.Catalogue.{Catalogue, WellFormed, Carried, limits}
use Rattle.rules.specs.Catalogue.{text_fault, catalogue_of}
use Rattle.rules.specs.Selection.{Selection}
use Rattle.rules.specs.Search.{best}
use Rattle.rules.specs.Sheet.{Entry, is_refuting, sheet_fault, sheet_text}
use Rattle.rules.proofs.Lists.{cond_true}
use Rattle.rules.proofs.Reading.{limits_carried}
use Rattle.rules.proofs.Theorems.{reads_well_formed, accepts_exactly, sheets_tell, picks_valid}
use Rattle.picker.specs.Entry.{work_least, is_fine, OutcomeOwes, ReadOwes}
use Rattle.picker.specs.Checking.{checked, checked_by, check_on, check_of, ChecksExactly, CheckedNone, AcceptsPicked}
use Rattle.picker.specs.declared.Checked.{Checked}
use Rattle.picker.specs.declared.Picked.{Picked}
use Rattle.picker.proofs.Numbers.{text_fine, text_most, sheet_fine}

-- CHECK where the work area is long enough
long_enough : (t h w : List ℕ) → work_least ≤ length w → check_of t h w ≡ check_on t h
long_enough t h w l = cond_true _ _ (le-leb work_least (length w) l)

-- a catalogue that reads, and a sheet that refutes
accepted : (t h : List ℕ) → text_fault limits t ≡ fine → sheet_fault limits (catalogue_of limits t) h ≡ fine → check_on t h ≡ checked fine 0
accepted t h e f =
    cond_true _ _ (ap is_fine e) ∙ ap (checked_by sheets) f

-- and only then
only_accepted : (t h : List ℕ) → (check_on t h).number ≡ 0 → (text_fault limits t ≡ fine) × (sheet_fault limits (catalogue_of limits t) h ≡ fine)
only_accepted t h = go (is_fine (text_fault limits t)) refl
  where
    go : (b : Bool) → is_fine (text_fault limits t) ≡ b →
        (cond b (checked_by sheets (sheet_fault limits (catalogue_of limits t) h)) (checked_by catalogues (text_fault limits t))).number ≡ 0 →
        (text_fault limits t ≡ fine) × (sheet_fault limits (catalogue_of limits t) h ≡ fine)
    go true e z = (text_fine t (eqb-true _ 0 e), sheet_fine (catalogue_of limits t) h z)
    go false e z = absurd (eqb-false _ 0 e z)

read_well : (t : List ℕ) → text_fault limits t ≡ fine → WellFormed (catalogue_of limits t) × Carried (catalogue_of limits t)
read_well t e = reads_well_formed limits t limits_carried e

pub checks_exactly : ChecksExactly
checks_exactly t h w l = (told, back)
  where
    c : Catalogue
    c = catalogue_of limits t

    told : (check_of t h w).number ≡ 0 → (text_fault limits t ≡ fine) × ((es : List Entry) × (is_refuting c es ≡ true) × (h ≡ sheet_text es))
    told z =
        let both = only_accepted t h (ap (λ (x : Checked). x.number) (sym (long_enough t h w l)) ∙ z) in
        (both.0, (accepts_exactly limits c h limits_carried (read_well t both.0).1).0 both.1)

    back : (text_fault limits t ≡ fine) × ((es : List Entry) × (is_refuting c es ≡ true) × (h ≡ sheet_text es)) → (check_of t h w).number ≡ 0
    back (e, s) =
        ap (λ (x : Checked). x.number)
        (long_enough t h w l ∙ accepted t h e ((accepts_exactly limits c h limits_carried (read_well t e).1).1 s))

pub checked_none : CheckedNone
checked_none t h w l z =
    let told = (checks_exactly t h w l).0 z in
    let well = (read_well t told.0).0 in
    (picks_valid (catalogue_of limits t) well).1.0 ((sheets_tell (catalogue_of limits t) well).1 told.1.0 told.1.1)

-- A SHEET OF PICK is the text of a refuting sheet, behind which the area stays
pub accepts_picked : AcceptsPicked
accepts_picked t s h w a r u v x y fits owes nine l = go (is_fine (text_fault limits t)) refl
  where
    c : Catalogue
    c = catalogue_of limits t

    read : ReadOwes t s h a r u v
    read = (owes.fit fits).0

    -- the answer is another number where the text is refused and where a selection is found
    refused : is_fine (text_fault limits t) ≡ false → ⊥
    refused e =
        let number = ap (λ (p : Picked). p.number) (read.refused e).0 in
        let most = text_most t in
        omega (arith, number, nine, most)

    outcome : (o : Option Selection) → OutcomeOwes c o s h a r u v → text_fault limits t ≡ fine → check_of t (take r.size v) y ≡ checked fine 0
    outcome none owed e =
        let sheet = owed.0.written nine in
        let es = sheet.entries in
        let is-text : take r.size v ≡ sheet_text es =
        ap (take r.size) sheet.text ∙ take_at (sheet_text es) (drop (length (sheet_text es)) h) r.size (sym sheet.size) in
        let accepts = (accepts_exactly limits c (take r.size v) limits_carried (read_well t e).1).1 (es, sheet.refutes, is-text) in
        long_enough t (take r.size v) y l ∙ accepted t (take r.size v) e accepts
    outcome (some z) owed e =
        let number = ap (λ (p : Picked). p.number) owed.0 in
        absurd (omega (arith, number, nine))

    go : (b : Bool) → is_fine (text_fault limits t) ≡ b → check_of t (take r.size v) y ≡ checked fine 0
    go true e = outcome (best c) (read.read e) (text_fine t (eqb-true _ 0 e))
    go false e = absurd (refused e)
