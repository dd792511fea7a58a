-- Where the catalogue reads well, what is told of a judged sheet is what a check owes (`sheet_told`). Assumes nothing.
use mathlib.Core.Path.{◌≡◌, sym, ◌∙◌, ap, subst₂}
use mathlib.Core.List.{List}
use Prim.Native.Nat.{ℕ, ◌≤◌}
use native.Mathlib.Omega.{arith}
use lib.ListN.{length}
use Rattle.rules.specs.Lines.{Fault, fine}
use Rattle.rules.specs.Frames.{sheets}
use Rattle.rules.specs.Catalogue.{Catalogue, limits, catalogue_of}
use Rattle.rules.proofs.Lists.{cond_true}
use Rattle.store.specs.Lent.{Lent, lent_by}
use Rattle.catalogue.specs.declared.reading.Catalogue as Code
use Rattle.catalogue.specs.Reading.{CatalogueRead}
use Rattle.sheets.specs.Reading.{Given, SheetJudged}
use Rattle.sheets.proofs.Judging.{read_given}
use Rattle.picker.specs.Entry.{work_least, is_fine}
use Rattle.picker.specs.Checking.{checked_by, check_on}
use Rattle.picker.specs.declared.Checked.{Checked}
use Rattle.picker.proofs.Readings.{ReadWell, read_fine, read_well}

-- a catalogue that is read well
module _ {text : List ℕ} {l : Code.Catalogue} (read : CatalogueRead text l fine) where
  abbrev c : Catalogue
  c = catalogue_of limits text

  well : ReadWell l c
  well = read_well text l read

  -- the catalogue that the tables hold is the one that a sheet is judged over
  given : (size : ℕ) → work_least ≤ size → Given l.tables c (lent_by l.tables l.state.modules) l.state.needs size
  given size room =
      let g = read_given text l.tables size (read_fine text l read) well.holds (omega arith) in
      record {
        lent_is = ap (lent_by l.tables) well.modules;
        needs_are = well.needs;
        room = g.room;
        holds = g.holds;
        well_formed = g.well_formed;
        narrow = g.narrow;
      }

  pub sheet_told : {sheet area exit : List ℕ} {y : Fault} {r : Checked} {lent : Lent} {needs : ℕ} → work_least ≤ length area →
      lent ≡ lent_by l.tables l.state.modules → needs ≡ l.state.needs → SheetJudged lent needs sheet area exit y → r ≡ checked_by sheets y →
      r ≡ check_on text sheet
  sheet_told {sheet} {area} {exit} {y} room is-lent is-needs judged e =
      e ∙ ap (checked_by sheets) (told.as_rules l.tables c (given (length area) room)) ∙
      sym (cond_true _ _ (ap is_fine (read_fine text l read)))
    where
      told : SheetJudged (lent_by l.tables l.state.modules) l.state.needs sheet area exit y
      told = subst₂ (λ (v : Lent) (n : ℕ). SheetJudged v n sheet area exit y) is-lent is-needs judged
