-- A text that is read: where no fault is told the tables hold the catalogue that the rules read, which is well
-- formed (`read_well`), and its places fit the search (`places_fit`, `root_fits_lem`). Assumes nothing.
use mathlib.Core.Path.{◌≡◌, sym, ◌∙◌, ap, subst}
use mathlib.Core.List.{List}
use Prim.Native.Nat.{ℕ, ◌+◌, ◌-◌, ◌≤◌, ◌<◌}
use native.Mathlib.Omega.{arith}
use lib.ListN.{length, get_or}
use Rattle.rules.specs.Lines.{fine}
use Rattle.rules.specs.Catalogue.{Catalogue, limits, text_fault, catalogue_of, WellFormed, Carried}
use Rattle.rules.proofs.Lists.{mem_up_from, keep_mem, below_mem, length_up_from}
use Rattle.rules.proofs.Reading.{limits_carried}
use Rattle.rules.proofs.Theorems.{reads_well_formed}
use Rattle.store.specs.Frame.{State}
use Rattle.store.specs.Tables.{Holds}
use Rattle.catalogue.specs.declared.reading.Catalogue as Code
use Rattle.catalogue.specs.Reading.{reached_in, CatalogueRead}
use Rattle.catalogue.proofs.Finished.{read_whole}
use Rattle.search.specs.Walking.{PlacesFit}

-- READ WELL: tables that hold a well-formed catalogue, and how much of it there is
pub record ReadWell (l : Code.Catalogue) (c : Catalogue) : Type 0 where
  pub holds : Holds l.tables c
  pub well_formed : WellFormed c
  pub carried : Carried c
  pub modules : l.state.modules ≡ c.modules
  pub versions : l.state.versions ≡ length c.versions
  pub needs : l.state.needs ≡ length c.needs
  pub few : length c.versions ≤ 512

module _ (text : List ℕ) (l : Code.Catalogue) (read : CatalogueRead text l fine) where
  pub read_fine : text_fault limits text ≡ fine
  read_fine = sym read.fault_is

  pub read_well : ReadWell l (catalogue_of limits text)
  read_well =
      record {
        holds = subst (Holds l.tables) reached_is read.tables;
        well_formed = well.0;
        carried = well.1;
        modules = ap (λ (s : State). s.modules) read.state ∙ ap (λ (c : Catalogue). c.modules) reached_is;
        versions = ap (λ (s : State). s.versions) read.state ∙ ap (λ (c : Catalogue). length c.versions) reached_is;
        needs = ap (λ (s : State). s.needs) read.state ∙ ap (λ (c : Catalogue). length c.needs) reached_is;
        few = subst (λ (c : Catalogue). length c.versions ≤ 512) reached_is read.few;
      }
    where
      reached_is : (reached_in text).sofar ≡ catalogue_of limits text
      reached_is = read_whole text read_fine

      well : WellFormed (catalogue_of limits text) × Carried (catalogue_of limits text)
      well = reads_well_formed limits text limits_carried read_fine

-- PLACES of a module's versions are below the number of versions, which 16 bits hold
module _ {l : Code.Catalogue} {c : Catalogue} (k : ReadWell l c) where
  pub places_fit : PlacesFit l.tables
  places_fit m some =
      let first = get_or l.tables.firsts m 0 in
      let count = get_or l.tables.counts m 0 in
      let place = mem_up_from first count (first + count - 1) (omega arith) (omega arith) in
      let inside : first + count - 1 < length c.versions = below_mem (keep_mem _ _ _ (rw (← k.holds.places m) at place)).0 in
      omega (arith, k.few)

  pub root_fits_lem : get_or l.tables.firsts 0 0 < 65535
  root_fits_lem =
      let one = ap length (sym (k.holds.places 0) ∙ k.well_formed.root.1) in
      let long = length_up_from (get_or l.tables.firsts 0 0) (get_or l.tables.counts 0 0) in
      let fits = places_fit 0 (omega (arith, one, long)) in
      omega (arith, fits, one, long)
