-- A text read whole: what is owed of it, from what the line loop owes of any text (`read_owed`); and where no fault is told the tables hold the catalogue
-- that the rules read (`read_whole`). Assumes nothing.
use mathlib.Core.Path.{◌≡◌, refl, sym, ◌∙◌, ap}
use mathlib.Core.List.{List}
use Prim.Native.Nat.{ℕ, ◌≤◌}
use lib.ListN.{length}
use borrow.Author.Tests.{le-ltb}
use Rattle.rules.specs.Lines.{Fault, fine, Line, lines_of}
use Rattle.rules.specs.Frames.{Reader, Read, got, read_text, read_or}
use Rattle.rules.specs.Catalogue.{Reading, limits, text_fault, catalogue_of}
use Rattle.rules.proofs.Readers.{Run, stop, step, fine_text}
use Rattle.frames.specs.Texts.{reached_from, TextRead}
use Rattle.store.proofs.Kept.{reads_start}
use Rattle.catalogue.specs.declared.reading.Catalogue.{Catalogue}
use Rattle.catalogue.specs.Reading.{start, reader, StandsFor, nothing_read, reached_in, CatalogueRead}

-- before the first line
pub begun : StandsFor nothing_read start
begun = record { state = refl; reads = reads_start }

pub read_owed : {t : List ℕ} {c : Catalogue} {x : Fault} → TextRead reader StandsFor limits.bytes start t c x → CatalogueRead t c x
read_owed r = record { fault_is = r.fault_is; state = r.reached.state; tables = r.reached.reads.tidy.holds; few = r.reached.reads.tidy.versions_fit }

-- a run ends in the state that is reached
run_reached : {r : Reader Reading} {s u : Reading} {ls : List Line} → Run r s ls u → reached_from r s ls ≡ u
unfolding reached_from
run_reached (stop e z) = refl
run_reached (step e n) = rw e (run_reached n)

pub read_whole : (t : List ℕ) → text_fault limits t ≡ fine → (reached_in t).sofar ≡ catalogue_of limits t
read_whole t e = ap (λ (u : Reading). u.sofar) (in_time ∙ run_reached r.3) ∙ sym (ap (λ (x : Read Reading). (read_or start x).sofar) r.1)
  where
    r : (u : Reading) × (read_text reader limits.bytes start t ≡ got u) × (length t ≤ limits.bytes) × Run reader start (lines_of t) u
    r = fine_text reader limits.bytes start t e

    in_time : reached_in t ≡ reached_from reader start (lines_of t)
    in_time = rw (le-ltb limits.bytes (length t) r.2)
