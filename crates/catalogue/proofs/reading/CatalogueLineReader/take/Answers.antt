-- A frame is judged by what the tables tell, and a good one is kept in them. Assumes nothing.
use mathlib.Core.Path.{◌≡◌}
use Rattle.std.proofs.Common.{rules}
use Rattle.frames.specs.Faults.{number_of, told}
use Rattle.frames.proofs.Taken.{some_number}
use Rattle.catalogue.proofs.Taken.{all_got, refused, taken}
use Rattle.catalogue.proofs.reading.CatalogueLineReader.take.Goals as goal

pub returns-in_err-frame_fault-clause-taken : goal.returns-in_err-frame_fault-clause-taken
returns-in_err-frame_fault-clause-taken c =
    let same : told c.from_residual.result ≡ number_of c.in_err-frame_fault.field-0.0 = search rules in
    let got = all_got c.fields_of-f.ensures c.requires.row c.last-last.ensures c.at-count.ensures in
    rw same (refused got (some_number c.in_err-frame_fault.field-0.0) c.in_err-frame_fault.ensures)

pub returns-clause-taken : goal.returns-clause-taken
returns-clause-taken c =
    let got = all_got c.fields_of-f.ensures c.requires.row c.last-last.ensures c.at-count.ensures in
    taken got c.in_ok-frame_fault.ensures c.after-self.ensures c.keep.ensures
