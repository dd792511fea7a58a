-- A frame is judged by the state and what is lent, and a good one has its row written. Assumes nothing.
use mathlib.Core.Path.{◌≡◌, refl}
use Rattle.std.proofs.Common.{rules}
use Rattle.frames.specs.Faults.{number_of, told}
use Rattle.frames.proofs.Taken.{some_number}
use Rattle.sheets.proofs.Taken.{refused, taken}
use Rattle.sheets.proofs.reading.SheetReaderLineReader.take.Goals as goal

pub returns-in_err-frame_fault-clause-taken : goal.returns-in_err-frame_fault-clause-taken
returns-in_err-frame_fault-clause-taken c =
    let same : told c.from_residual.result ≡ number_of c.in_err-frame_fault.field-0.0 = search rules in
    rw same (refused c.fields_of-f.ensures c.requires.row c.args.self.now (some_number c.in_err-frame_fault.field-0.0) c.in_err-frame_fault.ensures)

pub returns-clause-taken : goal.returns-clause-taken
returns-clause-taken c =
    taken c.fields_of-f.ensures c.requires.row c.args.self.now _ c.in_ok-frame_fault.ensures refl refl c.after-self.ensures c.keep_line.ensures
