-- `moves::noting::Sheet::note` meets its contract: the test decides as the definition has it, and there is room for the longest line.
use mathlib.Core.Path.{refl}
use Rattle.moves.specs.Noting.{sheet_of}
use Rattle.moves.proofs.Notes.{told_over, told_noted}
use Rattle.moves.proofs.noting.Sheet.note.Goals as goal

pub returns-then-n-allowance : goal.returns-then-n-allowance
returns-then-n-allowance c =
    let given = c.args.self.now in
    record {
      same = refl;
      allowance = refl;
      sheet = told_over given.allowance (sheet_of given) c.saturating_sub-room.ensures c.args.bytes.now c.if-n-allowance.true;
    }

pub returns : goal.returns
returns c =
    let given = c.args.self.now in
    let wrote = c.write_frame-end.ensures in
    record {
      same = refl;
      allowance = refl;
      sheet = told_noted given.allowance (sheet_of given) c.saturating_sub-room.ensures c.args.bytes.now c.if-n-allowance.false wrote.size wrote.area;
    }
