-- `moves::fitting::cite_bar` meets its contract: where a line had no room before, which need is cited doesn't matter.
use mathlib.Core.Path.{refl, sym}
use Rattle.moves.specs.Noting.{sheet_of}
use Rattle.moves.proofs.NotedLines.{over_stays}
use Rattle.moves.proofs.fitting.cite_bar.Goals as goal

pub returns-then-sheet : goal.returns-then-sheet
returns-then-sheet c =
    let given = c.args.sheet.now in
    record { same = refl; allowance = refl; sheet = sym (over_stays given.allowance (sheet_of given) _ c.if-sheet.true) }
