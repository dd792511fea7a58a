-- `moves::scan::first_bar` meets its contract. Assumes nothing.
use Rattle.moves.proofs.Scans.{first_hit, first_passed, first_done}
use Rattle.moves.proofs.scan.first_bar.Goals as goal

pub returns-then-hit : goal.returns-then-hit
returns-then-hit c = first_hit _ c.loop-k.invariant c.bars-hit.ensures c.loop-k-test.true c.if-hit.true

pub loop-k-preserved : goal.loop-k-preserved
loop-k-preserved c = first_passed _ c.loop-k.invariant c.bars-hit.ensures c.loop-k-test.true c.if-hit.false

pub returns : goal.returns
returns c = first_done _ c.loop-k.invariant c.loop-k-test.false
