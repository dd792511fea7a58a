-- `moves::scan::barring` meets its contract. Assumes nothing.
use mathlib.Core.Path.{sym, ◌∙◌}
use Rattle.moves.proofs.Scans.{over_hit, over_passed, over_done}
use Rattle.moves.proofs.scan.barring.Goals as goal

pub returns-then-is_some : goal.returns-then-is_some
returns-then-is_some c = over_hit _ c.loop-k.invariant c.scan_module-hit.ensures c.loop-k-test.true (sym c.is_some.ensures ∙ c.if-is_some.true)

pub loop-k-preserved : goal.loop-k-preserved
loop-k-preserved c = over_passed _ c.loop-k.invariant c.scan_module-hit.ensures c.loop-k-test.true (sym c.is_some.ensures ∙ c.if-is_some.false)

pub returns : goal.returns
returns c = over_done _ c.loop-k.invariant c.loop-k-test.false
