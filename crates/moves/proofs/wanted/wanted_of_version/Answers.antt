-- `moves::wanted::wanted_of_version` meets its contract.
use native.Mathlib.Omega.{arith}
use Rattle.moves.proofs.Folds.{one_done, all_done}
use Rattle.moves.proofs.wanted.wanted_of_version.Goals as goal

pub loop-k-preserved : goal.loop-k-preserved
loop-k-preserved c = one_done _ _ _ _ c.loop-k.invariant _ (omega arith) c.better-w.ensures

pub returns : goal.returns
returns c = all_done _ _ _ _ c.loop-k.invariant (omega arith)
