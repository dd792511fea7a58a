-- `moves::wanted::next_of` meets its contract.
use native.Mathlib.Omega.{arith}
use Rattle.moves.proofs.Folds.{one_done, all_done}
use Rattle.moves.proofs.wanted.next_of.Goals as goal

pub loop-k-preserved : goal.loop-k-preserved
loop-k-preserved c = one_done _ _ _ _ c.loop-k.invariant _ (omega arith) c.wanted_of_module-w.ensures

pub returns : goal.returns
returns c = all_done _ _ _ _ c.loop-k.invariant (omega arith)
