-- `picker::area::copy` meets its contract.
use Rattle.std.proofs.Common.{rules}
use mathlib.Core.Path.{refl}
use Rattle.picker.proofs.Stored.{one_copied}
use Rattle.picker.proofs.area.copy.Goals as goal

pub loop-i-preserved : goal.loop-i-preserved
loop-i-preserved c = one_copied _ _ _ _ c.loop-i.invariant c.loop-i-test.true (search rules) refl
