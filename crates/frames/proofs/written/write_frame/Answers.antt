-- `frames::written::write_frame` meets its contract.
use Rattle.frames.proofs.Areas.{nothing_yet, one_more, finished}
use Rattle.frames.proofs.written.write_frame.Goals as goal

pub loop-b-init : goal.loop-b-init
loop-b-init c = nothing_yet _ _ _

pub loop-b-preserved : goal.loop-b-preserved
loop-b-preserved c =
    one_more _ _ _ c.loop-b.invariant c.loop-b-test.true c.write_byte.ensures

pub returns-clause-area : goal.returns-clause-area
returns-clause-area c = finished _ _ _ c.loop-b.invariant c.loop-b-test.false c.write_byte-2.ensures
