-- At each turn of the loop of `frames::written::write_frame`: the bytes so far are written, up to `end`, and summed.
use Rattle.frames.proofs.Areas.{Written}
use Rattle.frames.proofs.written.write_frame.Given as goal

abbrev pub invariant-loop-b : goal.invariant-loop-b
invariant-loop-b l = Written l.initial.out l.at l.bytes l.out l.sum l.b-index l.end
