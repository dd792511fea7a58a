-- At each turn of the loop of `picker::area::copy`: the first `i` bytes are copied.
use Rattle.picker.proofs.Stored.{Copied}
use Rattle.picker.proofs.area.copy.Given as goal

abbrev pub invariant-loop-i : goal.invariant-loop-i
invariant-loop-i l = Copied l.initial.out l.at l.text l.count l.out l.i
