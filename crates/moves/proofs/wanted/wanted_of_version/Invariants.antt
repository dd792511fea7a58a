-- At each turn of the loop of `moves::wanted::wanted_of_version`: going on from here gives what the whole run of needs gives.
use Rattle.moves.specs.Wanted.{better_in}
use Rattle.moves.proofs.Folds.{Folded}
use Rattle.moves.proofs.wanted.wanted_of_version.Given as goal

abbrev pub invariant-loop-k : goal.invariant-loop-k
invariant-loop-k l = Folded (better_in l.t l.chosen) l.initial.w l.fn.needs.first l.fn.needs.count l.w l.k
