-- At each turn of the loop of `moves::wanted::next_of`: going on from here gives what the whole run of modules gives.
use Rattle.moves.specs.Wanted.{none_wanted, wanted_at}
use Rattle.moves.proofs.Folds.{Folded}
use Rattle.moves.proofs.wanted.next_of.Given as goal

abbrev pub invariant-loop-k : goal.invariant-loop-k
invariant-loop-k l = Folded (wanted_at l.t l.chosen) none_wanted 0 l.modules l.w l.k
