-- At each turn of the loop of `selection::text::count_settled`: what is counted makes, with those to come, all of them.
use Rattle.selection.specs.Written.{is_settled}
use Rattle.selection.proofs.Turns.{Counted}
use Rattle.selection.proofs.text.count_settled.Given as goal

abbrev pub invariant-loop-k : goal.invariant-loop-k
invariant-loop-k l = Counted (is_settled l.chosen) l.modules l.count l.k
