-- At each turn of the loop of `selection::text::write_all`: what is written makes, with the lines to come, all lines.
use Rattle.selection.specs.Written.{is_settled, line_in}
use Rattle.selection.proofs.Turns.{Lines}
use Rattle.selection.proofs.text.write_all.Given as goal

abbrev pub invariant-loop-k : goal.invariant-loop-k
invariant-loop-k l = Lines (is_settled l.chosen) (line_in l.values l.chosen) l.initial.out l.at l.modules l.out l.end l.k
