-- At each turn of the loop of `rows::derived::resolved_row`: the first `j` words of the row are written; word `j` of both lines is still as it was.
use Rattle.rows.specs.Area.{word_at}
use Rattle.rows.specs.Derived.{resolved_word}
use Rattle.rows.proofs.Words.{Filled}
use Rattle.rows.proofs.derived.resolved_row.Given as goal

abbrev pub invariant-loop-j : goal.invariant-loop-j
invariant-loop-j l =
    Filled l.initial.work l.row (λ i. resolved_word l.absent l.m.0 (word_at l.initial.work l.a i) (word_at l.initial.work l.b i) i) l.absent l.work l.j
