-- At each turn of the loop of `rows::needed::write_need`: the first `j` words of the row are written.
use Rattle.store.specs.Lent.{lent_of}
use Rattle.rows.specs.Needed.{need_word}
use Rattle.rows.proofs.Words.{Filled}
use Rattle.rows.proofs.needed.write_need.Given as goal

abbrev pub invariant-loop-j : goal.invariant-loop-j
invariant-loop-j l = Filled l.initial.work l.row (need_word (lent_of l.lent) l.absent l.need) l.absent l.work l.j
