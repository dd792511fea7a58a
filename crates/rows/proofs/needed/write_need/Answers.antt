-- `rows::needed::write_need` meets its contract. Assumes nothing.
use Rattle.rows.proofs.Words.{none_filled, word_filled}
use Rattle.rows.proofs.needed.write_need.Goals as goal

pub loop-j-init : goal.loop-j-init
loop-j-init c = none_filled _ _ _ _ c.absent_word-absent.ensures

pub loop-j-preserved : goal.loop-j-preserved
loop-j-preserved c =
    word_filled _ _ _ c.loop-j.invariant c.loop-j-test.true c.need_word-x.ensures c.put_word.ensures
