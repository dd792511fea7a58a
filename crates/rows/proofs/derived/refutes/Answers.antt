-- `rows::derived::refutes` meets its contract. Assumes nothing.
use Rattle.store.specs.Lent.{lent_of}
use Rattle.rows.proofs.Building.{one_passed, one_failed, all_passed}
use Rattle.rows.proofs.Told.{module_told, failed_told, passed_told}
use Rattle.rows.proofs.derived.refutes.Goals as goal

pub returns-then-not-m-full : goal.returns-then-not-m-full
returns-then-not-m-full c =
    let given = c.args in
    let lent = lent_of given.lent.now in
    failed_told given.work.now given.row lent
    (one_failed _ _ c.loop-m.invariant c.loop-m-test.true
    (module_told given.work.now given.row lent c.loop-m.m c.absent_word-absent.ensures c.is_full-full.ensures c.if-not-m-full.true))

pub loop-m-preserved : goal.loop-m-preserved
loop-m-preserved c =
    let given = c.args in
    one_passed _ _ c.loop-m.invariant c.loop-m-test.true
    (module_told given.work.now given.row (lent_of given.lent.now) c.loop-m.m c.absent_word-absent.ensures c.is_full-full.ensures
    c.if-not-m-full.false)

pub returns : goal.returns
returns c =
    let given = c.args in
    passed_told given.work.now given.row (lent_of given.lent.now) c.word_at.ensures c.has_bit-root.ensures
    (all_passed _ _ c.loop-m.invariant c.loop-m-test.false)
