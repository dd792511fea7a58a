-- `rows::derived::resolved_row` meets its contract. Assumes nothing.
use mathlib.Core.Path.{◌∙◌}
use Rattle.rows.proofs.Words.{none_filled, word_filled, not_yet}
use Rattle.rows.proofs.Told.{resolved_told}
use Rattle.rows.proofs.derived.resolved_row.Goals as goal

pub loop-j-init : goal.loop-j-init
loop-j-init c = none_filled _ _ _ c.args.modules c.absent_word-absent.ensures

pub loop-j-preserved : goal.loop-j-preserved
loop-j-preserved c =
    let given = c.args in
    let so_far = c.loop-j.invariant in
    let inside = c.loop-j-test.true in
    word_filled _ _ _ so_far inside
    (resolved_told c.absent_word-absent.result given.m.0 c.loop-j.j (c.word_at-x.ensures ∙ not_yet _ _ _ so_far given.a inside)
    (c.word_at-y.ensures ∙ not_yet _ _ _ so_far given.b inside) c.resolved_word.ensures)
    c.put_word.ensures
