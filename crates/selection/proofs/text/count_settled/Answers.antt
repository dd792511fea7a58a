-- `selection::text::count_settled` meets its contract.
use Rattle.selection.proofs.Turns.{settled_yes, settled_no, counts, passes, all_counted}
use Rattle.selection.proofs.text.count_settled.Goals as goal
use Rattle.selection.proofs.text.count_settled.Goals.{then-state-gt0, else-state-gt0}

pub loop-k-preserved : goal.loop-k-preserved
loop-k-preserved c =
    let so_far = c.loop-k.invariant in
    let chosen = c.args.chosen.now in
    let k = c.loop-k.k in
    let state = c.at-state.ensures in
    elim c.if-state-gt0.branch [
      | then-state-gt0 w ↦ counts _ _ so_far c.loop-k-test.true (settled_yes chosen k state w.if-state-gt0.true) w.count-is
      | else-state-gt0 w ↦ passes _ _ so_far c.loop-k-test.true (settled_no chosen k state w.if-state-gt0.false) w.count-is
    ]

pub returns : goal.returns
returns c = all_counted _ _ c.loop-k.invariant c.loop-k-test.false
