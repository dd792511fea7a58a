-- `selection::text::write_all` meets its contract.
use mathlib.Core.Path.{◌∙◌, ap}
use native.Mathlib.Omega.{arith}
use lib.Seq.{sets}
use Rattle.selection.proofs.Whole.{line_length}
use Rattle.selection.proofs.Turns.{settled_yes, settled_no, line_read, has_room, line_written, line_left_out, all_written}
use Rattle.selection.proofs.text.write_all.Goals as goal
use Rattle.selection.proofs.text.write_all.Goals.{then-state-gt0, else-state-gt0}

pub write_selected-end-requires : goal.write_selected-end-requires
write_selected-end-requires c =
    let given = c.args in
    let room = has_room _ _ _ _ _ c.loop-k.invariant c.loop-k-test.true
    (settled_yes given.chosen.now _ c.at-state.ensures c.if-state-gt0.true) in
    omega (arith, c.loop-k.invariant.size)

pub loop-k-preserved : goal.loop-k-preserved
loop-k-preserved c =
    let so_far = c.loop-k.invariant in
    let inside = c.loop-k-test.true in
    let given = c.args in
    let vs = given.values.now in
    let ch = given.chosen.now in
    let state = c.at-state.ensures in
    elim c.if-state-gt0.branch [
      | then-state-gt0 w ↦
          line_written _ _ _ _ _ so_far inside (settled_yes ch _ state w.if-state-gt0.true) (line_length vs ch _) (w.end-is ∙ w.write_selected-end.ensures.size)
          (w.out-is ∙ w.write_selected-end.ensures.area ∙ ap (sets _ _) (line_read ch _ state vs w.at-v.ensures))
      | else-state-gt0 w ↦ line_left_out _ _ _ _ _ so_far inside (settled_no ch _ state w.if-state-gt0.false) w.end-is w.out-is
    ]

pub returns : goal.returns
returns c =
    let written = all_written _ _ _ _ _ c.loop-k.invariant c.loop-k-test.false in record { size = written.0; area = written.1 }
