-- `selection::text::write_selection` meets its contract: there is room for every line, and the three parts make the text.
use native.Mathlib.Omega.{arith}
use Rattle.selection.proofs.Whole.{settled_few, text_stored}
use Rattle.selection.proofs.text.write_selection.Goals as goal

pub write_all-end-requires : goal.write_all-end-requires
write_all-end-requires c =
    let given = c.args in
    omega (arith, settled_few given.chosen.now given.modules)

pub write_frame-requires : goal.write_frame-requires
write_frame-requires c =
    let given = c.args in
    omega (arith, settled_few given.chosen.now given.modules)

pub returns : goal.returns
returns c =
    let given = c.args in
    let head = rw c.to_be_bytes.ensures at c.write_frame-start.ensures.area in
    let lines = c.write_all-end.ensures in
    let last = c.write_frame.ensures in
    let stored = text_stored given.values.now given.chosen.now given.modules given.out.now c.count_settled-count.ensures c.write_frame-start.ensures.size head
    lines.size lines.area last.size last.area in
    record { size = stored.0; area = stored.1 }
