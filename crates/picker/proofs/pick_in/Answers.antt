-- `picker::pick_in` meets its contract: each way out is what is owed there. Behind the reading the text is known to be read (`known`).
use native.Mathlib.Omega.{arith}
use Rattle.picker.proofs.Readings.{places_fit, root_fits_lem}
use Rattle.picker.proofs.Answers.{known, few_modules, text_fits, selected, unsheeted, lines_there, lines_fit, sheet_fits, sheeted}
use Rattle.picker.proofs.pick_in.Goals as goal

pub find-requires-clause-places : goal.find-requires-clause-places
find-requires-clause-places c = places_fit (known c.requires c.in_default.ensures).well

pub find-requires-clause-root : goal.find-requires-clause-root
find-requires-clause-root c = root_fits_lem (known c.requires c.in_default.ensures).well

-- A SELECTION
pub write_selection-size-requires-clause-modules_bound : goal.write_selection-size-requires-clause-modules_bound
write_selection-size-requires-clause-modules_bound c = few_modules (known c.requires c.in_default.ensures)

pub overflow_cast-size : goal.overflow_cast-size
overflow_cast-size c = omega (arith, c.write_selection-size.ensures.size, text_fits (known c.requires c.in_default.ensures) c.in-Ok.choices.chosen)

pub returns-in-Ok : goal.returns-in-Ok
returns-in-Ok c =
    let new = c.new-lines.ensures in
    let written = c.write_selection-size.ensures in
    selected (known c.requires c.in_default.ensures) new.sheet new.allowance c.in-Ok.ensures.told written.size written.area c.answer.ensures

-- NO SELECTION
pub returns-then-over : goal.returns-then-over
returns-then-over c =
    let new = c.new-lines.ensures in
    unsheeted (known c.requires c.in_default.ensures) new.sheet new.allowance c.in_default-find.ensures.told c.find.ensures.sheet.sheet c.if-over.true
    c.answer-then-over.ensures

pub write_sheet-size-requires-clause-has : goal.write_sheet-size-requires-clause-has
write_sheet-size-requires-clause-has c =
    let new = c.new-lines.ensures in
    lines_there (known c.requires c.in_default.ensures) new.sheet new.allowance c.in_default-find.ensures.told c.find.ensures.sheet.sheet c.if-over.false

pub write_sheet-size-requires-clause-room : goal.write_sheet-size-requires-clause-room
write_sheet-size-requires-clause-room c =
    let new = c.new-lines.ensures in
    let known_read = known c.requires c.in_default.ensures in
    let short = lines_fit known_read new.sheet new.allowance c.in_default-find.ensures.told c.find.ensures.sheet.sheet c.if-over.false in
    omega (arith, short, c.requires.sheet_room)

pub overflow_cast-size-2 : goal.overflow_cast-size-2
overflow_cast-size-2 c =
    let new = c.new-lines.ensures in
    let known_read = known c.requires c.in_default.ensures in
    let short = sheet_fits known_read new.sheet new.allowance c.in_default-find.ensures.told c.find.ensures.sheet.sheet c.if-over.false in
    omega (arith, c.write_sheet-size.ensures.size, short)

pub returns : goal.returns
returns c =
    let new = c.new-lines.ensures in
    let written = c.write_sheet-size.ensures in
    sheeted (known c.requires c.in_default.ensures) new.sheet new.allowance c.in_default-find.ensures.told c.find.ensures.sheet.sheet c.if-over.false
    written.size written.area c.answer-2.ensures
