-- `picker::sheet::write_sheet` meets its contract: the three parts make the text.
use lib.Seq.{length-take-le}
use Rattle.picker.proofs.Sheets.{sheet_stored}
use Rattle.picker.proofs.sheet.write_sheet.Goals as goal

pub returns : goal.returns
returns c =
    let given = c.args in
    let head = c.write_frame-start.ensures in
    let lines = c.copy-stop.ensures in
    let last = c.write_frame.ensures in
    let long = length-take-le given.end given.lines.now c.requires.has in
    let headed = rw c.to_be_bytes.ensures at head.area in
    let stored = sheet_stored _ given.count given.out.now long head.size headed lines.size lines.area last.size last.area in
    record { size = stored.0; area = stored.1 }
