-- `picker::check_in` meets its contract: what was told of the catalogue decides, and then what was told of the sheet.
use Rattle.picker.proofs.Judgements.{sheet_told}
use Rattle.picker.proofs.check_in.Goals as goal

pub returns : goal.returns
returns c =
    sheet_told c.in_default.ensures c.requires c.lend-lent.ensures.lists c.lend-lent.ensures.needs c.read_sheet.ensures c.verdict-2.ensures
