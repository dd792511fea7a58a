-- What the line loop owes of any text is what is owed of a sheet's. Assumes nothing.
use mathlib.Core.Path.{refl}
use Rattle.std.proofs.Common.{rules}
use Rattle.sheets.proofs.Finished.{begun, sheet_judged}
use Rattle.sheets.proofs.reading.read_sheet.Goals as goal

pub returns : goal.returns
returns c = sheet_judged (search rules) (c.read_text.ensures.read _ (begun _ refl))
