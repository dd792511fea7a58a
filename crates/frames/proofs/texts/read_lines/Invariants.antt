-- At each turn of the loops of `frames::texts::read_lines`: for each reading that the reader stood for at the start it stands for that of the lines so
-- far, and the rest of the text is still to be read (`AtLine`); inside a line its bytes are known besides (`InLine`).
use mathlib.Core.Path.{◌≡◌}
use Prim.Native.Nat.{◌-◌}
use lib.ListN.{length}
use Rattle.frames.proofs.InLine.{InLine}
use Rattle.frames.proofs.Read.{Under}
use Rattle.frames.proofs.Steps.{Counted}
use Rattle.frames.proofs.texts.read_lines.Given as goal

abbrev pub invariant-lines : goal.invariant-lines
invariant-lines g l =
    let t = g.R.LineReader in
    (t.lender l.reader ≡ t.lender l.initial.reader) × Counted l.text l.at l.line × Under t.reads t.stands l.text l.at l.line l.initial.reader l.reader

abbrev pub decreases-lines : goal.decreases-lines
decreases-lines g l = length l.text - l.at

abbrev pub invariant-digits : goal.invariant-digits
invariant-digits g l = InLine l.text l.initial.at l.at l.frame l.bytes l.sum

abbrev pub decreases-digits : goal.decreases-digits
decreases-digits g l = length l.text - l.at
