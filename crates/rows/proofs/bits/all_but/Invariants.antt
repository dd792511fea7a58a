-- At each turn of the loop of `rows::bits::all_but`: the bits from `k` on are built.
use mathlib.Core.Bool.{not}
use lib.Dec.{eqb}
use Rattle.rows.specs.Bits.{in_word}
use Rattle.rows.proofs.Building.{Built}
use Rattle.rows.proofs.bits.all_but.Given as goal

abbrev pub invariant-loop-k : goal.invariant-loop-k
invariant-loop-k l = Built (λ i. not (eqb i l.at)) 0 (in_word l.count) l.word l.k
