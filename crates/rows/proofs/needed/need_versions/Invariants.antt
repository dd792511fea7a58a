-- At each turn of the loop of `rows::needed::need_versions`: the bits from `k` on are built.
use Rattle.store.specs.Lent.{lent_of}
use Rattle.rows.specs.Bits.{in_word}
use Rattle.rows.specs.Needed.{need_bit}
use Rattle.rows.proofs.Building.{Built}
use Rattle.rows.proofs.needed.need_versions.Given as goal

abbrev pub invariant-loop-k : goal.invariant-loop-k
invariant-loop-k l = Built (need_bit (lent_of l.lent) l.need l.m.0) l.places.first (in_word l.places.count) l.word l.k
