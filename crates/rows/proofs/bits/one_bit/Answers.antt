-- A power of two, and past a word's last bit none. Assumes nothing.
use Rattle.rows.proofs.Computed.{one_is, one_past}
use Rattle.rows.proofs.bits.one_bit.Goals as goal

pub returns-then-at-lt-BITS : goal.returns-then-at-lt-BITS
returns-then-at-lt-BITS c = one_is _ c.if-at-lt-BITS.true

pub returns : goal.returns
returns c = one_past _ c.if-at-lt-BITS.false
