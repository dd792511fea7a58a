-- `rows::bits::has_bit` meets its contract. Assumes nothing.
use Rattle.rows.proofs.Building.{bit_shifted, bit_past}
use Rattle.rows.proofs.bits.has_bit.Goals as goal

pub returns-then-at-lt-BITS : goal.returns-then-at-lt-BITS
returns-then-at-lt-BITS c = bit_shifted c.args.word c.args.at

pub returns : goal.returns
returns c = bit_past c.args.word c.args.at c.ranges.word.fits c.if-at-lt-BITS.false
