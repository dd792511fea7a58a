-- One less than the next bit, and from a word's last bit on the largest word. Assumes nothing.
use native.Mathlib.Omega.{arith}
use Rattle.rows.proofs.Computed.{all_before, all_of_word}
use Rattle.rows.proofs.bits.all_bits.Goals as goal

pub overflow_sub-result : goal.overflow_sub-result
overflow_sub-result c = omega (arith, all_before _ c.if-count-lt-BITS.true)

pub returns-then-count-lt-BITS : goal.returns-then-count-lt-BITS
returns-then-count-lt-BITS c = omega (arith, all_before _ c.if-count-lt-BITS.true)

pub returns : goal.returns
returns c = all_of_word _ c.if-count-lt-BITS.false
