-- `rows::bits::all_but` meets its contract. Assumes nothing.
use mathlib.Core.Path.{refl}
use mathlib.Core.Bool.{not}
use Prim.Native.Nat.{◌-◌}
use native.Mathlib.Omega.{arith}
use lib.Dec.{eqb}
use Rattle.rows.proofs.Building.{digit_small, in_word_small, none_built, has_room, bit_built}
use Rattle.rows.proofs.bits.all_but.Goals as goal

pub loop-k-init : goal.loop-k-init
loop-k-init c = none_built _ _ _ c.in_word-bits.ensures

pub overflow_mul-word : goal.overflow_mul-word
overflow_mul-word c =
    let room = has_room _ _ _ c.loop-k.invariant c.loop-k-test.true (in_word_small c.args.count) in
    omega arith

pub overflow_add-word : goal.overflow_add-word
overflow_add-word c =
    let room = has_room _ _ _ c.loop-k.invariant c.loop-k-test.true (in_word_small c.args.count) in
    let bit = digit_small (not (eqb (c.loop-k.k - 1) c.args.at)) in
    omega arith

pub loop-k-preserved : goal.loop-k-preserved
loop-k-preserved c = bit_built _ _ _ c.loop-k.invariant c.loop-k-test.true (omega arith) refl c.digit_of.ensures
