-- `rows::needed::need_versions` meets its contract. Assumes nothing.
use mathlib.Core.Path.{refl, ap}
use native.Mathlib.Omega.{arith}
use Rattle.store.specs.Lent.{lent_of}
use Rattle.store.specs.declared.lookup.Span.{Span}
use Rattle.rows.proofs.Building.{digit_small, in_word_small, none_built, has_room, bit_built}
use Rattle.rows.proofs.Told.{names_told, word_unnamed, bit_named}
use Rattle.rows.proofs.needed.need_versions.Goals as goal

pub returns-then-not-eq : goal.returns-then-not-eq
returns-then-not-eq c =
    let given = c.args in
    let unnamed = names_told given.need given.m.0 c.eq.ensures c.eq-2.ensures c.if-not-eq.true in
    word_unnamed (lent_of given.lent.now) given.need given.m.0 unnamed
    (ap (λ (s : Span). s.count) c.versions_of-places.ensures) c.all_bits.ensures

pub loop-k-init : goal.loop-k-init
loop-k-init c = none_built _ _ _ c.in_word-count.ensures

pub overflow_mul-word : goal.overflow_mul-word
overflow_mul-word c =
    let room = has_room _ _ _ c.loop-k.invariant c.loop-k-test.true (in_word_small _) in
    omega arith

pub overflow_add-word : goal.overflow_add-word
overflow_add-word c =
    let room = has_room _ _ _ c.loop-k.invariant c.loop-k-test.true (in_word_small _) in
    let bit = digit_small c.named_bit-bit.result in
    omega arith

pub loop-k-preserved : goal.loop-k-preserved
loop-k-preserved c =
    let given = c.args in
    let named = names_told given.need given.m.0 c.eq.ensures c.eq-2.ensures c.if-not-eq.false in
    bit_built _ _ _ c.loop-k.invariant c.loop-k-test.true refl
    (bit_named (lent_of given.lent.now) given.need given.m.0 named _ c.named_bit-bit.ensures) c.digit_of.ensures
