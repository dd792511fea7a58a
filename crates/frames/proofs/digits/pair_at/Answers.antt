-- `frames::digits::pair_at` meets its contract: the tests on the way to each answer tell what stands at the place.
use native.Mathlib.Omega.{arith}
use Rattle.frames.specs.declared.digits.Pair.TheVariants.{LineFeed, Wrong}
use Rattle.frames.proofs.Pairs.{past, told, first_wrong, second_missing, second_wrong, both_right}
use Rattle.frames.proofs.digits.pair_at.Goals as goal

pub returns-then-text-at : goal.returns-then-text-at
returns-then-text-at c = told _ _ Wrong (past c.if-text-at.true)

pub returns-then-first-eq10 : goal.returns-then-first-eq10
returns-then-first-eq10 c = told _ _ LineFeed (c.if-text-at.false, c.if-first-eq10.true)

pub returns-in_default : goal.returns-in_default
returns-in_default c = first_wrong _ _ c.in_default.ensures c.if-text-at.false c.if-first-eq10.false

pub returns-then-text-next : goal.returns-then-text-next
returns-then-text-next c = second_missing _ _ c.in-Some.ensures (omega arith)

pub returns-in_default-digit : goal.returns-in_default-digit
returns-in_default-digit c = second_wrong _ _ c.in-Some.ensures (omega arith) c.in_default-digit.ensures

pub returns : goal.returns
returns c = both_right _ _ c.in-Some.ensures (omega arith) c.in-Some-digit.ensures
