-- How two versions stand to each other. Assumes nothing: these are definitions.
use Rattle.std.specs.Prelude.{cond, ℕ, ltb, eqb}
use Rattle.std.specs.declared.cmp.Ordering.{Ordering}
use Rattle.std.specs.declared.cmp.Ordering.TheVariants.{Less, Equal, Greater}

abbrev pub order_of : (one other : ℕ) → Ordering
order_of a b = cond (ltb a b) Less (cond (eqb a b) Equal Greater)
