-- At each turn of the loop of `rows::derived::refutes`: whether all modules pass is whether those from `m` on do.
use Rattle.store.specs.Lent.{lent_of}
use Rattle.rows.proofs.Building.{Passed}
use Rattle.rows.proofs.Told.{root_or_full}
use Rattle.rows.proofs.derived.refutes.Given as goal

abbrev pub invariant-loop-m : goal.invariant-loop-m
invariant-loop-m l = Passed (root_or_full l.work l.row (lent_of l.lent)) l.lent.modules l.m
