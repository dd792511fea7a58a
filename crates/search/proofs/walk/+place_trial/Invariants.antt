-- The measures of the cycle of calls {place, trial}, and what holds at each turn of a place's loop. A place tries with one unsettled module less, and a
-- trial goes on to a place with as many, so the measures are 2 u for a place and 2 u + 1 for a trial.
use mathlib.Core.Path.{◌≡◌}
use Prim.Native.Nat.{◌+◌, ◌*◌, ◌-◌}
use Rattle.moves.specs.Noting.{sheet_of}
use Rattle.search.specs.Walking.{moves_in, walk_in}
use Rattle.search.proofs.Walks.{Going}
use Rattle.search.proofs.walk.+place_trial.Given as goal

abbrev pub decreases-place : goal.decreases-place
decreases-place l = 2 * l.unsettled

abbrev pub decreases-trial : goal.decreases-trial
decreases-trial l = 2 * l.unsettled + 1

-- going on from here gives what the whole place gives, in the same area with the same allowance
abbrev pub invariant-place-loop-untried : goal.invariant-place-loop-untried
invariant-place-loop-untried l =
    let v = moves_in l.t l.modules in
    let a = l.fn.sheet.allowance in
    record {
      same : l.sheet.area.ghost_name ≡ l.fn.sheet.area.ghost_name;
      allowance : l.sheet.allowance ≡ a;
      goes : Going v a (walk_in (l.unsettled - 1) v a) l.w l.versions.first
          (walk_in l.unsettled v a l.fn.choices (sheet_of l.fn.sheet)) l.record l.untried l.came (sheet_of l.sheet);
    }
