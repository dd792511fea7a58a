-- At each turn of the loop of `moves::scan::first_bar`: the scan from `k` on finds what the whole scan finds.
use Prim.Native.Nat.{suc, ◌+◌}
use Rattle.moves.specs.Scan.{bars_in, first_in}
use Rattle.moves.proofs.Scans.{Left}
use Rattle.moves.proofs.scan.first_bar.Given as goal

abbrev pub invariant-loop-k : goal.invariant-loop-k
invariant-loop-k l =
    let f = bars_in l.t l.chosen l.own l.m.0 (suc l.p.0) in
    Left (first_in f) (first_in f l.fn.needs.first l.fn.needs.count) (l.fn.needs.first + l.fn.needs.count) l.k
