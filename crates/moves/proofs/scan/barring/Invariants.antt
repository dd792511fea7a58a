-- At each turn of the loop of `moves::scan::barring`: the scans from module `k` on find what all find.
use Prim.Native.Nat.{suc}
use Rattle.moves.specs.Scan.{scan_in, over_in}
use Rattle.moves.proofs.Scans.{Left}
use Rattle.moves.proofs.scan.barring.Given as goal

abbrev pub invariant-loop-k : goal.invariant-loop-k
invariant-loop-k l =
    let g = scan_in l.t l.chosen l.m.0 (suc l.p.0) in Left (over_in g) (over_in g 0 l.modules) l.modules l.k
