use Prim.Native.Nat.{◌≤◌}
use Rattle.homes.specs.Standing.{HomesAre}
use Rattle.homes.proofs.homes_of.Given as goal

abbrev pub invariant-loop-i : goal.invariant-loop-i
invariant-loop-i l = (l.i ≤ l.j) × HomesAre l.targets l.m l.spares l.failed l.i l.homes
