use Prim.Native.Nat.{◌≤◌}
use Rattle.parity.specs.Rows.{slot}
use Rattle.parity.specs.Matrix.{flag}
use Rattle.parity.proofs.Turns.{Filled}
use Rattle.parity.proofs.slots.Given as goal

abbrev pub invariant-loop-j : goal.invariant-loop-j
invariant-loop-j l = (l.j ≤ l.n) × Filled (slot l.n l.k (flag l.miss)) (flag l.miss) l.j l.units l.c
