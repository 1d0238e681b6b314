use Prim.Native.Nat.{◌≤◌}
use Rattle.lists.specs.Count.{count}
use Rattle.parity.specs.Matrix.{flag}
use Rattle.parity.specs.Steps.{slot_from}
use Rattle.parity.proofs.Turns.{Filled}
use Rattle.parity.proofs.Group.data_row.Given as goal

abbrev pub invariant-loop-j : goal.invariant-loop-j
invariant-loop-j l = (l.j ≤ l.self.n)
    × Filled (λ x. slot_from l.weights l.lines (flag l.self.miss x) (count (flag l.self.miss) x) x) (flag l.self.miss) l.j l.row l.c
