use Rattle.std.proofs.Common.{◌≤◌, length}
use Rattle.lists.specs.Those.{those}
use Rattle.parity.specs.Matrix.{set_to, Holds}
use Rattle.parity.proofs.places.Given as goal

abbrev pub invariant-loop-j : goal.invariant-loop-j
invariant-loop-j l = (l.j ≤ length l.flags) × Holds (those (set_to l.wanted l.flags) l.j) l.at l.count
