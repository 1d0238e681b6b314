use mathlib.Core.Path.{◌≡◌}
use Prim.Native.Nat.{◌≤◌}
use lib.ListN.{length}
use Rattle.kernel.specs.Fill.{Plane}
use Rattle.kernel.proofs.schedule.fill_lowest.Given as goal

abbrev pub invariant-loop-j : goal.invariant-loop-j
invariant-loop-j l = (l.j ≤ l.n) × (length l.list ≡ 128) × Plane l.starts l.coefs l.j 0 l.list l.c
