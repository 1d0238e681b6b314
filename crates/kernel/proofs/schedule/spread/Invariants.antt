use mathlib.Core.Path.{◌≡◌}
use Prim.Native.Nat.{◌≤◌}
use lib.ListN.{length}
use Rattle.kernel.specs.Fill.{Spread}
use Rattle.kernel.proofs.schedule.spread.Given as goal

abbrev pub invariant-loop-k : goal.invariant-loop-k
invariant-loop-k l = (l.k ≤ 8) × (length l.list ≡ 128) × (length l.counts ≡ 8) × Spread l.starts l.coefs l.j l.list l.counts l.k
