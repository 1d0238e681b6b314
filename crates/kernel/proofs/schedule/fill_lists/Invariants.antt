use mathlib.Core.Path.{◌≡◌}
use lib.ListN.{length}
use Rattle.kernel.specs.Fill.{Planes}
use Rattle.kernel.proofs.schedule.fill_lists.Given as goal

abbrev pub invariant-loop-j : goal.invariant-loop-j
invariant-loop-j l = (length l.list ≡ 128) × (length l.counts ≡ 8) × Planes l.starts l.coefs l.j l.list l.counts 8
