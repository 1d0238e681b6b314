use mathlib.Core.Path.{◌≡◌}
use mathlib.Core.Bool.{false}
use Prim.Native.Nat.{ℕ, ◌≤◌, ◌<◌}
use Rattle.lists.specs.Tabulate.{at}
use Rattle.homes.specs.Homes.{free}
use Rattle.homes.proofs.free_spare.Given as goal

abbrev pub invariant-loop-spare : goal.invariant-loop-spare
invariant-loop-spare l = (l.spare ≤ l.spares) × ((k : ℕ) → k < l.spare → free (at l.targets) l.m (at l.failed) l.j (at l.homes) k ≡ false)
