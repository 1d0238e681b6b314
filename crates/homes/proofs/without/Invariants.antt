use mathlib.Core.Path.{◌≡◌}
use Prim.Native.Nat.{ℕ, ◌≤◌, ◌<◌}
use lib.ListN.{length}
use Rattle.lists.specs.Tabulate.{at}
use Rattle.homes.specs.Dropping.{entry_without}
use Rattle.homes.proofs.without.Given as goal

abbrev pub invariant-loop-i : goal.invariant-loop-i
invariant-loop-i l = (l.i ≤ 3) × (length l.failed ≡ 3) × ((j : ℕ) → j < l.i → at l.failed j ≡ entry_without l.r l.t j)
