-- The target stands in none of the columns passed.
use Rattle.std.proofs.Common.{◌≢◌, ℕ, ◌<◌}
use Rattle.lists.specs.Tabulate.{at}
use Rattle.tile.proofs.find.Given as goal

abbrev pub invariant-loop-i : goal.invariant-loop-i
invariant-loop-i l = (k : ℕ) → k < l.i → at l.a k ≢ l.t
