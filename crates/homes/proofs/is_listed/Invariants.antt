use mathlib.Core.Path.{◌≡◌}
use Prim.Native.Nat.{ℕ, ◌≤◌, ◌<◌}
use Rattle.lists.specs.Tabulate.{at}
use Rattle.homes.proofs.is_listed.Given as goal

abbrev pub invariant-loop-i : goal.invariant-loop-i
invariant-loop-i l = (l.i ≤ l.j) × ((k : ℕ) → k < l.i → at l.failed k ≡ l.t → ⊥)
