use mathlib.Core.Path.{◌≡◌}
use mathlib.Core.Bool.{true}
use Prim.Native.Nat.{ℕ, ◌≤◌, ◌<◌}
use Rattle.homes.specs.Records.{entry_good}
use Rattle.homes.proofs.entries_good.Given as goal

abbrev pub invariant-loop-i : goal.invariant-loop-i
invariant-loop-i l = (l.i ≤ l.k) × ((n : ℕ) → n < l.i → entry_good l.y (record { failed = l.failed; k = l.k; q = 0; waiting = 0 }) n ≡ true)
