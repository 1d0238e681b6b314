use mathlib.Core.Path.{◌≡◌}
use Prim.Native.Nat.{ℕ, ◌≤◌, ◌<◌}
use Rattle.lists.specs.Tabulate.{at}
use Rattle.homes.proofs.is_home.Given as goal

abbrev pub invariant-loop-c : goal.invariant-loop-c
invariant-loop-c l = (l.c ≤ l.m) × ((k : ℕ) → k < l.c → at l.homes k ≡ l.u → ⊥)
