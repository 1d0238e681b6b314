use mathlib.Core.Path.{◌≡◌}
use Prim.Native.Nat.{ℕ, ◌≤◌, ◌<◌}
use lib.ListN.{length}
use Rattle.lists.specs.Tabulate.{at}
use Rattle.homes.proofs.own_places.Given as goal

abbrev pub invariant-loop-c : goal.invariant-loop-c
invariant-loop-c l = (l.c ≤ 19) × (length l.homes ≡ 19) × ((k : ℕ) → k < l.c → at l.homes k ≡ k)
