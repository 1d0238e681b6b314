use mathlib.Core.Path.{◌≡◌}
use Prim.Native.Nat.{ℕ, ◌≤◌, ◌<◌}
use lib.Dec.{eqb}
use lib.ListN.{length}
use Rattle.lists.specs.Pick.{pick}
use Rattle.lists.specs.Tabulate.{at}
use Rattle.homes.proofs.moved.Given as goal

abbrev pub invariant-loop-c : goal.invariant-loop-c
invariant-loop-c l = (l.c ≤ l.m) × (length l.after ≡ 19) × ((k : ℕ) → k < l.c → at l.after k ≡ pick (eqb (at l.targets (at l.homes k)) l.gone) l.to (at l.homes k))
