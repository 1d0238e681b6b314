use mathlib.Core.Path.{◌≡◌}
use mathlib.Core.Bool.{false}
use Prim.Native.Nat.{ℕ, ◌≤◌, ◌<◌}
use lib.ListN.{length, get_or}
use Rattle.lists.specs.Tabulate.{at}
use Rattle.homes.specs.Listed.{listed}
use Rattle.homes.proofs.missing_of.Given as goal

abbrev pub invariant-loop-c : goal.invariant-loop-c
invariant-loop-c l = (l.c ≤ l.m) × (length l.missing ≡ 19) × ((i : ℕ) → i < l.c → get_or l.missing i false ≡ listed (at l.failed) l.k (at l.targets (at l.homes i)))
