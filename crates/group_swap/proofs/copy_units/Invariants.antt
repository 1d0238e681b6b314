use mathlib.Core.Path.{◌≡◌}
use Prim.Native.Nat.{◌≤◌}
use lib.ListN.{length}
use Rattle.group_swap.specs.Taken.{units_copied}
use Rattle.group_swap.proofs.copy_units.Given as goal

abbrev pub invariant-loop-c : goal.invariant-loop-c
invariant-loop-c l = (l.c ≤ l.m) × (length l.out ≡ length l.initial.out) × (l.out ≡ units_copied l.on l.from l.to l.len l.src l.c l.initial.out)
