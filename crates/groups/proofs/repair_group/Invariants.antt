use mathlib.Core.Path.{◌≡◌}
use Prim.Native.Nat.{◌+◌, ◌≤◌}
use lib.ListN.{length}
use Rattle.groups.specs.Mend.{mended_units}
use Rattle.groups.proofs.repair_group.Given as goal

abbrev pub invariant-loop-c : goal.invariant-loop-c
invariant-loop-c l = (l.c ≤ l.p.n + l.p.k) × (length l.image ≡ length l.initial.image) × (l.image ≡ mended_units l.p l.homes l.initial.image l.c)
