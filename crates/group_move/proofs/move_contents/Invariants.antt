use mathlib.Core.Path.{◌≡◌}
use Prim.Native.Nat.{◌+◌, ◌≤◌}
use lib.ListN.{length}
use Rattle.group_move.specs.Moved.{contents_moved}
use Rattle.group_move.proofs.move_contents.Given as goal

abbrev pub invariant-loop-c : goal.invariant-loop-c
invariant-loop-c l = (l.c ≤ l.p.n + l.p.k) × (length l.new ≡ length l.initial.new) × (l.new ≡ contents_moved l.p l.q l.old l.c l.initial.new)
