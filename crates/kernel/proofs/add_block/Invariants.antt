use Prim.Native.Nat.{◌+◌, ◌-◌, ◌≤◌}
use lib.ListN.{get_or}
use Rattle.field.specs.Byte.{◌⊕◌}
use Rattle.lists.specs.Span.{Span}
use Rattle.kernel.proofs.add_block.Given as goal

abbrev pub invariant-loop-i : goal.invariant-loop-i
invariant-loop-i l = (l.i ≤ l.m) × Span (λ y. get_or l.initial.out y 0 ⊕ get_or l.b (y - l.o) 0) l.o (l.o + l.i) l.initial.out l.out
