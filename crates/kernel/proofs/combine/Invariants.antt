use Prim.Native.Nat.{◌+◌, ◌-◌, ◌≤◌}
use lib.ListN.{get_or}
use Rattle.field.specs.Byte.{◌⊕◌}
use Rattle.lists.specs.Span.{Span}
use Rattle.kernel.specs.Schedule.{scheduled}
use Rattle.kernel.proofs.combine.Given as goal

abbrev pub invariant-loop-o : goal.invariant-loop-o
invariant-loop-o l = (l.o ≤ l.len) × Span (λ y. get_or l.initial.out y 0 ⊕ scheduled l.src l.schedule (y - l.to)) l.to (l.to + l.o) l.initial.out l.out

abbrev pub decreases-loop-o : goal.decreases-loop-o
decreases-loop-o l = l.len - l.o
