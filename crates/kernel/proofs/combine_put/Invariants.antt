use Prim.Native.Nat.{◌+◌, ◌-◌, ◌≤◌}
use Rattle.lists.specs.Span.{Span}
use Rattle.kernel.specs.Schedule.{scheduled}
use Rattle.kernel.proofs.combine_put.Given as goal

abbrev pub invariant-loop-o : goal.invariant-loop-o
invariant-loop-o l = (l.o ≤ l.len) × Span (λ y. scheduled l.src l.schedule (y - l.to)) l.to (l.to + l.o) l.initial.out l.out

abbrev pub decreases-loop-o : goal.decreases-loop-o
decreases-loop-o l = l.len - l.o

abbrev pub invariant-loop-o-2 : goal.invariant-loop-o-2
invariant-loop-o-2 l = (l.o ≤ l.len) × Span (λ y. scheduled l.src l.schedule (y - l.to)) l.to (l.to + l.o) l.initial.out l.out

abbrev pub decreases-loop-o-2 : goal.decreases-loop-o-2
decreases-loop-o-2 l = l.len - l.o
