use mathlib.Core.Path.{◌≡◌}
use Prim.Native.Nat.{◌+◌, ◌≤◌}
use lib.ListN.{length, get_or}
use Rattle.field.specs.Byte.{◌⊕◌}
use Rattle.lists.specs.Span.{Span}
use Rattle.kernel.specs.Plan.{picked}
use Rattle.kernel.proofs.schedule.add_plane.Given as goal

abbrev pub invariant-loop-q : goal.invariant-loop-q
invariant-loop-q l = (l.q ≤ l.count) × (length l.acc ≡ 192) × Span (λ i. get_or l.initial.acc i 0 ⊕ picked l.src l.list l.base l.q (l.o + i)) 0 l.m l.initial.acc l.acc
