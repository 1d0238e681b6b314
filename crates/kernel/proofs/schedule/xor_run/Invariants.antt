use mathlib.Core.Path.{◌≡◌}
use Prim.Native.Nat.{◌+◌, ◌≤◌}
use lib.ListN.{length, get_or}
use Rattle.field.specs.Byte.{◌⊕◌}
use Rattle.lists.specs.Span.{Span}
use Rattle.kernel.proofs.schedule.xor_run.Given as goal

abbrev pub invariant-loop-i : goal.invariant-loop-i
invariant-loop-i l = (l.i ≤ l.m) × (length l.acc ≡ 192) × Span (λ x. get_or l.initial.acc x 0 ⊕ get_or l.src (l.s + x) 0) 0 l.i l.initial.acc l.acc
