use Prim.Native.Nat.{◌+◌, ◌*◌, ◌≤◌}
use Rattle.lists.specs.Span.{Span}
use Rattle.coding.specs.Buffer.{content_byte}
use Rattle.coding.proofs.encode.Given as goal

abbrev pub invariant-loop-i : goal.invariant-loop-i
invariant-loop-i l = (l.i ≤ l.k) × Span (content_byte l.n l.unit l.initial.buf) (l.n * l.unit) ((l.n + l.i) * l.unit) l.initial.buf l.buf
