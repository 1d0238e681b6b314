use Prim.Native.Nat.{ℕ, ◌+◌, ◌-◌, ◌<◌, ◌≤◌}
use lib.ListN.{get_or}
use Rattle.lists.specs.Span.{Span}
use Rattle.kernel.specs.Combine.{sum_at}
use Rattle.kernel.proofs.combine_in.Given as goal

abbrev pub invariant-loop-o : goal.invariant-loop-o
invariant-loop-o l = (l.o ≤ l.len) × ((x : ℕ) → get_or l.buf x 0 < 256) × Span (λ y. sum_at l.n l.coefs l.starts l.initial.buf (y - l.at)) l.at (l.at + l.o) l.initial.buf l.buf

abbrev pub decreases-loop-o : goal.decreases-loop-o
decreases-loop-o l = l.len - l.o

abbrev pub invariant-loop-o-2 : goal.invariant-loop-o-2
invariant-loop-o-2 l = (l.o ≤ l.len) × ((x : ℕ) → get_or l.buf x 0 < 256) × Span (λ y. sum_at l.n l.coefs l.starts l.initial.buf (y - l.at)) l.at (l.at + l.o) l.initial.buf l.buf

abbrev pub decreases-loop-o-2 : goal.decreases-loop-o-2
decreases-loop-o-2 l = l.len - l.o
