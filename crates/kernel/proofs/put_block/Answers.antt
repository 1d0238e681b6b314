-- `kernel::put_block`. A copy into a part of a slice leaves the bytes around it (`put_span`).
use Rattle.std.specs.Prelude.{◌≡◌, ℕ, ◌+◌, ◌-◌, length, get_or}
use Rattle.std.proofs.Common.{arith}
use Rattle.std.proofs.Math.Path.{subst⁻¹}
use Rattle.std.proofs.lemmas.List.{places}
use Rattle.lists.specs.Span.{Span, span_cong}
use Rattle.kernel.proofs.Put.{put, put_span}
use Rattle.kernel.proofs.put_block.Goals as goal

pub returns : goal.returns
returns c = let a = c.args in
    let s = c.copy_from_slice.new.self in
    let e : a.o + a.m - a.o ≡ a.m = omega arith in
    let n : length s ≡ a.m = search (arith, places, c.copy_from_slice.ensures.after) in
    subst⁻¹ (λ (k : ℕ). Span (λ y. get_or a.b.now (y - a.o) 0) a.o (a.o + a.m) a.out.now (put a.o k a.out.now s)) e
    (span_cong (λ y. get_or s (y - a.o) 0) (λ y. get_or a.b.now (y - a.o) 0) a.o (a.o + a.m)
    (λ y i j. rw c.copy_from_slice.ensures.after (search (arith, places))) (put_span a.o a.m a.out.now s (omega arith) n))
