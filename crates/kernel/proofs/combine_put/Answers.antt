-- `kernel::combine_put`. Each loop keeps: the sum that the schedule names stands in the bytes from `to` to `to + o`. That this is the sum of the
-- multiples is `scheduled-sum`, once, at the end.
use mathlib.Core.Path.{refl, sym}
use Prim.Native.Nat.{ℕ, ◌+◌, ◌-◌}
use native.Mathlib.Omega.{arith}
use Rattle.lists.specs.Span.{span_none, span_cong, span_join, span_to}
use Rattle.kernel.specs.Combine.{block_span, span_over, span_again}
use Rattle.kernel.specs.Schedule.{scheduled, reaches_to}
use Rattle.kernel.proofs.Sums.{scheduled-sum, reaches}
use Rattle.kernel.proofs.combine_put.Goals as goal

pub loop-o-init : goal.loop-o-init
loop-o-init c = (omega arith, span_none _ c.args.to c.args.out.now (omega arith))

pub block-b-requires : goal.block-b-requires
block-b-requires c = let a = c.args in
    (omega arith, reaches_to (reaches a.n a.coefs.now a.starts.now c.new-schedule.result c.new-schedule.ensures a.src.now a.len c.requires.0 c.requires.2) (omega arith))

pub slice_bounds-put_block-end : goal.slice_bounds-put_block-end
slice_bounds-put_block-end c = sym c.block-b.ensures.len

pub overflow_add-to : goal.overflow_add-to
overflow_add-to c = let w = c.loop-o.invariant.1.len in omega arith

pub put_block-requires : goal.put_block-requires
put_block-requires c = let w = c.loop-o.invariant.1.len in (omega arith, omega arith)

pub loop-o-preserved : goal.loop-o-preserved
loop-o-preserved c = let a = c.args in
    let l = c.loop-o in
    let g : ℕ → ℕ = scheduled a.src.now c.new-schedule.result in (
      omega arith,
      span_join (λ y. g (y - a.to)) (λ y. g (y - a.to)) (λ y. g (y - a.to)) a.to (a.to + l.o) (a.to + (l.o + 192)) (omega arith) (omega arith) l.invariant.1
          (block_span (λ y v. v) g a.to l.o 192 (a.to + (l.o + 192)) c.block-b.result (omega arith) c.block-b.ensures c.put_block.ensures)
          (λ y i j. refl) (λ y i j. refl),
    )

pub loop-o-2-init : goal.loop-o-2-init
loop-o-2-init c = (c.loop-o.invariant.0, span_again c.loop-o.invariant.1)

pub block-b-requires-in-loop-o-2 : goal.block-b-requires-in-loop-o-2
block-b-requires-in-loop-o-2 c = let a = c.args in
    (omega arith, reaches_to (reaches a.n a.coefs.now a.starts.now c.new-schedule.result c.new-schedule.ensures a.src.now a.len c.requires.0 c.requires.2) (omega arith))

pub slice_bounds-put_block-end-in-loop-o-2 : goal.slice_bounds-put_block-end-in-loop-o-2
slice_bounds-put_block-end-in-loop-o-2 c = sym c.block-b-in-loop-o-2.ensures.len

pub overflow_add-to-in-loop-o-2 : goal.overflow_add-to-in-loop-o-2
overflow_add-to-in-loop-o-2 c = let w = c.loop-o-2.invariant.1.len in let v = c.loop-o.invariant.1.len in omega arith

pub put_block-requires-in-loop-o-2 : goal.put_block-requires-in-loop-o-2
put_block-requires-in-loop-o-2 c = let w = c.loop-o-2.invariant.1.len in let v = c.loop-o.invariant.1.len in (omega arith, omega arith)

pub loop-o-2-preserved : goal.loop-o-2-preserved
loop-o-2-preserved c = let a = c.args in
    let l = c.loop-o-2 in
    let g : ℕ → ℕ = scheduled a.src.now c.new-schedule.result in (
      omega arith,
      span_join (λ y. g (y - a.to)) (λ y. g (y - a.to)) (λ y. g (y - a.to)) a.to (a.to + l.o) (a.to + (l.o + 128)) (omega arith) (omega arith) l.invariant.1
          (block_span (λ y v. v) g a.to l.o 128 (a.to + (l.o + 128)) c.block-b-in-loop-o-2.result (omega arith) c.block-b-in-loop-o-2.ensures c.put_block-in-loop-o-2.ensures)
          (λ y i j. refl) (λ y i j. refl),
    )

pub last_block-b-requires : goal.last_block-b-requires
last_block-b-requires c = let a = c.args in
    (omega (arith, c.rest_from-from.ensures), reaches_to (reaches a.n a.coefs.now a.starts.now c.new-schedule.result c.new-schedule.ensures a.src.now a.len c.requires.0 c.requires.2) (omega (arith, c.rest_from-from.ensures)))

pub returns-then-from-len : goal.returns-then-from-len
returns-then-from-len c = let a = c.args in
    let l = c.loop-o-2 in
    let e = c.loop-o in
    let f = c.rest_from-from in
    let g : ℕ → ℕ = scheduled a.src.now c.new-schedule.result in
    span_cong _ _ a.to (a.to + a.len)
    (λ y i j. scheduled-sum a.n a.coefs.now a.starts.now c.new-schedule.result c.new-schedule.ensures a.src.now (y - a.to) (λ x. omega (arith, c.type_inv.src x)))
    (span_over (λ y. g (y - a.to)) (λ y. g (y - a.to)) a.to a.to (a.to + e.o) (a.to + a.len) (omega arith) (omega arith) (omega (arith, e.invariant.0)) e.invariant.1
    (span_over (λ y. g (y - a.to)) (λ y. g (y - a.to)) a.to (a.to + f.result) (a.to + l.o) (a.to + a.len) (omega arith) (omega (arith, f.ensures.0)) (omega arith) l.invariant.1
    (block_span (λ y v. v) g a.to f.result (a.len - f.result) (a.to + a.len) c.last_block-b.result (omega arith) c.last_block-b.ensures c.put_block-then-from-len.ensures)
    (λ y i j. refl)) (λ y i j. refl))

pub returns-else-from-len : goal.returns-else-from-len
returns-else-from-len c = let a = c.args in
    let l = c.loop-o-2 in
    let e = c.loop-o in
    let g : ℕ → ℕ = scheduled a.src.now c.new-schedule.result in
    span_cong _ _ a.to (a.to + a.len)
    (λ y i j. scheduled-sum a.n a.coefs.now a.starts.now c.new-schedule.result c.new-schedule.ensures a.src.now (y - a.to) (λ x. omega (arith, c.type_inv.src x)))
    (span_over (λ y. g (y - a.to)) (λ y. g (y - a.to)) a.to a.to (a.to + e.o) (a.to + a.len) (omega arith) (omega arith) (omega (arith, e.invariant.0)) e.invariant.1
    (span_to (a.to + l.o) (a.to + a.len) (omega (arith, c.if-from-len.false, c.rest_from-from.ensures.0)) l.invariant.1) (λ y i j. refl))
