-- `kernel::combine_in`. Each loop keeps: the bytes from `at` to `at + o` hold the sum over the list that the loop found. The runs lie apart from what is
-- written, so a block worked out from the list as it stands is that of the list found (`put_turn`), and so are both loops' (`put_again`, `put_both`).
use mathlib.Core.Path.{sym}
use Prim.Native.Nat.{ℕ, ◌+◌, ◌-◌}
use native.Mathlib.Omega.{arith}
use lib.ListN.{length}
use Rattle.lists.specs.Span.{span_none, span_to}
use Rattle.kernel.specs.Combine.{block_span}
use Rattle.kernel.specs.Schedule.{scheduled, reaches_to}
use Rattle.kernel.proofs.Sums.{scheduled-sum, put_again, put_both, put_turn, reaches}
use Rattle.kernel.proofs.combine_in.Goals as goal

pub loop-o-init : goal.loop-o-init
loop-o-init c = (omega arith, (λ x. omega (arith, c.type_inv.buf x)), span_none _ c.args.at c.args.buf.now (omega arith))

pub block_from-from-requires : goal.block_from-from-requires
block_from-from-requires c = let w = c.loop-o.invariant.2.len in omega (arith, c.requires.1, c.loop-o.invariant.0)

pub block-b-requires : goal.block-b-requires
block-b-requires c = let a = c.args in
    let l = c.loop-o in
    let n = l.invariant.2.len in (
      omega arith,
      reaches_to (reaches a.n a.coefs.now a.starts.now c.new-schedule.result c.new-schedule.ensures l.buf a.len c.requires.0 (λ j m. let w = (c.requires.2 j m).inside in omega arith))
          (omega (arith, c.block_from-from.ensures.0, c.loop-o-test.true)),
    )

pub slice_bounds-put_block-end : goal.slice_bounds-put_block-end
slice_bounds-put_block-end c = sym c.block-b.ensures.len

pub overflow_add-at : goal.overflow_add-at
overflow_add-at c = let w = c.loop-o.invariant.2.len in omega (arith, c.block_from-from.ensures.0, c.requires.1, c.loop-o-test.true)

pub put_block-requires : goal.put_block-requires
put_block-requires c = let w = c.loop-o.invariant.2.len in (omega arith, omega (arith, c.block_from-from.ensures.0, c.requires.1, c.loop-o-test.true))

pub overflow_add-o : goal.overflow_add-o
overflow_add-o c = let w = c.loop-o.invariant.2.len in omega (arith, c.block_from-from.ensures.0, c.requires.1, c.loop-o-test.true)

pub loop-o-smaller : goal.loop-o-smaller
loop-o-smaller c = omega (arith, c.block_from-from.ensures.0, c.block_from-from.ensures.1, c.loop-o-test.true)

pub loop-o-preserved : goal.loop-o-preserved
loop-o-preserved c = let a = c.args in
    let l = c.loop-o in
    let f = c.block_from-from in
    let g : ℕ → ℕ = scheduled l.buf c.new-schedule.result in (
      omega (arith, f.ensures.0, c.loop-o-test.true),
      (λ x. omega (arith, c.type_inv.buf x)),
      put_turn a.n a.coefs.now a.starts.now a.at a.len (length a.buf.now) c.requires.2 g f.result l.o (a.at + (f.result + 192)) f.ensures.0 (omega (arith, f.ensures.1)) (omega (arith, f.ensures.0, c.loop-o-test.true)) l.invariant.2
          (λ x. scheduled-sum a.n a.coefs.now a.starts.now c.new-schedule.result c.new-schedule.ensures l.buf x l.invariant.1)
          (block_span (λ y v. v) g a.at f.result 192 (a.at + (f.result + 192)) c.block-b.result (omega arith) c.block-b.ensures c.put_block.ensures),
    )

pub loop-o-2-init : goal.loop-o-2-init
loop-o-2-init c = let a = c.args in
    let l = c.loop-o in
    (l.invariant.0, l.invariant.1, put_again a.n a.coefs.now a.starts.now a.at a.len (length a.buf.now) c.requires.2 l.o l.invariant.0 l.invariant.2)

pub block-b-requires-in-loop-o-2 : goal.block-b-requires-in-loop-o-2
block-b-requires-in-loop-o-2 c = let a = c.args in
    let l = c.loop-o-2 in
    let v = c.loop-o.invariant.2.len in
    let n = l.invariant.2.len in (
      omega arith,
      reaches_to (reaches a.n a.coefs.now a.starts.now c.new-schedule.result c.new-schedule.ensures l.buf a.len c.requires.0 (λ j m. let w = (c.requires.2 j m).inside in omega arith))
          (omega (arith, c.loop-o-2-test.true)),
    )

pub slice_bounds-put_block-end-in-loop-o-2 : goal.slice_bounds-put_block-end-in-loop-o-2
slice_bounds-put_block-end-in-loop-o-2 c = sym c.block-b-in-loop-o-2.ensures.len

pub overflow_add-at-in-loop-o-2 : goal.overflow_add-at-in-loop-o-2
overflow_add-at-in-loop-o-2 c = let w = c.loop-o-2.invariant.2.len in let v = c.loop-o.invariant.2.len in omega (arith, c.requires.1, c.loop-o-2-test.true)

pub put_block-requires-in-loop-o-2 : goal.put_block-requires-in-loop-o-2
put_block-requires-in-loop-o-2 c = let w = c.loop-o-2.invariant.2.len in let v = c.loop-o.invariant.2.len in (omega arith, omega (arith, c.requires.1, c.loop-o-2-test.true))

pub overflow_add-o-in-loop-o-2 : goal.overflow_add-o-in-loop-o-2
overflow_add-o-in-loop-o-2 c = let w = c.loop-o-2.invariant.2.len in let v = c.loop-o.invariant.2.len in omega (arith, c.requires.1, c.loop-o-2-test.true)

pub loop-o-2-preserved : goal.loop-o-2-preserved
loop-o-2-preserved c = let a = c.args in
    let l = c.loop-o-2 in
    let g : ℕ → ℕ = scheduled l.buf c.new-schedule.result in (
      omega (arith, c.loop-o-2-test.true),
      (λ x. omega (arith, c.type_inv.buf x)),
      put_turn a.n a.coefs.now a.starts.now a.at a.len (length a.buf.now) c.requires.2 g l.o l.o (a.at + (l.o + 128)) (omega arith) (omega arith) (omega (arith, c.loop-o-2-test.true)) l.invariant.2
          (λ x. scheduled-sum a.n a.coefs.now a.starts.now c.new-schedule.result c.new-schedule.ensures l.buf x l.invariant.1)
          (block_span (λ y v. v) g a.at l.o 128 (a.at + (l.o + 128)) c.block-b-in-loop-o-2.result (omega arith) c.block-b-in-loop-o-2.ensures c.put_block-in-loop-o-2.ensures),
    )

pub last_block-b-requires : goal.last_block-b-requires
last_block-b-requires c = let a = c.args in
    let l = c.loop-o-2 in
    let v = c.loop-o.invariant.2.len in
    let n = l.invariant.2.len in (
      omega (arith, c.rest_from-from.ensures),
      reaches_to (reaches a.n a.coefs.now a.starts.now c.new-schedule.result c.new-schedule.ensures l.buf a.len c.requires.0 (λ j m. let w = (c.requires.2 j m).inside in omega arith))
          (omega (arith, c.rest_from-from.ensures)),
    )

pub returns-then-from-len : goal.returns-then-from-len
returns-then-from-len c = let a = c.args in
    let l = c.loop-o-2 in
    let f = c.rest_from-from in
    let e = c.loop-o in
    let g : ℕ → ℕ = scheduled l.buf c.new-schedule.result in
    put_both a.n a.coefs.now a.starts.now a.at a.len (length a.buf.now) c.requires.2 e.o e.invariant.0 e.invariant.2
    (put_turn a.n a.coefs.now a.starts.now a.at a.len (length a.buf.now) c.requires.2 g f.result l.o (a.at + a.len) f.ensures.0 (omega arith) (omega arith) l.invariant.2
    (λ x. scheduled-sum a.n a.coefs.now a.starts.now c.new-schedule.result c.new-schedule.ensures l.buf x l.invariant.1)
    (block_span (λ y v. v) g a.at f.result (a.len - f.result) (a.at + a.len) c.last_block-b.result (omega arith) c.last_block-b.ensures c.put_block-then-from-len.ensures))

pub returns-else-from-len : goal.returns-else-from-len
returns-else-from-len c = let a = c.args in
    let l = c.loop-o-2 in
    let e = c.loop-o in
    put_both a.n a.coefs.now a.starts.now a.at a.len (length a.buf.now) c.requires.2 e.o e.invariant.0 e.invariant.2
    (span_to (a.at + l.o) (a.at + a.len) (omega (arith, c.if-from-len.false, c.rest_from-from.ensures.0, l.invariant.0)) l.invariant.2)
