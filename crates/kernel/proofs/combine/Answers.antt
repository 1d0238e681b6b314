-- `kernel::combine`. The loop keeps: the sum that the schedule names stands added in the bytes before to + o. That this is the sum of the multiples is
-- `scheduled-sum`, once, at the end.
use mathlib.Core.Path.{ap}
use Prim.Native.Nat.{ℕ, ◌+◌, ◌-◌}
use native.Mathlib.Omega.{arith}
use lib.ListN.{get_or}
use Rattle.field.specs.Byte.{◌⊕◌}
use Rattle.lists.specs.Span.{span_none, span_cong}
use Rattle.kernel.specs.Combine.{block_span, add_turn}
use Rattle.kernel.specs.Schedule.{scheduled, reaches_to}
use Rattle.kernel.proofs.Sums.{add_none, scheduled-sum, reaches}
use Rattle.kernel.proofs.combine.Goals as goal

pub returns-then-top-eq0 : goal.returns-then-top-eq0
returns-then-top-eq0 c = let a = c.args in
    add_none a.n a.coefs.now a.starts.now a.src.now a.out.now c.top_of-top.result a.to (a.to + a.len) c.if-top-eq0.true c.top_of-top.ensures.1

pub loop-o-init : goal.loop-o-init
loop-o-init c = (omega arith, span_none _ c.args.to c.args.out.now (omega arith))

pub block-b-requires : goal.block-b-requires
block-b-requires c = let a = c.args in
    (omega arith, reaches_to (reaches a.n a.coefs.now a.starts.now c.new-schedule.result c.new-schedule.ensures a.src.now a.len c.requires.0 c.requires.2) (omega arith))

pub overflow_add-to : goal.overflow_add-to
overflow_add-to c = let w = c.loop-o.invariant.1.len in omega arith

pub add_block-requires : goal.add_block-requires
add_block-requires c = let w = c.loop-o.invariant.1.len in (omega arith, omega arith)

pub loop-o-preserved : goal.loop-o-preserved
loop-o-preserved c = let a = c.args in
    let l = c.loop-o in
    let g : ℕ → ℕ = scheduled a.src.now c.new-schedule.result in (
      omega arith,
      add_turn g a.to l.o (a.to + (l.o + 128)) (omega arith) l.invariant.1
          (block_span (λ y v. get_or l.out y 0 ⊕ v) g a.to l.o 128 (a.to + (l.o + 128)) c.block-b.result (omega arith) c.block-b.ensures c.add_block.ensures),
    )

pub add_rest-requires : goal.add_rest-requires
add_rest-requires c = let a = c.args in
    let w = c.loop-o.invariant.1.len in
    (c.loop-o.invariant.0, omega arith, omega arith, reaches a.n a.coefs.now a.starts.now c.new-schedule.result c.new-schedule.ensures a.src.now a.len c.requires.0 c.requires.2)

pub returns : goal.returns
returns c = let a = c.args in
    let l = c.loop-o in
    let s = c.new-schedule.result in
    span_cong _ _ a.to (a.to + a.len) (λ y i j. ap (get_or a.out.now y 0 ⊕◌)
    (scheduled-sum a.n a.coefs.now a.starts.now s c.new-schedule.ensures a.src.now (y - a.to) (λ x. omega (arith, c.type_inv.src x))))
    (add_turn (scheduled a.src.now s) a.to l.o (a.to + a.len) (omega arith) l.invariant.1 c.add_rest.ensures)
