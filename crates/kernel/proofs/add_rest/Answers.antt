-- `kernel::add_rest`. One block of m bytes, moved to its place by `block_span`; none where m is 0.
use Prim.Native.Nat.{◌+◌, ◌-◌}
use native.Mathlib.Omega.{arith}
use lib.ListN.{get_or}
use Rattle.field.specs.Byte.{◌⊕◌}
use Rattle.kernel.specs.Combine.{block_span}
use Rattle.kernel.specs.Schedule.{scheduled, reaches_to}
use Rattle.kernel.proofs.add_rest.Goals as goal

pub block-b-requires : goal.block-b-requires
block-b-requires c = (omega arith, reaches_to c.requires.3 (omega arith))

pub returns-then-m-gt0 : goal.returns-then-m-gt0
returns-then-m-gt0 c = let a = c.args in
    block_span (λ y v. get_or a.out.now y 0 ⊕ v) (scheduled a.src.now a.schedule.now) a.to a.o (a.len - a.o) (a.to + a.len) c.block-b.result (omega arith) c.block-b.ensures c.add_block.ensures
