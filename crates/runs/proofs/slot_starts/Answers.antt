-- `runs::slot_starts`. The loop keeps: the starts of the first j slots.
use mathlib.Core.Path.{refl}
use native.Mathlib.Omega.{arith}
use borrow.Author.Count.{below_none}
use Rattle.plan.specs.Held.{slot_lt}
use Rattle.runs.specs.Steps.{fill16}
use Rattle.runs.proofs.slot_starts.Goals as goal

pub loop-j-init : goal.loop-j-init
loop-j-init c = (omega arith, refl, below_none _)

pub offset_bounds-slots-j : goal.offset_bounds-slots-j
offset_bounds-slots-j c = omega (arith, c.requires.0.right.solvable.data_max)

pub bounds-slots-j : goal.bounds-slots-j
bounds-slots-j c = omega (arith, c.requires.0.right.solvable.data_max)

pub offset_bounds-at-slots : goal.offset_bounds-at-slots
offset_bounds-at-slots c = omega (arith, slot_lt c.args.p c.requires.0.right c.loop-j.j c.loop-j-test.true, c.requires.0.right.solvable.data_max, c.requires.0.right.solvable.parity_max)

pub bounds-at-slots : goal.bounds-at-slots
bounds-at-slots c = omega (arith, slot_lt c.args.p c.requires.0.right c.loop-j.j c.loop-j-test.true, c.requires.0.right.solvable.data_max, c.requires.0.right.solvable.parity_max)

pub overflow_add-r : goal.overflow_add-r
overflow_add-r c = omega (arith, c.requires.0.inside _ (slot_lt c.args.p c.requires.0.right c.loop-j.j c.loop-j-test.true), c.requires.1)

pub offset_bounds-r-j : goal.offset_bounds-r-j
offset_bounds-r-j c = omega (arith, c.requires.0.right.solvable.data_max)

pub bounds-r-j : goal.bounds-r-j
bounds-r-j c = omega (arith, c.requires.0.right.solvable.data_max)

pub loop-j-preserved : goal.loop-j-preserved
loop-j-preserved c = fill16 _ c.loop-j.r _ _ _ c.loop-j.invariant.1 c.requires.0.right.solvable.data_max c.loop-j-test.true refl c.loop-j.invariant.2

pub returns : goal.returns
returns c = λ k b. c.loop-j.invariant.2 k (omega arith)
