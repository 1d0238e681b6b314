-- `runs::rebuild_run`. The row's sum over the slots (`lost_made`).
use mathlib.Core.Path.{refl}
use native.Mathlib.Omega.{arith}
use Rattle.plan.specs.Held.{rank_lt}
use Rattle.runs.specs.Steps.{lost_made, slots_fit}
use Rattle.runs.proofs.rebuild_run.Goals as goal

pub offset_bounds-rows-rank : goal.offset_bounds-rows-rank
offset_bounds-rows-rank c = omega (arith, rank_lt _ c.requires.0.right _ c.requires.2 c.requires.3)

pub bounds-rows-rank : goal.bounds-rows-rank
bounds-rows-rank c = rank_lt _ c.requires.0.right _ c.requires.2 c.requires.3

pub combine_put-requires : goal.combine_put-requires
combine_put-requires c = (c.requires.0.right.solvable.data_max, c.requires.4, slots_fit _ _ _ _ c.slot_starts-starts.result c.requires.0 c.requires.1 c.slot_starts-starts.ensures)

pub returns : goal.returns
returns c = lost_made _ _ _ _ _ _ c.requires.4 _ _ _ _ c.requires.0.right c.requires.2 c.requires.3 c.slot_starts-starts.ensures refl c.combine_put.ensures
