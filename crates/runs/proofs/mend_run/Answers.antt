-- `runs::mend_run`. The slots are contents that are there, so their units lie apart from `to` (`slots_apart`); the row's sum, put there, is the
-- missing content (`lost_made`).
use mathlib.Core.Path.{refl}
use native.Mathlib.Omega.{arith}
use Rattle.plan.specs.Held.{rank_lt}
use Rattle.runs.specs.InPlace.{slots_apart}
use Rattle.runs.specs.Steps.{lost_made}
use Rattle.runs.proofs.mend_run.Goals as goal

pub offset_bounds-lines-rank : goal.offset_bounds-lines-rank
offset_bounds-lines-rank c = omega (arith, rank_lt _ c.requires.0.right _ c.requires.2 c.requires.3)

pub bounds-lines-rank : goal.bounds-lines-rank
bounds-lines-rank c = rank_lt _ c.requires.0.right _ c.requires.2 c.requires.3

pub combine_in-requires : goal.combine_in-requires
combine_in-requires c = let p = c.requires in (
  p.0.right.solvable.data_max,
  p.1.inside,
  slots_apart _ _ _ c.slot_starts-starts.result p.0 p.1 c.slot_starts-starts.ensures,
)

pub returns : goal.returns
returns c = let p = c.requires in
    lost_made _ _ _ _ _ _ p.1.inside _ _ _ _ p.0.right p.2 p.3 c.slot_starts-starts.ensures refl c.combine_in.ensures
