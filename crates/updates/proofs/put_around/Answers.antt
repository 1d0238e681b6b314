-- `updates::put_around`. The two halves of the row, one put and the other added (`around_made`).
use native.Mathlib.Omega.{arith}
use Rattle.updates.specs.Steps.{around_made, kept_in}
use Rattle.updates.proofs.put_around.Goals as goal

pub combine-requires : goal.combine-requires
combine-requires c = (c.requires.0.solvable.data_max, omega (arith, c.requires.2, c.combine_in.auto.buf), kept_in _ _ _ c.lost_starts-kept.result c.requires.0 c.requires.1 c.requires.4 c.lost_starts-kept.ensures)

pub returns : goal.returns
returns c = around_made _ _ _ _ _ _ _ c.requires.2 _ _ _ _ _ c.halved-halves.ensures.0 c.halved-halves.ensures.1 c.lost_starts-kept.ensures c.combine_in.ensures c.combine.ensures
