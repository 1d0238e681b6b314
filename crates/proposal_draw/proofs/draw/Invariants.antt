use mathlib.Core.Path.{◌≡◌}
use Prim.Native.Nat.{◌-◌}
use Rattle.numbers.specs.Layouts.{all_groups}
use Rattle.place.specs.Places.{tile_permutation}
use Rattle.proposal_draw.specs.Drawn.{PlanTo}
use Rattle.proposal_draw.proofs.draw.Given as goal

abbrev pub invariant-loop-at : goal.invariant-loop-at
invariant-loop-at l = (l.to ≡ tile_permutation l.y l.tile) × PlanTo l.y l.r l.initial.out l.g l.at l.out

abbrev pub decreases-loop-at : goal.decreases-loop-at
decreases-loop-at l = all_groups l.y - l.g
