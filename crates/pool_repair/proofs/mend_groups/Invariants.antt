use Prim.Native.Nat.{◌-◌, ◌≤◌}
use Rattle.numbers.specs.Layouts.{all_groups}
use Rattle.survey.specs.Surveyed.{Surveying}
use Rattle.pool_repair.specs.Mending.{MendedBelow}
use Rattle.pool_repair.proofs.mend_groups.Given as goal

abbrev pub invariant-loop-g : goal.invariant-loop-g
invariant-loop-g l = (l.g ≤ all_groups l.y) × Surveying l.y l.survey × MendedBelow l.y l.r l.initial.image l.g l.count l.image
