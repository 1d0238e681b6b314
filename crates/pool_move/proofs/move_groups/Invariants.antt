use Prim.Native.Nat.{◌-◌, ◌≤◌}
use Rattle.numbers.specs.Layouts.{all_groups}
use Rattle.survey.specs.Surveyed.{Surveying}
use Rattle.moving.specs.Moving.{shown_file}
use Rattle.pool_move.specs.Turns.{MovedBelow}
use Rattle.pool_move.proofs.move_groups.Given as goal

abbrev pub invariant-loop-g : goal.invariant-loop-g
invariant-loop-g l = (l.g ≤ all_groups l.y) × Surveying l.y l.here × Surveying l.z l.there × MovedBelow l.z (shown_file l.y l.r l.old) l.initial.new l.g l.new
