use Prim.Native.Nat.{◌*◌}
use Rattle.survey.specs.Surveyed.{Surveying}
use Rattle.range_write.specs.Underway.{data_span, Underway}
use Rattle.range_write.proofs.write_range.Given as goal

abbrev pub invariant-loop-g : goal.invariant-loop-g
invariant-loop-g l = Underway l.y l.r l.initial.image l.offset l.bytes l.g (data_span l.y * l.g) l.image × Surveying l.y l.survey
