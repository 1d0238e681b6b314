use mathlib.Core.Path.{◌≡◌}
use Prim.Native.Nat.{ℕ, ◌+◌, ◌*◌, ◌<◌}
use lib.Dec.{ltb}
use lib.ListN.{length, get_or}
use Rattle.lists.specs.Pick.{pick}
use Rattle.pool.specs.Contents.{file_byte}
use Rattle.survey.specs.Surveyed.{Surveying}
use Rattle.pool_read.proofs.read_groups.Given as goal

abbrev pub invariant-loop-g : goal.invariant-loop-g
invariant-loop-g l = (length l.out ≡ length l.initial.out) × Surveying l.y l.survey
    × ((x : ℕ) → x < length l.initial.out → get_or l.out x 0 ≡ pick (ltb (l.offset + x) (l.g * (l.y.n * l.y.u))) (file_byte l.y l.r l.image (l.offset + x)) (get_or l.initial.out x 0))
