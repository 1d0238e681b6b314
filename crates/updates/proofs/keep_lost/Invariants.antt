use mathlib.Core.Path.{◌≡◌}
use Prim.Native.Nat.{◌≤◌}
use lib.ListN.{length}
use Rattle.runs.specs.Run.{paint}
use Rattle.plan.specs.Plans.{miss_of}
use Rattle.runs.specs.Held.{rank_place}
use Rattle.updates.specs.Sources.{kept_run}
use Rattle.updates.proofs.keep_lost.Given as goal

abbrev pub invariant-loop-c : goal.invariant-loop-c
invariant-loop-c l = (l.c ≤ l.p.n) × (length l.lost ≡ length l.initial.lost) × (l.lost ≡ paint (miss_of l.p) (rank_place l.p) l.run.len (kept_run l.p l.image l.bytes l.starts l.run.from l.run.units l.run.lo) l.c l.initial.lost)
