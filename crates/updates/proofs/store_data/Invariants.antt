use mathlib.Core.Path.{◌≡◌}
use Prim.Native.Nat.{◌+◌, ◌≤◌}
use lib.ListN.{length, get_or}
use Rattle.lists.specs.Part.{within}
use Rattle.plan.specs.Plans.{at_of}
use Rattle.runs.specs.Run.{paint}
use Rattle.runs.specs.Held.{run_of}
use Rattle.updates.specs.Writing.{stores_in}
use Rattle.updates.proofs.store_data.Given as goal

abbrev pub invariant-loop-c : goal.invariant-loop-c
invariant-loop-c l = (l.c ≤ l.p.n) × (length l.image ≡ length l.initial.image) × (l.image ≡ paint (stores_in l.p (within l.run.from l.run.units)) (λ d. at_of l.p d + l.run.lo) l.run.len (λ d. run_of l.bytes (get_or l.starts d 0)) l.c l.initial.image)
