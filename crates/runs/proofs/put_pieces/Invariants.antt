-- The bytes passed are copied.
use Rattle.std.proofs.Common.{◌≡◌, ◌-◌, ◌≤◌, length}
use Rattle.runs.specs.Held.{run_of}
use Rattle.runs.specs.Run.{run_set}
use Rattle.runs.proofs.put_pieces.Given as goal

abbrev pub invariant-loop-done : goal.invariant-loop-done
invariant-loop-done g l = (l.done ≤ l.len) × (length l.out ≡ length l.initial.out) × (l.out ≡ run_set l.to l.done (run_of l.src l.from) l.initial.out)

abbrev pub decreases-loop-done : goal.decreases-loop-done
decreases-loop-done g l = l.len - l.done
