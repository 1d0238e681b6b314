use mathlib.Core.Path.{◌≡◌}
use Prim.Native.Nat.{◌≤◌}
use lib.ListN.{length}
use Rattle.runs.specs.Run.{paint}
use Rattle.updates.specs.Sources.{standing, parity_at, parity_over}
use Rattle.updates.proofs.put_parities.Given as goal

abbrev pub invariant-loop-i : goal.invariant-loop-i
invariant-loop-i l = (l.i ≤ l.p.k) × (length l.image ≡ length l.initial.image) × (l.image ≡ paint (standing l.p) (parity_at l.p l.lo) l.len (parity_over l.p l.initial.image l.lost l.lo) l.i l.initial.image)
