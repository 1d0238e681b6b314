use mathlib.Core.Path.{◌≡◌}
use Prim.Native.Nat.{◌≤◌}
use lib.ListN.{length}
use Rattle.runs.specs.Run.{paint}
use Rattle.updates.specs.Sources.{standing, parity_at, whole_parity}
use Rattle.updates.proofs.put_wholes.Given as goal

abbrev pub invariant-loop-i : goal.invariant-loop-i
invariant-loop-i l = (l.i ≤ l.p.k) × (length l.image ≡ length l.initial.image) × (l.image ≡ paint (standing l.p) (parity_at l.p l.lo) l.len (whole_parity l.p l.bytes l.starts) l.i l.initial.image)
