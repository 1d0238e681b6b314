use Prim.Native.Nat.{◌≤◌}
use lib.ListN.{length}
use mathlib.Core.Path.{◌≡◌}
use Rattle.pool_text.specs.Here.{Here}
use Rattle.pool_text.specs.ReadLoop.{Underway}
use Rattle.pool_text.proofs.read_lines.Given as goal

abbrev pub invariant-loop-i : goal.invariant-loop-i
invariant-loop-i l = Underway l.y l.text l.here.i l.initial.image l.image × Here l.y l.here × (l.here.at ≤ length l.text) × (l.here.i ≡ l.i)
