use mathlib.Core.Path.{◌≡◌}
use Prim.Native.Nat.{ℕ, ◌<◌, ◌≤◌}
use lib.ListN.{length, get_or}
use Rattle.updates.proofs.starts_by.Given as goal

abbrev pub invariant-loop-j : goal.invariant-loop-j
invariant-loop-j g l = (l.j ≤ l.n) × (length l.r ≡ 16) × ((x : ℕ) → x < l.j → goal.F-post g l.start x (get_or l.r x 0))
