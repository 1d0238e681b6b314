use mathlib.Core.Path.{◌≡◌}
use Prim.Native.Nat.{ℕ, ◌+◌, ◌<◌, ◌≤◌}
use lib.ListN.{length, get_or}
use Rattle.runs.proofs.slot_starts.Given as goal

abbrev pub invariant-loop-j : goal.invariant-loop-j
invariant-loop-j l = (l.j ≤ l.fn.p.n) × (length l.r ≡ 16) × ((x : ℕ) → x < l.j → get_or l.r x 0 ≡ get_or l.at (get_or l.slots x 0) 0 + l.lo)
