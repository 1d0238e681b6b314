use mathlib.Core.Path.{◌≡◌}
use Prim.Native.Nat.{ℕ, ◌<◌, ◌≤◌}
use lib.ListN.{length, get_or}
use Rattle.lists.specs.Count.{count}
use Rattle.parity.specs.Matrix.{flag}
use Rattle.plan.proofs.ranks.Given as goal

abbrev pub invariant-loop-i : goal.invariant-loop-i
invariant-loop-i l = (l.i ≤ l.m) × (length l.r ≡ 19) × (l.c ≡ count (flag l.miss) l.i) × ((x : ℕ) → x < l.i → get_or l.r x 0 ≡ count (flag l.miss) x)
