use mathlib.Core.Path.{◌≡◌}
use Prim.Native.Nat.{ℕ, ◌≤◌, ◌<◌}
use lib.ListN.{length, get_or}
use Rattle.survey.proofs.home_starts.Given as goal

abbrev pub invariant-loop-c : goal.invariant-loop-c
invariant-loop-c l = (l.c ≤ l.m) × (length l.at ≡ 19) × ((i : ℕ) → i < l.c → get_or l.at i 0 ≡ get_or l.starts (get_or l.homes i 0) 0)
