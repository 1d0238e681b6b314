use mathlib.Core.Path.{◌≡◌}
use mathlib.Core.Bool.{false}
use Prim.Native.Nat.{ℕ, ◌≤◌, ◌<◌}
use lib.ListN.{length, get_or}
use Rattle.group_swap.specs.Taken.{start_moves, room_of}
use Rattle.group_swap.proofs.rooms_of.Given as goal

abbrev pub invariant-loop-c : goal.invariant-loop-c
invariant-loop-c l = (l.c ≤ l.m) × (length l.moves ≡ 19) × (length l.at ≡ 19) × ((k : ℕ) → k < l.c → get_or l.moves k false ≡ start_moves l.from l.to k) × ((k : ℕ) → k < l.c → get_or l.at k 0 ≡ room_of l.from l.to k) × (l.room ≡ room_of l.from l.to l.c)
