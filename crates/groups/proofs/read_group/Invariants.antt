use mathlib.Core.Path.{◌≡◌}
use Prim.Native.Nat.{ℕ, ◌<◌, ◌≤◌}
use lib.ListN.{length, get_or}
use Rattle.groups.specs.Read.{read_to}
use Rattle.groups.proofs.read_group.Given as goal

abbrev pub invariant-loop-v : goal.invariant-loop-v
invariant-loop-v l = (l.v ≤ l.p.n) × (length l.out ≡ length l.initial.out) × ((x : ℕ) → x < length l.initial.out → get_or l.out x 0 ≡ read_to l.p l.image l.s l.a l.initial.out l.v x)
