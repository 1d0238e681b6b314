use mathlib.Core.Path.{◌≡◌}
use Prim.Native.Nat.{ℕ, ◌<◌, ◌≤◌}
use lib.ListN.{length, get_or}
use Rattle.field.specs.Byte.{mul}
use Rattle.bench_products.proofs.fill.Given as goal

abbrev pub invariant-loop-i : goal.invariant-loop-i
invariant-loop-i l = (l.i ≤ length l.initial.out) × (length l.out ≡ length l.initial.out) × ((x : ℕ) → x < l.i → get_or l.out x 0 ≡ mul (get_or l.a x 0) (get_or l.b x 0))
