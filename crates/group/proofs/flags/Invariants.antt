use mathlib.Core.Path.{◌≡◌}
use Prim.Native.Nat.{ℕ, ◌<◌}
use lib.ListN.{length}
use Rattle.parity.specs.Matrix.{flag}
use Rattle.group.specs.Flags.{named_below}
use Rattle.group.proofs.flags.Given as goal

abbrev pub invariant-loop-unit : goal.invariant-loop-unit
invariant-loop-unit l = (length l.named ≡ 19) × ((u : ℕ) → u < 19 → flag l.named u ≡ named_below l.missing l.unit-index u)
