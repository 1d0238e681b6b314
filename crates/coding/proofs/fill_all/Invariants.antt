use mathlib.Core.Path.{◌≡◌}
use mathlib.Core.Bool.{Bool}
use Prim.Native.Nat.{ℕ, ◌≤◌}
use lib.ListN.{length}
use Rattle.coding.specs.Mending.{Mended, Ready}
use Rattle.coding.proofs.fill_all.Given as goal

abbrev pub invariant-loop-q : goal.invariant-loop-q
invariant-loop-q l = (l.q ≤ l.gone.count) × (length l.buf ≡ length l.initial.buf) × ((miss : ℕ → Bool)
    → Ready l.n l.k l.unit miss l.gone.at l.gone.count l.rows l.starts l.last
    → Mended l.n l.k l.unit miss l.initial.buf l.buf l.q)
