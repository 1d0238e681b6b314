-- `plan::codes`. Three rows, each by its callee.
use mathlib.Core.List.{[], ◌∷◌}
use mathlib.Core.Path.{◌≡◌}
use Prim.Native.Nat.{ℕ, ◌<◌}
use Rattle.systems.specs.Coef.{coef}
use Rattle.systems.specs.Cramer.{three}
use Rattle.systems.specs.Matrix.{ent}
use Rattle.plan.proofs.codes.Goals as goal

pub returns : goal.returns
returns c = three (λ (i : ℕ). (j : ℕ) → j < 16 → ent (c.row.result ∷ c.row-2.result ∷ c.row-3.result ∷ []) i j ≡ coef i j) c.row.ensures c.row-2.ensures c.row-3.ensures
