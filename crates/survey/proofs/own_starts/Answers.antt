-- `survey::own_starts` meets its contract: the units from the first on.
use mathlib.Core.Path.{◌≡◌, ap, ◌∙◌}
use Prim.Native.Nat.{ℕ, ◌+◌}
use native.Mathlib.Omega.{arith}
use Rattle.place.specs.Bytes.{spot}
use Rattle.survey.proofs.own_starts.Goals as goal

pub overflow_add-y : goal.overflow_add-y
overflow_add-y c = let v = c.requires.valid in omega arith

pub unit_starts-requires : goal.unit_starts-requires
unit_starts-requires c = let p = c.requires in (p, omega (arith, p.valid.some_data), omega arith, omega (arith, p.valid.few_data, p.valid.few_parity))

pub returns : goal.returns
returns c = λ i h. let a = c.args in let z : 0 + i ≡ i = omega arith in c.unit_starts.ensures i h ∙ ap (λ (u : ℕ). spot a.y a.g u 0) z
