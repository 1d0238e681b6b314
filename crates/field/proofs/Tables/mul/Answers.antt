-- `field::Tables::mul`. A factor 0 by `zero-mul` and `mul-zero`, others by their exponents (`mul_powers`).
use mathlib.Core.Path.{◌≡◌, sym, ap, ◌∙◌}
use mathlib.Core.Logic.{⊎_elim}
use Prim.Native.Nat.{ℕ}
use Rattle.field.specs.Byte.{mul}
use Rattle.field.specs.Laws.{mul-zero}
use Rattle.field.proofs.Laws.{zero-mul}
use Rattle.field.proofs.PowersLaws.{mul_powers}
use Rattle.field.proofs.Tables.mul.Goals as goal

pub returns-then-a-eq0 : goal.returns-then-a-eq0
returns-then-a-eq0 c =
    let a = c.args in
    ⊎_elim (λ (e : a.a ≡ 0). sym (ap (λ (x : ℕ). mul x a.b) e ∙ zero-mul a.b)) (λ w. sym (ap (mul a.a) w.1 ∙ mul-zero a.a)) c.then-a-eq0.either

pub returns : goal.returns
returns c = c.power.ensures ∙ c.folded.ensures.1
    ∙ mul_powers _ _ _ _ c.log.ensures.1 c.log-2.ensures.1
