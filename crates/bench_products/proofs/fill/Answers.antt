-- `bench_products::fill`. The loop keeps: the products below i.
use mathlib.Core.Path.{refl, ◌∙◌}
use native.Mathlib.Nat.{not-suc-le-zero}
use native.Mathlib.Omega.{arith}
use lib.ListN.{length, get_or, length-set}
use Rattle.lists.specs.Tabulate.{tabulated, fill_step}
use Rattle.field.specs.Byte.{mul}
use Rattle.bench_products.proofs.fill.Goals as goal

pub loop-i-init : goal.loop-i-init
loop-i-init c = (omega arith, refl, λ x h. absurd (not-suc-le-zero h))

pub loop-i-preserved : goal.loop-i-preserved
loop-i-preserved c = let a = c.args in
    let l = c.loop-i in (
      omega arith,
      length-set l.out l.i _ ∙ l.invariant.1,
      fill_step (λ x. mul (get_or a.a.now x 0) (get_or a.b.now x 0)) l.out l.i _ 0 (omega arith) c.mul.ensures l.invariant.2,
    )

pub returns : goal.returns
returns c = let a = c.args in
    let l = c.loop-i in
    tabulated (length a.out.now) (λ i. mul (get_or a.a.now i 0) (get_or a.b.now i 0)) l.out 0 l.invariant.1
    (λ x h. l.invariant.2 x (omega arith))
