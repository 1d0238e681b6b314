-- `coding::starts_of`. The loop keeps: the starts of the first j units.
use mathlib.Core.Path.{refl, ◌∙◌}
use Prim.Native.Nat.{◌*◌}
use native.Mathlib.Nat.{not-suc-le-zero}
use native.Mathlib.Omega.{arith}
use lib.ListN.{get_or, length-set}
use Rattle.lists.specs.Tabulate.{fill_step}
use Rattle.coding.proofs.starts_of.Goals as goal

pub loop-j-init : goal.loop-j-init
loop-j-init c = (omega arith, refl, λ x h. absurd (not-suc-le-zero h))

pub overflow_mul-starts : goal.overflow_mul-starts
overflow_mul-starts c = let h = c.requires.1 c.loop-j.j c.loop-j-test.true in omega (arith, c.ranges)

pub loop-j-preserved : goal.loop-j-preserved
loop-j-preserved c = let a = c.args in
    let l = c.loop-j in (
      omega arith,
      length-set l.starts l.j _ ∙ l.invariant.1,
      fill_step (λ x. get_or a.units x 0 * a.unit) l.starts l.j _ 0 (omega arith) refl l.invariant.2,
    )

pub returns : goal.returns
returns c = λ j h. c.loop-j.invariant.2 j (omega arith)
