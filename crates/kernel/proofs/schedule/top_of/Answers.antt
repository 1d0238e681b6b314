-- `kernel::schedule::top_of`. The loop keeps: no factor passed is above `most`.
use Prim.Native.Nat.{ℕ, ◌+◌, ◌*◌, ◌^◌}
use mathlib.Core.Path.{◌≡◌}
use native.Mathlib.Omega.{arith}
use Rattle.std.proofs.Common.{add-one, ◌∙◌, ap}
use Rattle.std.proofs.Math.Nat.{pow-succ'}
use Rattle.kernel.specs.Fill.{most_step}
use Rattle.kernel.proofs.schedule.top_of.Goals as goal

pub loop-j-preserved : goal.loop-j-preserved
loop-j-preserved c = (omega arith, most_step c.args.coefs.now c.loop-j.j _ _ (omega (arith, c.max-most.ensures)) (omega (arith, c.max-most.ensures)) c.loop-j.invariant.1)

pub returns-then-most-eq0 : goal.returns-then-most-eq0
returns-then-most-eq0 c = (omega arith, λ j h. let w = c.loop-j.invariant.1 j (omega arith) in omega (arith, c.if-most-eq0.true))

pub returns : goal.returns
returns c =
    let e : 2 ^ (c.ilog2.result + 1) ≡ 2 * 2 ^ c.ilog2.result = ap (λ (n : ℕ). 2 ^ n) (add-one c.ilog2.result) ∙ pow-succ' 2 c.ilog2.result in
    (omega (arith, c.ilog2.ensures.bound), λ j h. let w = c.loop-j.invariant.1 j (omega arith) in omega (arith, c.ilog2.ensures.next_power_gt, e))
