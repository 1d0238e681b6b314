-- `numbers::shape_of` meets its contract: what the code builds is `shape_of` with the gcd's result for the gcd.
use mathlib.Core.Path.{◌≡◌, sym, subst}
use Prim.Native.Nat.{ℕ, ◌*◌, ◌/◌, ◌≤◌, ◌<◌}
use native.Mathlib.Nat.{mul-le-mul, div-le_self}
use native.Mathlib.Omega.{arith}
use Rattle.numbers.specs.Gcd.{gcd, gcd_pos, lcm}
use Rattle.numbers.specs.Layouts.{width, block, rows, groups}
use Rattle.numbers.specs.Answers.{Shaped, shape_of, shaped}
use Rattle.numbers.proofs.shape_of.Goals as goal

pub nonzero_div-b : goal.nonzero_div-b
nonzero_div-b c = let y = c.args.y in
    subst (λ (g : ℕ). 0 < g) (sym c.gcd.ensures) (gcd_pos (width y) y.p (omega arith))

pub overflow_mul-b : goal.overflow_mul-b
overflow_mul-b c = let y = c.args.y in
    let few : width y / c.gcd.result ≤ 22 = omega (arith, div-le_self (width y) c.gcd.result) in
    let most : y.p ≤ 64 = omega arith in
    omega (arith, mul-le-mul few most)

pub returns : goal.returns
unfolding block rows groups lcm shape_of
returns c = let y = c.args.y in
    let e : gcd (width y) y.p ≡ c.gcd.result = sym c.gcd.ensures in
    subst
    (λ (g : ℕ). Shaped y (record { w = width y; b = width y / g * y.p; l = width y / g * y.p / y.p; c = width y / g * y.p / width y }))
    e
    (shaped y c.requires)
