-- `Generator::draw` meets its contract: the upper half of the state is below 2^32.
use Rattle.std.proofs.Common.{◌+◌, ◌/◌, ◌≤◌, refl, mul-le-mul_right, arith}
use Rattle.tile.specs.Generator.{draw_of}
use Rattle.tile.proofs.Generator.draw.Goals as goal

pub overflow_mul-result : goal.overflow_mul-result
overflow_mul-result c = let i = c.args.i in
    let s = c.args.self.state in
    let h : s / 4294967296 ≤ 4294967295 = omega arith in
    omega (arith, mul-le-mul_right (i + 1) h)

pub returns : goal.returns
unfolding draw_of
returns c = let i = c.args.i in
    let s = c.args.self.state in
    let h : s / 4294967296 ≤ 4294967295 = omega arith in
    (refl, omega (arith, mul-le-mul_right (i + 1) h))
