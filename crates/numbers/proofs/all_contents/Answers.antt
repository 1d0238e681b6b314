-- `numbers::all_contents` meets its contract, and its product fits.
use mathlib.Core.Path.{ap}
use Prim.Native.Nat.{ℕ, ◌+◌, ◌*◌, ◌≤◌}
use native.Mathlib.Nat.{mul-le-mul}
use native.Mathlib.Omega.{arith}
use Rattle.numbers.specs.Shapes.{layout_products}
use Rattle.numbers.proofs.all_contents.Goals as goal
use Rattle.numbers.proofs.all_contents.Lts as lts
use Rattle.numbers.proofs.all_contents.Reads as reads

fits : (c : (lts.Start reads.Pre reads.Post)) → c.args.groups * (c.args.y.n + c.args.y.k) ≤ 79691776
fits c =
    let v = c.requires.0 in
    let few : c.args.y.n + c.args.y.k ≤ 19 = omega (arith, v.few_data, v.few_parity) in
    let groups : c.args.groups ≤ 4194304 = omega (arith, c.requires.1, (layout_products c.args.y v).groups) in
    omega (arith, mul-le-mul groups few)

pub overflow_mul-result : goal.overflow_mul-result
overflow_mul-result c = omega (arith, fits c.before)

pub returns : goal.returns
returns c = (ap (λ (g : ℕ). g * (c.args.y.n + c.args.y.k)) c.requires.1, fits c.before)
