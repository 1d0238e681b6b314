-- `layout::offset_of` meets its contract: every product fits, and the sum is the definition's.
use mathlib.Core.Path.{refl}
use native.Mathlib.Omega.{arith}
use Rattle.numbers.specs.Shapes.{layout_products}
use Rattle.place.specs.Bytes.{offset_of}
use Rattle.layout.specs.Traces.{OffsetFits, offset_fits}
use Rattle.layout.proofs.offset_of.Goals as goal

fit : (c : goal.Start) → OffsetFits c.args.y c.args.held.group c.args.held.unit
fit c =
    let v = c.requires.0 in
    offset_fits c.args.y v c.args.held.group c.args.held.unit (omega (arith, (layout_products c.args.y v).groups)) c.requires.2

pub overflow_mul-result : goal.overflow_mul-result
overflow_mul-result c = omega (arith, fit c)

pub overflow_mul-result-2 : goal.overflow_mul-result-2
overflow_mul-result-2 c = omega (arith, fit c)

pub overflow_mul-result-3 : goal.overflow_mul-result-3
overflow_mul-result-3 c = omega (arith, fit c)

pub overflow_add-result : goal.overflow_add-result
overflow_add-result c = omega (arith, fit c)

pub overflow_add-result-2 : goal.overflow_add-result-2
overflow_add-result-2 c = omega (arith, fit c)

pub returns : goal.returns
unfolding offset_of
returns c = refl
