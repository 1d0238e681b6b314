-- `place::next_cell` meets its contract: counted row by row, either cell's number is one more.
use native.Mathlib.Nat.{mul-suc}
use native.Mathlib.Omega.{arith}
use Rattle.numbers.specs.Shapes.{layout_products}
use Rattle.place.specs.PlaceLaws.{next_cell}
use Rattle.place.proofs.next_cell.Goals as goal

pub overflow_add-result : goal.overflow_add-result
overflow_add-result c = omega (arith, (layout_products _ c.requires.0).frames)

pub returns-then-column-y : goal.returns-then-column-y
returns-then-column-y c g u e = let a = c.args in
    next_cell a.y c.requires.0 g u a.a _ e (omega arith) (omega (arith, c.if-column-y.true, mul-suc a.y.p a.a.frame))

pub returns-else-column-y : goal.returns-else-column-y
returns-else-column-y c g u e = let a = c.args in
    next_cell a.y c.requires.0 g u a.a _ e (omega (arith, c.if-column-y.false)) (omega arith)
