-- `numbers::numbers_of` meets its contract: `products` bounds every product, and the value is `numbers_of` with the shape's for the shape.
use mathlib.Core.Path.{subst⁻¹}
use native.Mathlib.Omega.{arith}
use Prim.Native.Nat.{◌*◌}
use Rattle.numbers.specs.declared.Layout.{Layout}
use Rattle.numbers.specs.declared.Shape.{Shape}
use Rattle.numbers.specs.declared.Numbers.{Numbers}
use Rattle.numbers.specs.Shapes.{products}
use Rattle.numbers.specs.Answers.{Numbered, numbered, numbers_of, shape_of}
use Rattle.numbers.proofs.numbers_of.Goals as goal

abbrev built : Layout → Shape → Numbers
built y s =
    record {
      w = s.w;
      b = s.b;
      l = s.l;
      c = s.c;
      frames = s.l * y.t;
      groups = s.c * y.t;
      capacity = y.t * s.c * y.n * y.u;
      image = y.p * s.l * y.t * y.u;
    }

pub overflow_mul-result : goal.overflow_mul-result
overflow_mul-result c = omega (arith, products c.args.y c.requires _ _ c.shape_of-w.ensures.l_few c.shape_of-w.ensures.c-few)

pub overflow_mul-result-2 : goal.overflow_mul-result-2
overflow_mul-result-2 c = omega (arith, products c.args.y c.requires _ _ c.shape_of-w.ensures.l_few c.shape_of-w.ensures.c-few)

pub overflow_mul-result-3 : goal.overflow_mul-result-3
overflow_mul-result-3 c = omega (arith, products c.args.y c.requires _ _ c.shape_of-w.ensures.l_few c.shape_of-w.ensures.c-few)

pub overflow_mul-result-4 : goal.overflow_mul-result-4
overflow_mul-result-4 c = omega (arith, products c.args.y c.requires _ _ c.shape_of-w.ensures.l_few c.shape_of-w.ensures.c-few)

pub overflow_mul-result-5 : goal.overflow_mul-result-5
overflow_mul-result-5 c = omega (arith, products c.args.y c.requires _ _ c.shape_of-w.ensures.l_few c.shape_of-w.ensures.c-few)

pub overflow_mul-result-6 : goal.overflow_mul-result-6
overflow_mul-result-6 c = omega (arith, products c.args.y c.requires _ _ c.shape_of-w.ensures.l_few c.shape_of-w.ensures.c-few)

pub overflow_mul-result-7 : goal.overflow_mul-result-7
overflow_mul-result-7 c = omega (arith, products c.args.y c.requires _ _ c.shape_of-w.ensures.l_few c.shape_of-w.ensures.c-few)

pub overflow_mul-result-8 : goal.overflow_mul-result-8
overflow_mul-result-8 c = omega (arith, products c.args.y c.requires _ _ c.shape_of-w.ensures.l_few c.shape_of-w.ensures.c-few)

pub returns : goal.returns
unfolding numbers_of shape_of
returns c = subst⁻¹ (λ (s : Shape). Numbered c.args.y (built c.args.y s)) c.shape_of-w.ensures.is (numbered c.args.y c.requires)
