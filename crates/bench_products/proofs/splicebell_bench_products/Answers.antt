-- `bench_products::splicebell_bench_products`. By the tests.
use mathlib.Core.Path.{◌∙◌}
use mathlib.Core.Logic.{⊎_elim}
use Prim.Native.Nat.{◌<◌}
use native.Mathlib.Omega.{arith}
use lib.ListN.{length}
use borrow.Author.Rules.{rules}
use Rattle.bench_products.specs.Products.{first_short, second_short, long_enough}
use Rattle.bench_products.proofs.splicebell_bench_products.Goals as goal

pub returns-then-a-out : goal.returns-then-a-out
returns-then-a-out c =
    let a = c.args in
    ⊎_elim (λ (h : length a.a.now < length a.out.now). first_short a.a.now a.b.now a.out.now h)
    (λ w. second_short a.a.now a.b.now a.out.now (omega (arith, w.0)) w.1) c.then-a-out.either

pub returns : goal.returns
returns c = let a = c.args in
    c.fill.ensures ∙ long_enough a.a.now a.b.now a.out.now (search rules) (search rules)
