-- `homes::missing_of`. The loop keeps: the flags of the contents passed.
use mathlib.Core.Path.{refl, ap, ◌∙◌}
use mathlib.Core.Bool.{false}
use native.Mathlib.Omega.{arith}
use borrow.Author.Count.{below_none}
use lib.ListN.{length-set}
use Rattle.lists.specs.Tabulate.{at, fill_step}
use Rattle.homes.specs.Listed.{listed}
use Rattle.homes.proofs.missing_of.Goals as goal

pub loop-c-init : goal.loop-c-init
loop-c-init c = (omega arith, refl, below_none _)

pub bounds-targets-home : goal.bounds-targets-home
bounds-targets-home c = let u = c.requires.0.units c.loop-c.c c.loop-c-test.true in omega (arith, c.requires.0.few_units)

pub loop-c-preserved : goal.loop-c-preserved
loop-c-preserved c = let a = c.args in
    let l = c.loop-c in (
      omega arith,
      length-set l.missing l.c _ ∙ l.invariant.1,
      fill_step (λ i. listed (at a.failed) a.k (at a.targets (at a.homes i))) l.missing l.c _ false (omega arith)
          (c.is_listed.ensures ∙ ap (listed (at a.failed) a.k) c.from.ensures) l.invariant.2,
    )

pub returns : goal.returns
returns c = λ i h. c.loop-c.invariant.2 i (omega arith)
