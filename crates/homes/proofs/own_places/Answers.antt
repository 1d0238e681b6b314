-- `homes::own_places`. The loop keeps: every content passed is at its own place.
use mathlib.Core.Path.{refl, ◌∙◌}
use native.Mathlib.Omega.{arith}
use borrow.Author.Count.{below_none}
use lib.ListN.{length-set}
use Rattle.lists.specs.Tabulate.{fill_step}
use Rattle.homes.proofs.own_places.Goals as goal

pub loop-c-init : goal.loop-c-init
loop-c-init c = (omega arith, refl, below_none _)

pub loop-c-preserved : goal.loop-c-preserved
loop-c-preserved c = let l = c.loop-c in
    (omega arith, length-set l.homes l.c _ ∙ l.invariant.1, fill_step (λ k. k) l.homes l.c _ 0 (omega arith) refl l.invariant.2)

pub returns : goal.returns
returns c = λ k h. c.loop-c.invariant.2 k (omega arith)
