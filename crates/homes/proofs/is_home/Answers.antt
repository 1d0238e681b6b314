-- `homes::is_home`. The loop keeps: none of the homes passed is u.
use mathlib.Core.Path.{sym, ap, ◌∙◌}
use native.Mathlib.Omega.{arith}
use borrow.Author.Count.{below_none, below_more}
use Rattle.lists.specs.Tabulate.{at}
use Rattle.homes.specs.Listed.{listed, listed_at, unlisted_of}
use Rattle.homes.proofs.is_home.Goals as goal

pub loop-c-init : goal.loop-c-init
loop-c-init c = (omega arith, below_none _)

pub returns-then-homes-c : goal.returns-then-homes-c
returns-then-homes-c c = let a = c.args in
    let i = c.loop-c.c in
    sym (ap (listed (at a.homes) a.m) (sym c.if-homes-c.true) ∙ listed_at (at a.homes) a.m i (omega arith))

pub loop-c-preserved : goal.loop-c-preserved
loop-c-preserved c = (omega arith, below_more _ _ c.loop-c.invariant.1 c.if-homes-c.false)

pub returns : goal.returns
returns c = let a = c.args in
    sym (unlisted_of (at a.homes) a.m a.u (λ k b. c.loop-c.invariant.1 k (omega arith)))
