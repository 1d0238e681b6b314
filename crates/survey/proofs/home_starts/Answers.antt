-- `survey::home_starts` meets its contract: each content passed has its home's first byte.
use mathlib.Core.Path.{refl, ◌∙◌}
use Prim.Native.Nat.{◌≤◌, ◌<◌}
use native.Mathlib.Omega.{arith}
use borrow.Author.Count.{below_none}
use lib.ListN.{length-set}
use Rattle.lists.specs.Tabulate.{fill_step}
use Rattle.survey.proofs.home_starts.Goals as goal

-- a content, and its home is a unit
turn : (c : goal.In-loop-c) → (c.loop-c.c < c.args.m) × (c.args.m ≤ 19)
turn c = (c.loop-c-test.true, c.requires.0)

pub loop-c-init : goal.loop-c-init
loop-c-init c = (omega arith, refl, below_none _)

pub loop-c-preserved : goal.loop-c-preserved
loop-c-preserved c = let l = c.loop-c in (
  omega (arith, turn c),
  length-set l.at l.c _ ∙ l.invariant.1,
  fill_step _ l.at l.c _ 0 (omega (arith, turn c, l.invariant.1)) refl l.invariant.2,
)

pub returns : goal.returns
returns c = λ i h. c.loop-c.invariant.2 i (omega arith)
