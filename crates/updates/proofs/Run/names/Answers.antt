-- `updates::Run::names`. The cases of the first test.
use mathlib.Core.Path.{sym, ◌∙◌}
use borrow.Author.Tests.{le-leb, lt-leb}
use Rattle.lists.specs.Part.{within}
use Rattle.lists.specs.Pick.{pick_true, pick-false}
use Rattle.updates.proofs.Run.names.Goals as goal

pub returns-then-self-c : goal.returns-then-self-c
unfolding within
returns-then-self-c c = sym (pick_true _ _ _ (le-leb _ _ c.if-self-c.true))

pub returns-else-self-c : goal.returns-else-self-c
unfolding within
returns-else-self-c c = lt-leb _ _ c.if-self-c.false ∙ sym (pick-false _ _ _ (lt-leb _ _ c.if-self-c.false))
