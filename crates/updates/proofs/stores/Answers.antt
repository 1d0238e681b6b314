-- `updates::stores`. Each return is a case of the definition.
use mathlib.Core.Path.{sym, ap, ◌∙◌}
use borrow.Author.Tests.{lt-ltb}
use Rattle.std.specs.Prelude.{not}
use Rattle.lists.specs.Pick.{pick_true}
use Rattle.updates.specs.Steps.{absent, present}
use Rattle.updates.specs.Writing.{stores_in}
use Rattle.updates.proofs.stores.Goals as goal

pub returns-then-not-missing-c : goal.returns-then-not-missing-c
unfolding stores_in
returns-then-not-missing-c c = c.names.ensures ∙ sym (present _ _ c.if-not-missing-c.true ∙ pick_true _ _ _ (lt-ltb _ _ c.requires.0))

pub returns-else-not-missing-c : goal.returns-else-not-missing-c
unfolding stores_in
returns-else-not-missing-c c = ap not c.if-not-missing-c.false ∙ sym (absent _ _ c.if-not-missing-c.false)
