-- `updates::Run::byte_start`. The two returns are the two cases of the definition; nothing exceeds 2^44 + 2^17.
use mathlib.Core.Path.{sym, ◌∙◌}
use Rattle.lists.specs.Pick.{pick_true, pick-false}
use Rattle.updates.specs.Sources.{byte_start}
use Rattle.updates.proofs.Run.byte_start.Goals as goal

pub returns-then-names : goal.returns-then-names
unfolding byte_start
returns-then-names c = sym (pick_true _ _ _ (sym c.names.ensures ∙ c.if-names.true))

pub returns : goal.returns
unfolding byte_start
returns c = sym (pick-false _ _ _ (sym c.names.ensures ∙ c.if-names.false))
