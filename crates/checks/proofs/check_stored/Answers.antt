-- `checks::check_stored` meets its contract: the image's length, then the record.
use mathlib.Core.Path.{sym, ◌∙◌}
use Rattle.checks.specs.Tests.{wrong-length, by_record}
use Rattle.checks.proofs.check_stored.Goals as goal

pub returns-then-len-numbers : goal.returns-then-len-numbers
returns-then-len-numbers c = wrong-length _ _ _ c.requires.0 (λ e. c.if-len-numbers.true (e ∙ sym c.requires.1.image_is))

pub all_contents-requires : goal.all_contents-requires
all_contents-requires c = (c.requires.0, c.requires.1.groups_is)

pub check_record-requires : goal.check_record-requires
check_record-requires c = (c.requires.0, c.all_contents.ensures.0)

pub returns : goal.returns
returns c = c.check_record.ensures ∙ by_record _ _ _ c.requires.0 (c.if-len-numbers.false ∙ c.requires.1.image_is)
