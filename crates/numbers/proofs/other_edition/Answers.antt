-- `numbers::other_edition` meets its contract: the definition, field by field.
use mathlib.Core.Path.{refl}
use Rattle.numbers.specs.Editions.{other_edition}
use Rattle.numbers.proofs.other_edition.Goals as goal

pub returns : goal.returns
unfolding other_edition
returns c = refl
