-- `systems::row`. The table holds the coefficients (`coef-entry`).
use mathlib.Core.Path.{sym}
use Rattle.systems.specs.Coef.{table, entry}
use Rattle.systems.proofs.CoefLaws.{coef-entry}
use Rattle.systems.proofs.row.Goals as goal

pub returns : goal.returns
unfolding table entry
returns c = λ j h. sym (coef-entry c.args.i j c.requires h)
