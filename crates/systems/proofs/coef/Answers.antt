-- `systems::coef`. The table holds the coefficients (`coef-entry`).
use mathlib.Core.Path.{sym}
use Rattle.systems.specs.Coef.{table, entry}
use Rattle.systems.proofs.CoefLaws.{coef-entry}
use Rattle.systems.proofs.coef.Goals as goal

pub returns : goal.returns
unfolding table entry
returns c = sym (coef-entry c.args.i c.args.j c.requires.0 c.requires.1)
