-- `field::Tables::inv`. Of 0 by `inv-zero`, of others by their exponent (`inv-power`).
use mathlib.Core.Path.{sym, ap, ◌∙◌}
use native.Mathlib.Nat.{le_of_lt}
use Rattle.field.specs.Byte.{inv}
use Rattle.field.specs.Powers.{inv-zero}
use Rattle.field.proofs.PowersLaws.{inv-power}
use Rattle.field.proofs.Tables.inv.Goals as goal

pub returns-then-a-eq0 : goal.returns-then-a-eq0
returns-then-a-eq0 c = sym (ap inv c.if-a-eq0.true ∙ inv-zero)

pub returns : goal.returns
returns c = c.power.ensures ∙ inv-power c.log.result _ (le_of_lt c.log.ensures.0) c.log.ensures.1
