-- `answers::places` meets its contract: by the greatest power of ten that the number reaches.
use mathlib.Core.Path.{sym, ap, ◌∙◌}
use Rattle.answers.specs.Decimal.{places}
use Rattle.answers.specs.DecimalLaws.{places-power, places-none}
use Rattle.answers.proofs.places.Goals as goal

pub returns-in-Some : goal.returns-in-Some
returns-in-Some c = let e = c.in-Some.ensures in places-power c.args.n c.in-Some.power e.power_le e.next_power_gt e.bound

pub returns-in-None : goal.returns-in-None
returns-in-None c = places-none ∙ ap places (sym c.in-None.ensures.none)
