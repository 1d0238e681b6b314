-- `systems::low`. By the test.
use Rattle.systems.specs.Cramer.{lo_else}
use borrow.Author.Rules.{rules}
use Rattle.systems.proofs.low.Goals as goal

pub returns-else-r-eq0 : goal.returns-else-r-eq0
returns-else-r-eq0 c = (search rules, lo_else c.args.r c.if-r-eq0.false)
