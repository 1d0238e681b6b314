-- `systems::high`. By the test.
use Rattle.systems.specs.Cramer.{hi_else}
use borrow.Author.Rules.{rules}
use Rattle.systems.proofs.high.Goals as goal

pub returns-else-r-eq2 : goal.returns-else-r-eq2
returns-else-r-eq2 c = (search rules, hi_else c.args.r c.requires c.if-r-eq2.false)
