-- `plan::lines_for`. Where nothing is missing there is no row to speak of;
-- else the rows are those of the callee.
use Rattle.std.proofs.Common.{arith}
use Rattle.plan.proofs.lines_for.Goals as goal

pub returns-then-gone-eq0 : goal.returns-then-gone-eq0
returns-then-gone-eq0 c = λ q h j l. absurd (omega (arith, h, c.requires.1, c.if-gone-eq0.true))

pub returns : goal.returns
returns c = c.rows.ensures
