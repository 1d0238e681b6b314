-- `kernel::schedule::double_from`. Where nothing is doubled the bytes are zeros, which are twice themselves.
use Rattle.kernel.specs.Plan.{double-none}
use Rattle.kernel.proofs.schedule.double_from.Goals as goal

pub returns-else-on : goal.returns-else-on
returns-else-on c = double-none c.args.m c.args.acc.now (c.requires.2 c.if-on.false)
