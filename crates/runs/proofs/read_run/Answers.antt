-- `runs::read_run`. A missing content is rebuilt, another is copied (`there_made`).
use native.Mathlib.Omega.{arith}
use Rattle.runs.specs.Steps.{there_made}
use Rattle.runs.proofs.read_run.Goals as goal

pub overflow_add-at : goal.overflow_add-at
overflow_add-at c = omega (arith, c.requires.0.inside _ c.requires.1, c.requires.2)

pub put_run-requires : goal.put_run-requires
put_run-requires c = (c.requires.3, omega (arith, c.requires.0.inside _ c.requires.1, c.requires.2))

pub returns : goal.returns
returns c = there_made _ _ _ _ _ _ c.requires.3 _ _ c.if-missing-c.false c.put_run.ensures
