-- `updates::keep_unit`. The bytes to write, or what it held, or nothing.
use mathlib.Core.Path.{sym, ◌∙◌}
use native.Mathlib.Omega.{arith}
use Rattle.updates.specs.Steps.{rank_in, kept_named, kept_rebuilt}
use Rattle.updates.proofs.keep_unit.Goals as goal

pub overflow_mul-to : goal.overflow_mul-to
overflow_mul-to c = omega (arith, rank_in c.args.p _ _ _ _ _ c.requires.0 c.requires.1 c.requires.2 c.if-missing-c.true c.requires.4)

pub put_run-requires : goal.put_run-requires
put_run-requires c = (rank_in c.args.p _ _ _ _ _ c.requires.0 c.requires.1 c.requires.2 c.if-missing-c.true c.requires.4, c.requires.3.inside _ c.requires.2)

pub returns-then-names : goal.returns-then-names
returns-then-names c = kept_named c.args.p _ _ _ _ _ _ _ _ _ _ c.if-missing-c.true (rank_in c.args.p _ _ _ _ _ c.requires.0 c.requires.1 c.requires.2 c.if-missing-c.true c.requires.4) (sym c.names.ensures ∙ c.if-names.true) c.put_run.ensures

pub rebuild_run-requires : goal.rebuild_run-requires
rebuild_run-requires c = (c.requires.0, c.requires.1, omega (arith, c.requires.2), c.if-missing-c.true, rank_in c.args.p _ _ _ _ _ c.requires.0 c.requires.1 c.requires.2 c.if-missing-c.true c.requires.4)

pub returns-else-names : goal.returns-else-names
returns-else-names c = kept_rebuilt c.args.p _ _ _ _ _ _ _ _ _ _ c.if-missing-c.true (rank_in c.args.p _ _ _ _ _ c.requires.0 c.requires.1 c.requires.2 c.if-missing-c.true c.requires.4) (sym c.names.ensures ∙ c.if-names.false) c.rebuild_run.ensures
