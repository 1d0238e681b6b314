-- `groups::read_unit`. The named part of a unit is one run, or none.
use mathlib.Core.Path.{ap, ◌∙◌}
use Prim.Native.Nat.{ℕ, min}
use Rattle.groups.specs.Read.{unit_none, unit_run}
use Rattle.groups.proofs.read_unit.Goals as goal

pub returns-then-lo-hi : goal.returns-then-lo-hi
returns-then-lo-hi c = unit_run _ _ _ _ _ _ _ _ _ c.saturating_sub-lo.ensures (c.min-hi.ensures ∙ ap (λ (x : ℕ). min x c.args.p.u) c.saturating_sub.ensures) c.if-lo-hi.true c.read_run.ensures

pub returns-else-lo-hi : goal.returns-else-lo-hi
returns-else-lo-hi c = unit_none _ _ _ _ _ _ _ _ c.saturating_sub-lo.ensures (c.min-hi.ensures ∙ ap (λ (x : ℕ). min x c.args.p.u) c.saturating_sub.ensures) c.if-lo-hi.false
