-- `groups::write_part`. Nothing is named there, or one run is written.
use mathlib.Core.Logic.{inl, inr}
use Rattle.groups.specs.Cuts.{run_fits}
use Rattle.groups.specs.Parts.{part_none, part-run}
use Rattle.groups.proofs.write_part.Goals as goal
use Rattle.groups.proofs.write_part.Goals.{then-to-from-via-then-to-from, then-to-from-via-else-to-from+then-hi-lo}

pub returns-then-to-from : goal.returns-then-to-from
returns-then-to-from c = let f = c.requires in
    part_none _ _ _ _ _ _ _ _ _ _ _ _ _ f.0 f.1 f.2 f.3 c.unit_from-from.ensures c.unit_from-to.ensures
    (elim c.then-to-from.branch [ then-to-from-via-then-to-from w ↦ inl w.if-to-from.true | then-to-from-via-else-to-from+then-hi-lo w ↦ inr w.if-hi-lo.true ])

pub write_run-requires : goal.write_run-requires
write_run-requires c = let f = c.requires in
    (f.0, f.1, run_fits _ _ _ _ _ _ _ _ _ _ _ _ f.2 f.3 c.unit_from-from.ensures c.unit_from-to.ensures f.4 c.if-to-from.false c.if-hi-lo.false)

pub returns : goal.returns
returns c = let f = c.requires in
    part-run _ _ _ _ _ _ _ _ _ _ _ _ _ f.0 f.1 f.2 f.3 c.unit_from-from.ensures c.unit_from-to.ensures _ c.if-to-from.false c.if-hi-lo.false c.write_run.ensures
