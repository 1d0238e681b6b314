-- `pool_repair::mend_group` meets its contract: where nothing is missing nothing is to be done; else the new homes lie in the image, and the group's
-- repair by its plan is the pool's (`mended_group`).
use Rattle.pool_repair.specs.MendingLaws.{group_fits, mended_group, nothing_to_mend}
use Rattle.pool_repair.proofs.mend_group.Goals as goal

pub returns-then-plan-eq0 : goal.returns-then-plan-eq0
returns-then-plan-eq0 c = let p = c.requires.0 in nothing_to_mend _ p.valid c.args.r p.good _ _ p.surveyed c.if-plan-eq0.true _

pub repair_group-requires : goal.repair_group-requires
repair_group-requires c = let p = c.requires.0 in
    group_fits _ p.valid c.args.r p.good _ p.group _ p.surveyed c.new_starts-starts.result c.new_starts-starts.ensures _ c.requires.1

pub returns : goal.returns
returns c = let p = c.requires.0 in
    mended_group _ p.valid c.args.r p.good _ p.group _ p.surveyed c.new_starts-starts.result c.new_starts-starts.ensures _ _ c.requires.1 c.repair_group.ensures
