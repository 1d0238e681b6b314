-- `pool_move::move_group` meets its contract: contents at their own places, then spares of zeros, are all units of the group (`group_laid`).
use Rattle.pool_move.specs.Turns.{spares_fit, group_laid}
use Rattle.pool_move.proofs.move_group.Goals as goal

pub clear_units-requires : goal.clear_units-requires
clear_units-requires c = spares_fit _ _ _ _ c.args.there c.args.old.now c.args.new.now c.requires c.spare_starts-spares.result _ c.spare_starts-spares.ensures c.move_contents.auto.new

pub returns : goal.returns
returns c = group_laid _ _ _ _ c.args.there c.args.old.now c.args.new.now c.requires _ _ _ c.move_contents.ensures c.spare_starts-spares.ensures c.clear_units.ensures
