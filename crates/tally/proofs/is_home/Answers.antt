-- `tally::is_home` meets its contract: a content's own place, a spare while nothing is repaired, or a spare by the homes of its group.
use native.Mathlib.Omega.{arith}
use Rattle.tally.specs.WalkLaws.{own-place, bare_spare, can_stand, by_homes}
use Rattle.tally.proofs.is_home.Goals as goal

pub returns-then-at-contents : goal.returns-then-at-contents
returns-then-at-contents c = own-place _ _ _ _ _ c.requires c.if-at-contents.true

pub returns-then-r-eq0 : goal.returns-then-r-eq0
returns-then-r-eq0 c = bare_spare _ _ _ _ _ c.requires c.if-at-contents.false c.if-r-eq0.true

pub homes_of-homes-requires : goal.homes_of-homes-requires
homes_of-homes-requires c = let pre = c.requires in
    can_stand _ _ _ _ _ pre _ c.sites_of-sites.ensures.targets_are _ (omega (arith, pre.good.mended))

pub returns : goal.returns
returns c = let start = c.before.before.before.before.before.before.before.before in
    by_homes _ _ _ _ _ start.requires c.sites_of-sites.result.targets c.sites_of-sites.ensures.targets_are c.if-at-contents.false
    c.homes_of-homes.result c.homes_of-homes.ensures _ c.is_home.ensures
