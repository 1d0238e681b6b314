-- `survey::listed_starts` meets its contract: homes under the whole list are units of the group. That they are so many holds of any part of the list, so
-- a program that takes another part is refused at what it returns.
use Rattle.std.proofs.Common.{arith}
use Rattle.homes.proofs.StandingLaws.{standing_of}
use Rattle.survey.specs.Steps.{homes_fit, starts_of}
use Rattle.survey.proofs.listed_starts.Goals as goal

pub homes_of-homes-requires : goal.homes_of-homes-requires
homes_of-homes-requires c = let p = c.requires in
    standing_of _ p.0 _ c.args.sites.targets p.2.1.targets_are _ (omega (arith, p.1.few, p.1.mended))

pub home_starts-requires : goal.home_starts-requires
home_starts-requires c = let p = c.requires in
    homes_fit _ p.0 c.args.r p.2.0 _ (omega (arith, p.1.few, p.1.mended)) c.args.sites p.2.1 c.homes_of-homes.result c.homes_of-homes.ensures

pub returns : goal.returns
returns c g sited = let p = c.requires in
    starts_of _ p.0 c.args.r g _ p.1.few c.args.sites sited c.homes_of-homes.result c.homes_of-homes.ensures c.home_starts.result c.home_starts.ensures
