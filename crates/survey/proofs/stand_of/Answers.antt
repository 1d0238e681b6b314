-- `survey::stand_of` meets its contract: while nothing is repaired each content is at its own unit; else homes under the repaired entries are units of
-- the group, and those on a failed target are missing. That they are so many holds of any part of the list.
use native.Mathlib.Omega.{arith}
use Rattle.homes.proofs.StandingLaws.{standing_of, units_of, missing_are}
use Rattle.survey.specs.Steps.{homes_fit, starts_of, own_stands}
use Rattle.survey.proofs.stand_of.Goals as goal

pub returns-then-r-eq0 : goal.returns-then-r-eq0
returns-then-r-eq0 c = own_stands _ c.args.r _ c.if-r-eq0.true _ c.own_starts-at.ensures c.own_missing-missing.ensures

pub homes_of-homes-requires : goal.homes_of-homes-requires
homes_of-homes-requires c = standing_of _ c.requires.1.valid _ c.sites_of-sites.result.targets c.sites_of-sites.ensures.targets_are _ (omega (arith, c.requires.0.few, c.requires.0.mended))

pub missing_of-missing-requires : goal.missing_of-missing-requires
missing_of-missing-requires c = (
  units_of _ c.requires.1.valid _ c.sites_of-sites.result.targets c.sites_of-sites.ensures.targets_are c.args.r _
      (omega (arith, c.requires.0.few, c.requires.0.mended)) _ c.homes_of-homes.ensures,
  omega (arith, c.requires.0.few, c.requires.1.valid.few_parity),
)

pub home_starts-at-requires : goal.home_starts-at-requires
home_starts-at-requires c =
    homes_fit _ c.requires.1.valid c.args.r c.args.g _ (omega (arith, c.requires.0.few, c.requires.0.mended)) c.sites_of-sites.result c.sites_of-sites.ensures
    c.homes_of-homes.result c.homes_of-homes.ensures

pub returns : goal.returns
returns c = let p = c.requires in
    let homes = c.homes_of-homes.ensures in
    let sited = c.sites_of-sites.ensures in
    record {
      starts = starts_of _ p.1.valid c.args.r _ _ (omega (arith, p.0.few, p.0.mended)) c.sites_of-sites.result sited c.homes_of-homes.result homes c.home_starts-at.result c.home_starts-at.ensures;
      flags = missing_are _ p.1.valid _ c.sites_of-sites.result.targets sited.targets_are c.args.r p.0 c.homes_of-homes.result homes c.missing_of-missing.result c.missing_of-missing.ensures;
    }
