-- The contents with their home on a target, counted by the frames of that target alone: L·T frames, where the pool has T·C·(N+K) contents.
use Rattle.std.specs.Prelude.{◌≡◌, refl, Bool, false, ℕ, ◌+◌, ◌*◌, ◌/◌, ◌%◌, ◌≤◌, ◌<◌, ltb}
use Rattle.std.proofs.Math.Path.{sym, ap}
use Rattle.std.proofs.Common.{◌∙◌, subst, mod-lt, zero-add, arith, eqb-true, eq-eqb, ne_eqb, lt-ltb, le-ltb}
use Rattle.std.proofs.Math.Bool.{true}
use Rattle.std.proofs.Math.Nat.{div-add-mod}
use Rattle.std.proofs.Math.Dec.{eqb}
use Rattle.lists.specs.Pick.{pick, pick_true, pick-false, below_or_not}
use Rattle.lists.specs.Search.{any-true, any_false, lowest_is}
use Rattle.lists.specs.Digits.{div_of, mod_of, digits_below, div_below}
use Rattle.lists.specs.Count.{count, count_same, sum_same, count_blocks, count-le}
use Rattle.lists.specs.Matched.{count_across}
use Rattle.numbers.specs.declared.Layout.{Layout}
use Rattle.numbers.specs.Layouts.{Valid, width, frames, all_groups, contents}
use Rattle.place.specs.declared.Place.{Place}
use Rattle.place.specs.declared.Unit.{Unit}
use Rattle.place.specs.Places.{place_of, unit_of}
use Rattle.place.specs.PlaceLaws.{place_in, unit_in_lem, there_and_back, back_and_there}
use Rattle.homes.specs.declared.Record.{Record}
use Rattle.homes.specs.Listed.{listed}
use Rattle.homes.specs.Homes.{homes}
use Rattle.homes.proofs.HomesLaws.{homes_stay}
use Rattle.homes.specs.Records.{entry, Good}
use Rattle.homes.specs.Missing.{target_at, home}
use Rattle.homes.proofs.MissingLaws.{home-own, home-lt}
use Rattle.pool.specs.Storing.{owner}
use Rattle.pool.specs.StoringLaws.{owner-home}
use Rattle.pool.specs.Elsewhere.{is_home}
use Rattle.pool.specs.Counting.{home_on, on_target}

-- the unit that lies in frame r of a target is a content's home; and how many of its frames below n are such, as the code counts
abbrev pub home_in : Layout → Record → ℕ → ℕ → Bool
home_in y R target r = is_home y R (unit_of y r target).group (unit_of y r target).unit

abbrev pub homes_in : Layout → Record → ℕ → ℕ → ℕ
homes_in y R target n = count (home_in y R target) n

-- ---- which units of a target are homes, where it is none of the repaired ones: of one that is to fail, and of one that awaits repair
