-- Document 01's small pool with target 3 failed, "group 2 data .. and group 3 parity" missing: which plans are accepted, and our planner's.
use Rattle.std.specs.Prelude.{◌≡◌, refl, Bool, true, false, List, [], ◌∷◌, ℕ}
use Rattle.lists.specs.Count.{count, sum}
use Rattle.lists.specs.Search.{any, all, lowest}
use Rattle.lists.specs.Tabulate.{tabulate}
use Rattle.lists.specs.Those.{those}
use Rattle.numbers.specs.declared.Layout.{Layout}
use Rattle.numbers.specs.Gcd.{gcd, gcd_in, lcm}
use Rattle.numbers.specs.Layouts.{block, rows, groups}
use Rattle.tile.specs.Generator.{start_of, next_of, advanced, extra, begin_of, draw_of}
use Rattle.tile.specs.Permutation.{own, exchange, shuffle_of, permutation_of}
use Rattle.place.specs.Units.{frame_of, target_of}
use Rattle.place.specs.Places.{tile_permutation, place_of}
use Rattle.homes.specs.declared.Record.{Record}
use Rattle.homes.specs.Listed.{listed}
use Rattle.homes.specs.Homes.{free, move, homes}
use Rattle.homes.specs.Missing.{home, missing}
use Rattle.pool.specs.Counting.{missing_units}
use Rattle.proposal.specs.Plans.{entries, number_of, names, named_once, each_once, source_good, sources_good, names_missing, plan_good}
use Rattle.proposal.specs.Pairs.{missing_pair}
use Rattle.proposal.specs.Drawing.{group_drawn, content_drawn, entry_number, drawn_plan}

-- "N=1 K=1 P=4 U=4 T=1 cookie 0 .. Failing target 3 makes two contents missing"
abbrev small : Layout
small = record { n = 1; k = 1; p = 4; u = 4; t = 1; cookie = 0; edition = 1 }

abbrev failed3 : Record
failed3 = record { failed = 3 ∷ 0 ∷ 0 ∷ []; k = 1; q = 0; waiting = 2 }

-- the same once it is repaired
abbrev repaired3 : Record
repaired3 = record { failed = 3 ∷ 0 ∷ 0 ∷ []; k = 1; q = 1; waiting = 0 }

abbrev good : List ℕ → Bool
good = plan_good small failed3

-- N=2 K=1 P=4, one group, its contents on targets 2, 1, 3, and the first of them failed
abbrev wider : Layout
wider = record { n = 2; k = 1; p = 4; u = 1; t = 1; cookie = 0; edition = 1 }

abbrev failed2 : Record
failed2 = record { failed = 2 ∷ 0 ∷ 0 ∷ []; k = 1; q = 0; waiting = 1 }

pub plan_examples :
    (drawn_plan small failed3 ≡ 2 ∷ 0 ∷ 1 ∷ 3 ∷ 1 ∷ 0 ∷ [])
    × (good (2 ∷ 0 ∷ 1 ∷ 3 ∷ 1 ∷ 0 ∷ []) ≡ true)
    -- in another order
    × (good (3 ∷ 1 ∷ 0 ∷ 2 ∷ 0 ∷ 1 ∷ []) ≡ true)
    -- nothing named; one left out; one named twice and the other left out; one named twice
    × (good [] ≡ false)
    × (good (2 ∷ 0 ∷ 1 ∷ []) ≡ false)
    × (good (2 ∷ 0 ∷ 1 ∷ 2 ∷ 0 ∷ 1 ∷ []) ≡ false)
    × (good (2 ∷ 0 ∷ 1 ∷ 3 ∷ 1 ∷ 0 ∷ 2 ∷ 0 ∷ 1 ∷ []) ≡ false)
    -- a source that is missing; one that is no content; a number too many
    × (good (2 ∷ 0 ∷ 0 ∷ 3 ∷ 1 ∷ 0 ∷ []) ≡ false)
    × (good (2 ∷ 0 ∷ 2 ∷ 3 ∷ 1 ∷ 0 ∷ []) ≡ false)
    × (good (2 ∷ 0 ∷ 1 ∷ 3 ∷ 1 ∷ 0 ∷ 0 ∷ []) ≡ false)
    -- a present content named; a group outside
    × (good (2 ∷ 0 ∷ 1 ∷ 3 ∷ 0 ∷ 1 ∷ []) ≡ false)
    × (good (2 ∷ 0 ∷ 1 ∷ 4 ∷ 1 ∷ 0 ∷ []) ≡ false)
    -- where nothing is missing the empty plan is accepted, and it alone
    × (plan_good small repaired3 [] ≡ true)
    × (plan_good small repaired3 (2 ∷ 0 ∷ 1 ∷ []) ≡ false)
    -- sources in either order, but not one of them twice
    × (plan_good wider failed2 (0 ∷ 0 ∷ 1 ∷ 2 ∷ []) ≡ true)
    × (plan_good wider failed2 (0 ∷ 0 ∷ 2 ∷ 1 ∷ []) ≡ true)
    × (plan_good wider failed2 (0 ∷ 0 ∷ 1 ∷ 1 ∷ []) ≡ false)
unfolding tabulate count sum those any all lowest gcd gcd_in lcm block rows groups start_of next_of advanced extra begin_of draw_of own exchange
    shuffle_of permutation_of tile_permutation frame_of target_of place_of listed free move homes home missing entries number_of names named_once
    each_once source_good sources_good names_missing plan_good missing_pair missing_units group_drawn content_drawn entry_number drawn_plan
plan_examples = (refl, refl, refl, refl, refl, refl, refl, refl, refl, refl, refl, refl, refl, refl, refl, refl, refl)
