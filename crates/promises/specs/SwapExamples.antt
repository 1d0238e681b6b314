-- Swaps computed: on document 01's pool of three targets, "file bytes 41 42 (hex)", and homes under lists of two and three. "Homes under the shorter list can
-- differ for contents of other drives, and one content's new home may be another's old one."
use Rattle.std.specs.Prelude.{◌≡◌, refl, List, [], ◌∷◌, ℕ}
use Rattle.lists.specs.Search.{any, all, lowest}
use Rattle.lists.specs.Tabulate.{at, tabulate}
use Rattle.lists.specs.Refusal.{◌or_else◌, refusal_by}
use Rattle.numbers.specs.declared.Layout.{Layout}
use Rattle.numbers.specs.Gcd.{gcd, gcd_in, lcm}
use Rattle.numbers.specs.Layouts.{block, rows, groups}
use Rattle.numbers.specs.Refused.{validb}
use Rattle.tile.specs.Generator.{start_of, next_of, advanced, extra, begin_of, draw_of}
use Rattle.tile.specs.Permutation.{own, exchange, shuffle_of, permutation_of, index_of, inverse_of}
use Rattle.place.specs.Units.{frame_of, target_of, group_at, unit_at}
use Rattle.place.specs.Places.{tile_permutation, place_of, unit_of}
use Rattle.place.specs.Bytes.{spot_of, target_here, frame_here, offset_here, unit_here}
use Rattle.homes.specs.declared.Record.{Record}
use Rattle.homes.specs.Listed.{listed}
use Rattle.homes.specs.Homes.{free, move, homes}
use Rattle.homes.specs.Records.{record_good}
use Rattle.homes.specs.Dropping.{entry_without, without}
use Rattle.homes.specs.Missing.{home}
use Rattle.pool.specs.Contents.{stored}
use Rattle.pool.specs.Storing.{owner, cell_after, storing}
use Rattle.swapping.specs.Swapping.{swap_refusal, swap_image, swap_record}

-- "N=1, K=1, P=3, U=2, T=1, cookie 0": the data on target 1, their copy on 2, the spare on 0
abbrev three : Layout
three = record { n = 1; k = 1; p = 3; u = 2; t = 1; cookie = 0; edition = 1 }

-- one target failed, of which q are repaired; the entries after it are any
abbrev one : ℕ → ℕ → ℕ → Record
one t q waiting = record { failed = t ∷ 9 ∷ 8 ∷ []; k = 1; q = q; waiting = waiting }

pub swap_examples :
    -- target 1 repaired and swapped: the data go from the spare to the new drive, whatever stood there
    (swap_image three (one 1 1 0) (65 ∷ 66 ∷ 170 ∷ 187 ∷ 65 ∷ 66 ∷ []) 1 ≡ 65 ∷ 66 ∷ 65 ∷ 66 ∷ 65 ∷ 66 ∷ [])
    × (swap_record three (one 1 1 0) 6 1 ≡ record { failed = 0 ∷ 9 ∷ 8 ∷ []; k = 0; q = 0; waiting = 0 })
    -- a count that is not true stays what it is
    × (swap_record three (one 1 1 2) 6 1 ≡ record { failed = 0 ∷ 9 ∷ 8 ∷ []; k = 0; q = 0; waiting = 2 })
    -- target 0 held the spare alone: nothing moves
    × (swap_image three (one 0 1 0) (170 ∷ 187 ∷ 65 ∷ 66 ∷ 65 ∷ 66 ∷ []) 0 ≡ 170 ∷ 187 ∷ 65 ∷ 66 ∷ 65 ∷ 66 ∷ [])
    -- refused: no byte and no record changes
    × (swap_refusal three (one 1 0 1) 6 1 ∷ swap_refusal three (one 1 1 0) 6 2 ∷ swap_refusal three (one 1 0 1) 6 2 ∷ swap_refusal three (one 1 0 1) 6 3 ∷ [] ≡ 16 ∷ 11 ∷ 11 ∷ 4 ∷ [])
    × (swap_refusal three (one 3 1 0) 6 1 ∷ swap_refusal three (one 3 1 0) 5 1 ∷ [] ≡ 3 ∷ 2 ∷ [])
    × (swap_image three (one 1 0 1) (65 ∷ 66 ∷ 170 ∷ 187 ∷ 65 ∷ 66 ∷ []) 1 ≡ 65 ∷ 66 ∷ 170 ∷ 187 ∷ 65 ∷ 66 ∷ [])
    × (swap_record three (one 1 0 1) 6 1 ≡ one 1 0 1)
unfolding tabulate any all lowest ◌or_else◌ refusal_by gcd gcd_in lcm block rows groups validb start_of next_of advanced extra begin_of draw_of own
    exchange shuffle_of permutation_of index_of inverse_of tile_permutation frame_of target_of group_at unit_at place_of unit_of spot_of target_here
    frame_here offset_here unit_here listed free move homes record_good entry_without home stored owner cell_after storing swap_refusal swap_image
    swap_record
swap_examples = (refl, refl, refl, refl, refl, refl, refl, refl)

-- ---- N=1, K=2, unit u on target u: contents 0, 1 and 2, spares 3 and 4

abbrev two : ℕ → ℕ → Record
two a b = record { failed = a ∷ b ∷ 7 ∷ []; k = 2; q = 2; waiting = 0 }

-- the homes of the three contents
abbrev homes_under : Record → List ℕ
homes_under R = home_of 0 ∷ home_of 1 ∷ home_of 2 ∷ []
  where
    home_of : ℕ → ℕ
    home_of c = homes (λ u. u) 3 2 (at R.failed) R.k c

pub shorter_list_examples :
    -- the freed entry is 0, what stands after it stays; of three the middle one is taken back
    (without (two 3 0) 3 ≡ record { failed = 0 ∷ 0 ∷ 7 ∷ []; k = 1; q = 1; waiting = 0 })
    × (without (record { failed = 5 ∷ 6 ∷ 7 ∷ []; k = 3; q = 3; waiting = 0 }) 6 ≡ record { failed = 5 ∷ 7 ∷ 0 ∷ []; k = 2; q = 2; waiting = 0 })
    -- "Homes under the shorter list can differ for contents of other drives": under 3, 0 the data of drive 0 are on 4; once 3 is back their home is there
    × (homes_under (two 3 0) ≡ 4 ∷ 1 ∷ 2 ∷ [])
    × (homes_under (without (two 3 0) 3) ≡ 3 ∷ 1 ∷ 2 ∷ [])
    -- "one content's new home may be another's old one": under 0, 1 content 0 is on 3 and content 1 on 4; once 0 is back content 1 has its home on 3
    × (homes_under (two 0 1) ≡ 3 ∷ 4 ∷ 2 ∷ [])
    × (homes_under (without (two 0 1) 0) ≡ 0 ∷ 3 ∷ 2 ∷ [])
unfolding tabulate any lowest listed free move homes entry_without
shorter_list_examples = (refl, refl, refl, refl, refl, refl)
