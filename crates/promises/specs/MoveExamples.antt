-- Document 01's pool of three targets, "file bytes 41 42 (hex)", moved to edition 2 and back: whole, with a target failed, and after its repair.
use Rattle.std.specs.Prelude.{◌≡◌, refl, [], ◌∷◌}
use Rattle.lists.specs.Count.{count, sum}
use Rattle.lists.specs.Search.{any, all, lowest}
use Rattle.lists.specs.Tabulate.{tabulate}
use Rattle.lists.specs.Those.{those}
use Rattle.lists.specs.Refusal.{◌or_else◌, refusal_by}
use Rattle.numbers.specs.declared.Layout.{Layout}
use Rattle.numbers.specs.Gcd.{gcd, gcd_in, lcm}
use Rattle.numbers.specs.Layouts.{block, rows, groups}
use Rattle.numbers.specs.Refused.{validb}
use Rattle.numbers.specs.Editions.{other_edition}
use Rattle.tile.specs.Generator.{start_of, next_of, advanced, extra, begin_of, draw_of}
use Rattle.tile.specs.Permutation.{own, exchange, shuffle_of, permutation_of, index_of, inverse_of}
use Rattle.place.specs.Units.{frame_of, target_of, group_at, unit_at}
use Rattle.place.specs.Places.{tile_permutation, place_of, unit_of}
use Rattle.place.specs.Bytes.{group_of, unit_in, byte_in, offset_of, spot_of, target_here, frame_here, offset_here, unit_here}
use Rattle.field.specs.Byte.{◌⊕◌, double, scale, mul_digits, mul, power_digits, inv, div}
use Rattle.field.specs.Sum.{sum_to}
use Rattle.systems.specs.Coef.{coef}
use Rattle.systems.specs.Cramer.{cof, det, row, inverse, sol}
use Rattle.systems.specs.System.{system_entry}
use Rattle.parity.specs.Group.{parity_of, content, left, known, data_of, rebuilt}
use Rattle.homes.specs.declared.Record.{Record}
use Rattle.homes.specs.Listed.{listed}
use Rattle.homes.specs.Homes.{free, move, homes}
use Rattle.homes.specs.Records.{record_good}
use Rattle.homes.specs.Missing.{home, missing}
use Rattle.pool.specs.Contents.{stored, content_byte, file_byte}
use Rattle.pool.specs.Files.{encoded}
use Rattle.moving.specs.Fresh.{unfailed, fresh_byte, fresh_image}
use Rattle.moving.specs.Moving.{shown_file, move_refusal, move_image}

-- "N=1, K=1, P=3, U=2, T=1, cookie 0"
abbrev three : Layout
three = record { n = 1; k = 1; p = 3; u = 2; t = 1; cookie = 0; edition = 1 }

abbrev three2 : Layout
three2 = record { n = 1; k = 1; p = 3; u = 2; t = 1; cookie = 0; edition = 2 }

abbrev none : Record
none = unfailed (0 ∷ 0 ∷ 0 ∷ [])

-- target 1, which the data lie on, failed and not repaired; and repaired
abbrev failed1 : Record
failed1 = record { failed = 1 ∷ 0 ∷ 0 ∷ []; k = 1; q = 0; waiting = 1 }

abbrev repaired1 : Record
repaired1 = record { failed = 1 ∷ 0 ∷ 0 ∷ []; k = 1; q = 1; waiting = 0 }

pub move_examples :
    -- the spare on target 0, data and parity on 1 and 2; in edition 2 on target 1, and on 0 and 2
    (move_image three none (0 ∷ 0 ∷ 65 ∷ 66 ∷ 65 ∷ 66 ∷ []) 6 ≡ 65 ∷ 66 ∷ 0 ∷ 0 ∷ 65 ∷ 66 ∷ [])
    × (move_image three2 none (65 ∷ 66 ∷ 0 ∷ 0 ∷ 65 ∷ 66 ∷ []) 6 ≡ 0 ∷ 0 ∷ 65 ∷ 66 ∷ 65 ∷ 66 ∷ [])
    -- bytes of the failed target are not read, nor are those of the spare; after the repair it is read, and the failed target is not
    × (move_image three failed1 (7 ∷ 7 ∷ 9 ∷ 9 ∷ 65 ∷ 66 ∷ []) 6 ≡ 65 ∷ 66 ∷ 0 ∷ 0 ∷ 65 ∷ 66 ∷ [])
    × (move_image three repaired1 (65 ∷ 66 ∷ 9 ∷ 9 ∷ 65 ∷ 66 ∷ []) 6 ≡ 65 ∷ 66 ∷ 0 ∷ 0 ∷ 65 ∷ 66 ∷ [])
    -- parity is worked out, not copied
    × (move_image three none (0 ∷ 0 ∷ 65 ∷ 66 ∷ 1 ∷ 2 ∷ []) 6 ≡ 65 ∷ 66 ∷ 0 ∷ 0 ∷ 65 ∷ 66 ∷ [])
    -- refused: zeros over the whole length, whatever that is
    × (move_refusal three none 6 5 ≡ 2)
    × (move_image three none (0 ∷ 0 ∷ 65 ∷ 66 ∷ 65 ∷ 66 ∷ []) 5 ≡ 0 ∷ 0 ∷ 0 ∷ 0 ∷ 0 ∷ [])
    × (move_refusal three none 5 6 ≡ 2)
    × (move_refusal three (record { failed = 3 ∷ 0 ∷ 0 ∷ []; k = 1; q = 0; waiting = 0 }) 6 6 ≡ 3)
    × (move_refusal three (record { failed = 3 ∷ 0 ∷ 0 ∷ []; k = 1; q = 0; waiting = 0 }) 6 7 ≡ 2)
    × (move_refusal (record { n = 1; k = 1; p = 3; u = 2; t = 1; cookie = 0; edition = 3 }) none 5 5 ≡ 1)
unfolding tabulate count sum those any all lowest ◌or_else◌ refusal_by gcd gcd_in lcm block rows groups validb other_edition start_of next_of advanced
    extra begin_of draw_of own exchange shuffle_of permutation_of index_of inverse_of tile_permutation frame_of target_of group_at unit_at place_of
    unit_of group_of unit_in byte_in offset_of spot_of target_here frame_here offset_here unit_here ◌⊕◌ double scale mul_digits mul power_digits inv
    div sum_to coef cof det row inverse sol system_entry parity_of content left known data_of rebuilt listed free move homes record_good home missing
    stored content_byte file_byte encoded fresh_byte fresh_image shown_file move_refusal move_image
move_examples = (refl, refl, refl, refl, refl, refl, refl, refl, refl, refl, refl)
