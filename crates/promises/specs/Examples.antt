-- "Checked examples": the starred ones, "together, a single statement about the definitions", computed by the checker.
use Rattle.std.specs.Prelude.{◌≡◌, refl, Bool, true, false, List, [], ◌∷◌, ℕ, take}
use Rattle.lists.specs.Count.{count, sum}
use Rattle.lists.specs.Search.{any, all, lowest}
use Rattle.lists.specs.Tabulate.{tabulate, at as nth}
use Rattle.lists.specs.Refusal.{◌or_else◌, refusal_by}
use Rattle.numbers.specs.declared.Layout.{Layout}
use Rattle.numbers.specs.Gcd.{gcd, gcd_in, lcm}
use Rattle.numbers.specs.Layouts.{width, block, rows, groups}
use Rattle.numbers.specs.Refused.{validb, layout_refusal}
use Rattle.tile.specs.Generator.{start_of, next_of, advanced, extra, begin_of, draw_of}
use Rattle.tile.specs.Permutation.{own, exchange, shuffle_of, permutation_of, index_of, inverse_of}
use Rattle.place.specs.declared.Place.{Place}
use Rattle.place.specs.Units.{frame_of, target_of, group_at, unit_at}
use Rattle.place.specs.Places.{tile_permutation, place_of, unit_of}
use Rattle.place.specs.Bytes.{group_of, unit_in, byte_in, spot_of, image_byte}
use Rattle.field.specs.Byte.{◌⊕◌, mul, mul_digits, double, scale, inv, power_digits, div}
use Rattle.field.specs.Sum.{sum_to}
use Rattle.systems.specs.Coef.{coef}
use Rattle.parity.specs.Group.{parity_of, content}
use Rattle.coding.specs.Buffer.{content_byte, encoded_of}
use Rattle.group.specs.Encode.{encode_refusal, encoded}
use Rattle.homes.specs.declared.Record.{Record}
use Rattle.homes.specs.Listed.{listed}
use Rattle.homes.specs.Homes.{free, move, homes}
use Rattle.homes.specs.Records.{record_good}
use Rattle.homes.specs.Missing.{home, missing}
use Rattle.pool.specs.Counting.{on_target}
use Rattle.pool.specs.Refusals.{otherwise, fail_refusal}
use Rattle.pool.specs.Failing.{fail_record}

-- document 02, order 8: "Document 01's examples .. stay edition 1"
abbrev pub layout : ℕ → ℕ → ℕ → ℕ → ℕ → ℕ → Layout
layout n k p u t cookie = record { n = n; k = k; p = p; u = u; t = t; cookie = cookie; edition = 1 }

-- "N=1 K=1 P=4 U=4 T=1 cookie 0"
abbrev pub small : Layout
small = layout 1 1 4 4 1 0

abbrev four : Layout → List ℕ
four y = width y ∷ block y ∷ rows y ∷ groups y ∷ []

abbrev at : ℕ → ℕ → Place
at r t = record { frame = r; target = t }

abbrev three : Layout → ℕ → List Place
three y g = place_of y g 0 ∷ place_of y g 1 ∷ place_of y g 2 ∷ []

-- an empty failure list, and that with target 3 failed
abbrev pub none : Record
none = record { failed = 0 ∷ 0 ∷ 0 ∷ []; k = 0; q = 0; waiting = 0 }

abbrev failed3 : Record
failed3 = fail_record small none 48 3

-- which contents of group g are missing then, and the place of content c under the whole list
abbrev lost : ℕ → List Bool
lost g = missing small failed3 g 0 ∷ missing small failed3 g 1 ∷ []

abbrev new_home : ℕ → ℕ → Place
new_home g c = place_of small g (home small failed3 1 g c)

-- "N=1 K=2, units on targets a b c d e": unit u on target u, so a to e are 0 to 4; the home of the data, and so its target, under a list of two
abbrev data_on : ℕ → ℕ → ℕ
data_on first second = homes (λ u. u) 3 2 (nth (first ∷ second ∷ [])) 2 0

pub examples :
    (four (layout 4 2 20 1 1 0) ≡ 8 ∷ 40 ∷ 2 ∷ 5 ∷ [])
    × (rows (layout 1 0 1 1 1 0) ∷ groups (layout 1 0 1 1 1 0) ∷ [] ≡ 1 ∷ 1 ∷ [])
    × (layout_refusal (layout 16 3 22 1 1 0) ≡ 0)
    × (layout_refusal (layout 16 3 21 1 1 0) ≡ 1)
    × (take 3 (permutation_of 1 3 0 0) ≡ 1 ∷ 2 ∷ 0 ∷ [])
    × (take 4 (permutation_of 1 4 0 0) ≡ 2 ∷ 1 ∷ 3 ∷ 0 ∷ [])
    × (three small 0 ≡ at 0 2 ∷ at 0 1 ∷ at 0 3 ∷ [])
    × (three small 1 ≡ at 0 0 ∷ at 1 2 ∷ at 1 1 ∷ [])
    × (three small 2 ≡ at 1 3 ∷ at 1 0 ∷ at 2 2 ∷ [])
    × (three small 3 ≡ at 2 1 ∷ at 2 3 ∷ at 2 0 ∷ [])
    × (group_of small 9 ∷ unit_in small 9 ∷ byte_in small 9 ∷ image_byte small 9 ∷ [] ≡ 2 ∷ 0 ∷ 1 ∷ 41 ∷ [])
    × (mul 2 142 ∷ mul 2 128 ∷ [] ≡ 1 ∷ 29 ∷ [])
    × (coef 1 1 ≡ 232)
    × (encoded (layout 2 2 6 1 1 0) (0 ∷ 2 ∷ 0 ∷ 0 ∷ []) ≡ 0 ∷ 2 ∷ 2 ∷ 205 ∷ [])
    × (fail_refusal small none 48 3 ∷ failed3.k ∷ nth failed3.failed 0 ∷ failed3.waiting ∷ [] ≡ 0 ∷ 1 ∷ 3 ∷ 2 ∷ [])
    × (lost 0 ∷ lost 1 ∷ lost 2 ∷ lost 3 ∷ [] ≡ (false ∷ false ∷ []) ∷ (false ∷ false ∷ []) ∷ (true ∷ false ∷ []) ∷ (false ∷ true ∷ []) ∷ [])
    × (new_home 2 0 ∷ new_home 3 1 ∷ [] ≡ at 2 2 ∷ at 2 0 ∷ [])
    × (data_on 0 3 ∷ data_on 3 0 ∷ data_on 4 0 ∷ [] ≡ 4 ∷ 4 ∷ 3 ∷ [])
unfolding count sum tabulate ◌or_else◌ refusal_by gcd gcd_in lcm block rows groups validb layout_refusal start_of next_of advanced extra begin_of
    draw_of own exchange shuffle_of permutation_of tile_permutation index_of inverse_of frame_of target_of group_at unit_at place_of unit_of group_of
    unit_in byte_in spot_of image_byte any all lowest listed free move homes record_good home missing on_target otherwise fail_refusal fail_record ◌⊕◌
    mul mul_digits double scale inv power_digits div coef sum_to parity_of content content_byte encoded_of encode_refusal encoded
examples = (refl, refl, refl, refl, refl, refl, refl, refl, refl, refl, refl, refl, refl, refl, refl, refl, refl, refl)
