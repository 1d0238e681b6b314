-- The whole trace of docs/REPLAY.md and its output, computed: the pool of document 01's hex lines, written, read, a drive lost, read and repaired; a
-- malformed line (a space after 03), a failure too many, and a read.
--
--     01 01 03 0002 000001 0000000000000000
--     01 0000000000000000 4142
--     04 0000000000000000 0000000000000002
--     02 01
--     04 0000000000000000 0000000000000002
--     03
--     03
--     02 02
--     04 0000000000000001 0000000000000001
--
-- gives
--
--     0
--     0 4142
--     0
--     0 4142
--     0 1
--     13
--     7
--     0 42
use Rattle.std.specs.Prelude.{◌≡◌, refl, List, [], ◌∷◌, ℕ}
use Rattle.lists.specs.Part.{within}
use Rattle.lists.specs.Count.{count, sum}
use Rattle.lists.specs.Those.{those}
use Rattle.lists.specs.Search.{any, all, lowest}
use Rattle.lists.specs.Tabulate.{tabulate}
use Rattle.lists.specs.Refusal.{◌or_else◌, refusal_by}
use Rattle.numbers.specs.Gcd.{gcd, gcd_in, lcm}
use Rattle.numbers.specs.Layouts.{block, rows, groups}
use Rattle.numbers.specs.Refused.{validb}
use Rattle.tile.specs.Generator.{start_of, next_of, advanced, extra, begin_of, draw_of}
use Rattle.tile.specs.Permutation.{own, exchange, shuffle_of, permutation_of, index_of, inverse_of}
use Rattle.place.specs.Units.{frame_of, target_of, group_at, unit_at}
use Rattle.place.specs.Places.{tile_permutation, place_of, unit_of}
use Rattle.place.specs.Bytes.{group_of, unit_in, byte_in, offset_of, spot_of, target_here, frame_here, offset_here, unit_here}
use Rattle.field.specs.Byte.{◌⊕◌, mul, mul_digits, double, scale, inv, power_digits, div}
use Rattle.field.specs.Sum.{sum_to}
use Rattle.systems.specs.Coef.{coef}
use Rattle.systems.specs.Cramer.{cof, det, row, num, inverse, sol}
use Rattle.systems.specs.System.{system_entry}
use Rattle.parity.specs.Group.{parity_of, content, left, known, data_of, rebuilt}
use Rattle.homes.specs.Listed.{listed}
use Rattle.homes.specs.Homes.{free, move, homes}
use Rattle.homes.specs.Records.{record_good}
use Rattle.homes.specs.Missing.{home, missing}
use Rattle.pool.specs.Contents.{stored, content_byte, file_byte}
use Rattle.pool.specs.Counting.{missing_units, on_target}
use Rattle.pool.specs.Refusals.{range_refusal, otherwise, fail_refusal, repair_refusal}
use Rattle.pool.specs.Reading.{read_out}
use Rattle.pool.specs.Storing.{owner, cell_after, storing}
use Rattle.pool.specs.Writing.{touched, writes, laid, write_image}
use Rattle.pool.specs.Failing.{fail_record}
use Rattle.pool.specs.Repairing.{repair_image, repair_record, repair_count}
use Rattle.hex_text.specs.Hex.{hex_digit, hex_of}
use Rattle.hex_text.specs.Digit.{is_digit, digit_value, number_at}
use Rattle.trace.specs.Fields.{fields_at}
use Rattle.trace.specs.Forms.{is_layout, layout_at, form_of, kind_of, bytes_of}
use Rattle.trace.specs.Told.{told_as, told_of}
use Rattle.answers.specs.Decimal.{tenths, places, decimal, printed}
use Rattle.line_cursor.specs.Lines.{lines_of}
use Rattle.replay_line.specs.First.{first_refusal}
use Rattle.replay_line.specs.Play.{played_record, played_image, answer_of}
use Rattle.promises.specs.Runs.{start}
use Rattle.promises.specs.Replay.{replay_prints, replay_output}

abbrev trace : List ℕ
trace =
    48 ∷ 49 ∷ 32 ∷ 48 ∷ 49 ∷ 32 ∷ 48 ∷ 51 ∷ 32 ∷ 48 ∷ 48 ∷ 48 ∷ 50 ∷ 32 ∷ 48 ∷ 48 ∷ 48 ∷ 48 ∷ 48 ∷ 49 ∷ 32 ∷ 48 ∷ 48 ∷ 48 ∷ 48 ∷ 48 ∷
    48 ∷ 48 ∷ 48 ∷ 48 ∷ 48 ∷ 48 ∷ 48 ∷ 48 ∷ 48 ∷ 48 ∷ 48 ∷ 10 ∷ 48 ∷ 49 ∷ 32 ∷ 48 ∷ 48 ∷ 48 ∷ 48 ∷ 48 ∷ 48 ∷ 48 ∷ 48 ∷ 48 ∷ 48 ∷ 48 ∷
    48 ∷ 48 ∷ 48 ∷ 48 ∷ 48 ∷ 32 ∷ 52 ∷ 49 ∷ 52 ∷ 50 ∷ 10 ∷ 48 ∷ 52 ∷ 32 ∷ 48 ∷ 48 ∷ 48 ∷ 48 ∷ 48 ∷ 48 ∷ 48 ∷ 48 ∷ 48 ∷ 48 ∷ 48 ∷ 48 ∷
    48 ∷ 48 ∷ 48 ∷ 48 ∷ 32 ∷ 48 ∷ 48 ∷ 48 ∷ 48 ∷ 48 ∷ 48 ∷ 48 ∷ 48 ∷ 48 ∷ 48 ∷ 48 ∷ 48 ∷ 48 ∷ 48 ∷ 48 ∷ 50 ∷ 10 ∷ 48 ∷ 50 ∷ 32 ∷ 48 ∷
    49 ∷ 10 ∷ 48 ∷ 52 ∷ 32 ∷ 48 ∷ 48 ∷ 48 ∷ 48 ∷ 48 ∷ 48 ∷ 48 ∷ 48 ∷ 48 ∷ 48 ∷ 48 ∷ 48 ∷ 48 ∷ 48 ∷ 48 ∷ 48 ∷ 32 ∷ 48 ∷ 48 ∷ 48 ∷ 48 ∷
    48 ∷ 48 ∷ 48 ∷ 48 ∷ 48 ∷ 48 ∷ 48 ∷ 48 ∷ 48 ∷ 48 ∷ 48 ∷ 50 ∷ 10 ∷ 48 ∷ 51 ∷ 10 ∷ 48 ∷ 51 ∷ 32 ∷ 10 ∷ 48 ∷ 50 ∷ 32 ∷ 48 ∷ 50 ∷ 10 ∷
    48 ∷ 52 ∷ 32 ∷ 48 ∷ 48 ∷ 48 ∷ 48 ∷ 48 ∷ 48 ∷ 48 ∷ 48 ∷ 48 ∷ 48 ∷ 48 ∷ 48 ∷ 48 ∷ 48 ∷ 48 ∷ 49 ∷ 32 ∷ 48 ∷ 48 ∷ 48 ∷ 48 ∷ 48 ∷ 48 ∷
    48 ∷ 48 ∷ 48 ∷ 48 ∷ 48 ∷ 48 ∷ 48 ∷ 48 ∷ 48 ∷ 49 ∷ 10 ∷ []

abbrev output : List ℕ
output =
    48 ∷ 10 ∷ 48 ∷ 32 ∷ 52 ∷ 49 ∷ 52 ∷ 50 ∷ 10 ∷ 48 ∷ 10 ∷ 48 ∷ 32 ∷ 52 ∷ 49 ∷ 52 ∷ 50 ∷ 10 ∷ 48 ∷ 32 ∷ 49 ∷ 10 ∷ 49 ∷ 51 ∷ 10 ∷ 55 ∷
    10 ∷ 48 ∷ 32 ∷ 52 ∷ 50 ∷ 10 ∷ []

pub whole-trace : replay_output (lines_of trace) ≡ output
unfolding tabulate any all lowest within count sum those ◌or_else◌ refusal_by gcd gcd_in lcm block rows groups validb start_of next_of advanced extra
    begin_of draw_of own exchange shuffle_of permutation_of tile_permutation index_of inverse_of frame_of target_of group_at unit_at place_of unit_of
    group_of unit_in byte_in offset_of spot_of target_here frame_here offset_here unit_here ◌⊕◌ mul mul_digits double scale inv power_digits div
    sum_to coef cof det row num inverse sol system_entry parity_of content left known data_of rebuilt listed free move homes record_good home missing
    hex_digit stored content_byte file_byte range_refusal on_target otherwise fail_refusal missing_units repair_refusal read_out owner cell_after
    storing touched writes laid write_image fail_record repair_image repair_record repair_count start is_digit digit_value hex_of number_at fields_at
    is_layout layout_at form_of kind_of bytes_of told_as told_of tenths places decimal printed lines_of first_refusal played_record played_image
    answer_of replay_prints replay_output
whole-trace = refl
