-- A drive fails on a repaired pool, the pool is repaired, the drive is swapped for a new one, with any bytes, and taken back: every content is at its home again,
-- every home holds what it held, and reads are as before. Where the list was empty, that is every content at its own place.
use Rattle.std.specs.Prelude.{◌≡◌, true, List, eqb, length}
use Rattle.std.proofs.Math.Path.{refl, sym, ap}
use Rattle.std.proofs.Common.{◌∙◌, subst, le_refl, arith, eq-eqb, ne_eqb, get_or-set_same}
use Prim.Native.Nat.{ℕ, suc, ◌-◌, ◌≤◌, ◌<◌}
use Rattle.lists.specs.Pick.{equal_or_not}
use Rattle.lists.specs.Search.{lowest-at}
use Rattle.lists.specs.Tabulate.{at, zeros}
use Rattle.lists.specs.Refusal.{refusal_by, grant_yes, grant_no}
use Rattle.numbers.specs.declared.Layout.{Layout}
use Rattle.numbers.specs.Layouts.{all_groups, contents}
use Rattle.place.specs.Bytes.{spot}
use Rattle.homes.specs.declared.Record.{Record}
use Rattle.homes.specs.Listed.{unlisted}
use Rattle.homes.proofs.HomesLaws.{homes_same}
use Rattle.homes.specs.Records.{entry, failed, Good}
use Rattle.homes.specs.Dropping.{list_place, skip, without}
use Rattle.homes.specs.DroppingLaws.{skip-low, entry-without, without-good}
use Rattle.homes.specs.Missing.{target_at, home}
use Rattle.homes.proofs.MissingLaws.{repaired_present}
use Rattle.pool.specs.Contents.{home_spot, stored}
use Rattle.pool.specs.Refusals.{range_tests, range_refusal, fail_refusal, repair_refusal}
use Rattle.pool.specs.Reading.{read_out}
use Rattle.pool.specs.Failing.{grown, fail_record}
use Rattle.pool.specs.Repairing.{mended, repair_image, repair_record}
use Rattle.pool.specs.Scribbling.{scribbled}
use Rattle.pool.specs.Asked.{Sound, sound-passes, FailAsked, fail_asked}
use Rattle.pool.specs.Holds.{Holds, read_right}
use Rattle.pool.specs.FailHolds.{Kept, entry_same, fail_right, fail_kept, fail_listed}
use Rattle.pool.proofs.RepairHolds.{repair_right, repair_kept, repair_length}
use Rattle.pool.proofs.ScribbleHoldsLaws.{scribble_right, scribble_length}
use Rattle.swapping.specs.Swapping.{swap_refusal, swap_image}
use Rattle.swapping.specs.SwapLaws.{SwapAsked}

-- an accepted read depends on what the pool holds alone
pub reads_same : (y : Layout) (R R' : Record) (img img' file : List ℕ) → Sound y R (length img) → Sound y R' (length img') → Holds y R img file → Holds y R' img' file
    → (offset size : ℕ) → read_out y R img offset size ≡ read_out y R' img' offset size
unfolding read_out range_refusal
reads_same y R R' img img' file s s' k k' offset size =
    equal_or_not (refusal_by (range_tests y offset size)) 0
    (λ (z : refusal_by (range_tests y offset size) ≡ 0).
    read_right y R img file k offset size (here ∙ z) ∙ sym (read_right y R' img' file k' offset size (there ∙ z)))
    (λ (z : refusal_by (range_tests y offset size) ≡ 0 → ⊥).
    grant_no (range_refusal y R (length img) offset size) _ (zeros size) (λ e. z (sym here ∙ e))
    ∙ sym (grant_no (range_refusal y R' (length img') offset size) _ (zeros size) (λ e. z (sym there ∙ e))))
  where
    here : range_refusal y R (length img) offset size ≡ refusal_by (range_tests y offset size)
    here = sound-passes y R (length img) s (range_tests y offset size)

    there : range_refusal y R' (length img') offset size ≡ refusal_by (range_tests y offset size)
    there = sound-passes y R' (length img') s' (range_tests y offset size)

-- what failure, repair and swap of one target leave: R and img before, R' and img' afterwards
pub record Back (y : Layout) (R R' : Record) (img img' : List ℕ) : Type 0 where
  pub as_many : (R'.k ≡ R.k) × (R'.q ≡ R.q)
  pub entries : (i : ℕ) → i < R.k → entry R' i ≡ entry R i
  pub home_back : (g c : ℕ) → home y R' R'.q g c ≡ home y R R.q g c
  pub bytes_back : (g o c : ℕ) → g < all_groups y → o < y.u → c < contents y → at img' (home_spot y R g o c) ≡ at img (home_spot y R g o c)
  pub reads_back : (offset size : ℕ) → read_out y R' img' offset size ≡ read_out y R img offset size
