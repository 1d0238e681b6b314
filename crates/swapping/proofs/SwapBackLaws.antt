-- A drive fails on a repaired pool, the pool is repaired, the drive is swapped for a new one, with any bytes, and taken back: every content is at its home again,
-- every home holds what it held, and reads are as before. Where the list was empty, that is every content at its own place.
use Rattle.std.specs.Prelude.{◌≡◌, true, List, eqb, length}
use Rattle.std.proofs.Math.Path.{refl, sym, ap}
use Rattle.std.proofs.Common.{◌∙◌, subst, le_refl, arith, eq-eqb, ne_eqb, get_or-set_same}
use Prim.Native.Nat.{ℕ, suc, ◌-◌, ◌≤◌, ◌<◌}
use Rattle.lists.specs.Pick.{equal_or_not}
use Rattle.lists.specs.Search.{lowest-at}
use Rattle.lists.specs.Tabulate.{at, zeros}
use Rattle.lists.specs.Refusal.{refusal_by, grant_yes, grant_no}
use Rattle.numbers.specs.declared.Layout.{Layout}
use Rattle.numbers.specs.Layouts.{all_groups, contents}
use Rattle.place.specs.Bytes.{spot}
use Rattle.homes.specs.declared.Record.{Record}
use Rattle.homes.specs.Listed.{unlisted}
use Rattle.homes.proofs.HomesLaws.{homes_same}
use Rattle.homes.specs.Records.{entry, failed, Good}
use Rattle.homes.specs.Dropping.{list_place, skip, without}
use Rattle.homes.specs.DroppingLaws.{skip-low, entry-without, without-good}
use Rattle.homes.specs.Missing.{target_at, home}
use Rattle.homes.proofs.MissingLaws.{repaired_present}
use Rattle.pool.specs.Contents.{home_spot, stored}
use Rattle.pool.specs.Refusals.{range_tests, range_refusal, fail_refusal, repair_refusal}
use Rattle.pool.specs.Reading.{read_out}
use Rattle.pool.specs.Failing.{grown, fail_record}
use Rattle.pool.specs.Repairing.{mended, repair_image, repair_record}
use Rattle.pool.specs.Scribbling.{scribbled}
use Rattle.pool.specs.Asked.{Sound, sound-passes, FailAsked, fail_asked}
use Rattle.pool.specs.Holds.{Holds, read_right}
use Rattle.pool.specs.FailHolds.{Kept, entry_same, fail_right, fail_kept, fail_listed}
use Rattle.pool.proofs.RepairHolds.{repair_right, repair_kept, repair_length}
use Rattle.pool.proofs.ScribbleHoldsLaws.{scribble_right, scribble_length}
use Rattle.swapping.specs.Swapping.{swap_refusal, swap_image}
use Rattle.swapping.specs.SwapLaws.{SwapAsked}
use Rattle.swapping.proofs.SwapLaws.{swap_granted, swap_record_lem}
use Rattle.swapping.proofs.SwapHolds.{swap_right}
use Rattle.swapping.specs.SwapBack.{reads_same, Back}

module _ (y : Layout) (R : Record) (d : ℕ) (img : List ℕ) (kept : Kept y R) (repaired : R.q ≡ R.k) (fails : fail_refusal y R (length img) d ≡ 0)
    (repairs : repair_refusal y (grown y R d) (length img) ≡ 0) where
  -- the drive has failed, and the pool is repaired
  abbrev lost : Record
  lost = grown y R d

  abbrev whole : Record
  whole = mended (grown y R d)

  abbrev asked : FailAsked y R (length img) d
  asked = fail_asked y R (length img) d fails

  lost_is : fail_record y R (length img) d ≡ lost
  unfolding fail_record
  lost_is = grant_yes (fail_refusal y R (length img) d) (grown y R d) R fails

  lost_kept : Kept y lost
  lost_kept = subst (λ (S : Record). Kept y S) lost_is (fail_kept y R (length img) d kept)

  whole_is : repair_record y lost (length img) ≡ whole
  unfolding repair_record
  whole_is = grant_yes (repair_refusal y lost (length img)) whole lost repairs

  whole-good : Good y whole
  whole-good = (subst (λ (S : Record). Kept y S) whole_is (repair_kept y lost (length img) lost_kept)).good

  whole-listed : failed whole d ≡ true
  whole-listed = ap (λ (S : Record). failed S d) (sym lost_is) ∙ fail_listed y R (length img) d kept.room fails

  whole-few : whole.k ≤ 3
  whole-few = omega (arith, whole-good.few, asked.sound.valid.few_parity)

  -- the swap is accepted
  pub back_asked : (len : ℕ) → len ≡ length img → SwapAsked y whole len d
  back_asked len e =
      record {
        sound = record { valid = asked.sound.valid; len_is = e ∙ asked.sound.len_is; good = whole-good; within = omega arith };
        target_lt = asked.target_lt;
        is_failed = whole-listed;
        repaired = refl;
      }

  -- d is the last entry: so the list is as before
  last : list_place whole d ≡ R.k
  last =
      lowest-at (λ i. eqb (entry whole i) d) (suc R.k) R.k (le_refl (suc R.k))
      (eq-eqb (entry whole R.k) d (get_or-set_same R.failed R.k d 0 (omega (arith, kept.room, asked.room, asked.sound.valid.few_parity))))
      (λ i b. ne_eqb (entry whole i) d (λ e. unlisted (entry R) R.k d asked.new i b (sym (entry_same y R d i b) ∙ e)))

  entries_back : (i : ℕ) → i < R.k → entry (without whole d) i ≡ entry R i
  entries_back i b =
      let b' : i < suc R.k - 1 = omega arith in
      entry-without whole d whole-few whole-listed i b'
      ∙ ap (entry whole) (ap (λ (p : ℕ). skip p i) last ∙ skip-low R.k i b) ∙ entry_same y R d i b

  homes_back : (j g c : ℕ) → j ≤ R.k → home y (without whole d) j g c ≡ home y R j g c
  unfolding home
  homes_back j g c le =
      ap (λ (h : ℕ → ℕ). h c) (homes_same (target_at y g) (contents y) y.k (entry (without whole d)) (entry R) j (λ i b. entries_back i (omega arith)))

  back_count : suc R.k - 1 ≡ R.k
  back_count = omega arith

  home_same : (g c : ℕ) → home y (without whole d) (suc R.k - 1) g c ≡ home y R R.q g c
  home_same g c =
      ap (λ (j : ℕ). home y (without whole d) j g c) (back_count ∙ sym repaired) ∙ homes_back R.q g c (omega (arith, repaired))

  -- ---- the repaired image, with anything on the failed drives

  module _ (file : List ℕ) (holds : Holds y R img file) (ink : ℕ → ℕ) where
    abbrev before : List ℕ
    before = scribbled y whole (repair_image y lost img) ink

    before-length : length before ≡ length img
    before-length = scribble_length y whole (repair_image y lost img) ink ∙ repair_length y lost img

    before_holds : Holds y whole before file
    before_holds =
        scribble_right y whole asked.sound.valid whole-good (repair_image y lost img) file ink
        (subst (λ (S : Record). Holds y S (repair_image y lost img) file) whole_is
        (repair_right y lost img file (subst (λ (S : Record). Holds y S img file) lost_is (fail_right y R (length img) d img file kept.good holds))))

    swap_accepts : swap_refusal y whole (length before) d ≡ 0
    swap_accepts = swap_granted y whole (length before) d (back_asked (length before) before-length)

    after_holds : Holds y (without whole d) (swap_image y whole before d) file
    after_holds =
        subst (λ (S : Record). Holds y S (swap_image y whole before d) file) (swap_record_lem y whole d before swap_accepts) (swap_right y whole d before file before_holds)

    after-sound : Sound y (without whole d) (length (swap_image y whole before d))
    after-sound =
        record {
          valid = asked.sound.valid;
          len_is = after_holds.image_length_lem;
          good = without-good whole d whole-few whole-listed y whole-good;
          within = omega arith;
        }

    pub back_again : (swap_refusal y whole (length before) d ≡ 0) × Back y R (without whole d) img (swap_image y whole before d)
    back_again = (swap_accepts, by)
      where
        by : Back y R (without whole d) img (swap_image y whole before d)
        by =
            record {
              as_many = (back_count, back_count ∙ sym repaired);
              entries = entries_back;
              home_back = home_same;
              bytes_back = λ g o c hg ho hc.
                  ap (λ (u : ℕ). at (swap_image y whole before d) (spot y g u o)) (sym (home_same g c))
                  ∙ unfold stored in (
                  after_holds.present g o c hg ho hc (repaired_present y asked.sound.valid (without whole d) g after-sound.good.few refl c hc)
                  ∙ sym (holds.present g o c hg ho hc (repaired_present y asked.sound.valid R g kept.good.few repaired c hc)));
              reads_back = reads_same y (without whole d) R (swap_image y whole before d) img file after-sound asked.sound after_holds holds;
            }
