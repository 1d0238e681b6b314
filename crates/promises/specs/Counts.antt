-- Document 02, order 6: the count of missing units. What keeps it true, what a failure raises it by, and that "besides the panel, the audit, number 3 and
-- the record handed back, nothing depends on it". That it is true after every run, so that the audit finds nothing, is in `Demand3` and `Calls`.
use Rattle.std.specs.Prelude.{◌≡◌, Bool, eqb, length}
use Rattle.std.proofs.Math.Path.{refl, sym, ap, subst⁻¹}
use Rattle.std.proofs.Common.{◌∙◌, arith, le-leb}
use mathlib.Core.List.{List, [], ◌∷◌}
use Prim.Native.Nat.{ℕ, zero, suc, ◌+◌, ◌≤◌, ◌<◌}
use Rattle.lists.specs.Pick.{equal_or_not}
use Rattle.lists.specs.Count.{count}
use Rattle.lists.specs.Refusal.{refusal_by, grant, unless, ◌or_else◌, grant_yes, or_else_left, or_else_right}
use Rattle.numbers.specs.declared.Layout.{Layout}
use Rattle.numbers.specs.Layouts.{Valid, frames, all_contents, image_length}
use Rattle.numbers.specs.Refused.{validb}
use Rattle.place.specs.Places.{unit_of}
use Rattle.homes.specs.declared.Record.{Record}
use Rattle.homes.specs.Records.{record_good, Good}
use Rattle.homes.specs.Missing.{home, missing}
use Rattle.pool.specs.Counting.{missing_units, TrueCount, on_target}
use Rattle.pool.specs.Contents.{stored, content_byte, file_byte}
use Rattle.pool.specs.Refusals.{pool_tests, otherwise, raised, range_refusal, fail_refusal, repair_refusal, look_refusal}
use Rattle.pool.specs.Reading.{read_out}
use Rattle.pool.specs.Storing.{owner, storing}
use Rattle.pool.specs.Writing.{laid, write_image}
use Rattle.pool.specs.Failing.{grown, fail_record}
use Rattle.pool.specs.Repairing.{mended, repair_image, repair_record, repair_count}
use Rattle.pool.specs.Looking.{look_scratch, look_shown}
use Rattle.pool.specs.Calls.{Fails, Repairs}
use Rattle.pool.specs.Asked.{otherwise-asked}
use Rattle.pool.proofs.OtherwiseLaws.{fail_by_steps}
use Rattle.pool.specs.Elsewhere.{is_home}
use Rattle.pool.specs.CountLaws as C
use Rattle.pool.proofs.CountLaws as CProofs
use Rattle.pool.proofs.FrameCountLaws.{on_target_by_frames}
use Rattle.pool_list.specs.Ranges.{range_offset, range_bytes, list_refusal, list_range, after_ranges, list_image}
use Rattle.pool_look.specs.Shown.{shown_at}
use Rattle.hex_text.specs.Hex.{hex_of}
use Rattle.trace.specs.Told.{Told, malformed, told_write, told_fail, told_repair, told_read}
use Rattle.answers.specs.Decimal.{decimal, printed}
use Rattle.replay_line.specs.Play.{played_record, played_image, answer_of}

-- ---- "Fail raises it by the contents whose home under the first q entries was on that target; repair sets it to 0"

module _ (y : Layout) (R : Record) (img : List ℕ) where
  pub fail_raises : (target : ℕ) (R' : Record) → Fails y R img target 0 R' → R'.waiting ≡ R.waiting + on_target y R target
  unfolding fail_record
  fail_raises target R' p = ap (λ (S : Record). S.waiting) (p.rec ∙ grant_yes _ (grown y R target) R (sym p.answer))

  pub repair_clears : (n : ℕ) (R' : Record) (img' : List ℕ) → Repairs y R img 0 n R' img' → R'.waiting ≡ 0
  unfolding repair_record
  repair_clears n R' img' p = ap (λ (S : Record). S.waiting) (p.rec ∙ grant_yes _ (mended R) R (sym p.answer))

  -- "From a true count every call keeps it true": accepted or refused. Of the other calls a repair by a plan (`RepairPlan`)
  -- and a swap (`SwapDrive`) hand a record back
  pub fail_keeps_true : length R.failed ≡ 3 → TrueCount y R → (target n : ℕ) (R' : Record) → Fails y R img target n R' → TrueCount y R'
  fail_keeps_true three true target n R' p = subst⁻¹ (TrueCount y) p.rec (CProofs.fail_keeps_true y R (length img) target three true)

  pub repair_keeps_true : TrueCount y R → (n m : ℕ) (R' : Record) (img' : List ℕ) → Repairs y R img n m R' img' → TrueCount y R'
  repair_keeps_true true n m R' img' p = subst⁻¹ (TrueCount y) p.rec (C.repair_keeps_true y R (length img) true)

-- what a failure raises it by is the number of frames of that target that are homes
pub raised_by_frames : (y : Layout) → Valid y → (R : Record) → Good y R → (target : ℕ) → target < y.p
    → on_target y R target ≡ count (λ frame. is_home y R (unit_of y frame target).group (unit_of y frame target).unit) (frames y)
raised_by_frames = on_target_by_frames

-- a true count is no ground for a refusal: it is within the bound, and so is what an otherwise accepted fail raises it to
pub true-within : (y : Layout) (R : Record) → TrueCount y R → R.waiting ≤ all_contents y
true-within y R true = omega (arith, true, C.at_most y R)

pub true_fails : (y : Layout) (R : Record) (len target : ℕ) → length R.failed ≡ 3 → TrueCount y R → otherwise y R len target ≡ 0 → fail_refusal y R len target ≡ 0
true_fails y R len target three true z =
    let a = otherwise-asked y R len target z in
    let more = CProofs.fail_raises y R target (omega (arith, a.room, a.sound.valid.few_parity, three)) a.sound.good.mended a.new in
    let up : raised y R target ≤ all_contents y = omega (arith, true, more, C.at_most y (grown y R target)) in
    fail_by_steps y R len target ∙ or_else_right _ _ z ∙ ap (λ (b : Bool). unless b 3) (le-leb (raised y R target) (all_contents y) up)

-- ---- "besides the panel, the audit, number 3 and the record handed back, nothing depends on it"

-- the record with another count
abbrev pub recounted : Record → ℕ → Record
recounted R n = record { failed = R.failed; k = R.k; q = R.q; waiting = n }

-- both counts are within the bound
module _ (y : Layout) (R : Record) (n : ℕ) (fits : R.waiting ≤ all_contents y) (fits' : n ≤ all_contents y) where
  pub tests_same : (len : ℕ) (rest : List (Bool × ℕ)) → refusal_by (pool_tests y R len rest) ≡ refusal_by (pool_tests y (recounted R n) len rest)
  unfolding record_good
  tests_same len rest =
      ap (λ (b : Bool). refusal_by ((validb y, 1) ∷ (eqb len (image_length y), 2) ∷ (record_good y R, 3) ∷ (b, 3) ∷ rest))
      (le-leb R.waiting (all_contents y) fits ∙ sym (le-leb n (all_contents y) fits'))

  range_same : (len offset size : ℕ) → range_refusal y R len offset size ≡ range_refusal y (recounted R n) len offset size
  unfolding range_refusal
  range_same len offset size = tests_same len _

  repair_same : (len : ℕ) → repair_refusal y R len ≡ repair_refusal y (recounted R n) len
  unfolding repair_refusal
  repair_same len = tests_same len _

  look_same : (len room g c : ℕ) → look_refusal y R len room g c ≡ look_refusal y (recounted R n) len room g c
  unfolding look_refusal
  look_same len room g c = tests_same len _

  otherwise_same : (len target : ℕ) → otherwise y R len target ≡ otherwise y (recounted R n) len target
  unfolding otherwise
  otherwise_same len target = tests_same len _

  pub read_uncounted : (img : List ℕ) (offset size : ℕ)
      → (range_refusal y R (length img) offset size ≡ range_refusal y (recounted R n) (length img) offset size)
      × (read_out y R img offset size ≡ read_out y (recounted R n) img offset size)
  unfolding read_out file_byte content_byte stored missing home
  read_uncounted img offset size = (range_same (length img) offset size, rw (range_same (length img) offset size))

  pub write_uncounted : (img : List ℕ) (offset : ℕ) (bytes : List ℕ)
      → (range_refusal y R (length img) offset (length bytes) ≡ range_refusal y (recounted R n) (length img) offset (length bytes))
      × (write_image y R img offset bytes ≡ write_image y (recounted R n) img offset bytes)
  unfolding write_image storing owner laid content_byte stored missing home
  write_uncounted img offset bytes = (range_same (length img) offset (length bytes), rw (range_same (length img) offset (length bytes)))

  after_same : (img : List ℕ) (rs : List (List ℕ)) (bytes : List ℕ) (i : ℕ) → after_ranges y R img rs bytes i ≡ after_ranges y (recounted R n) img rs bytes i
  unfolding after_ranges
  after_same img rs bytes zero = refl
  after_same img rs bytes (suc i) =
      (write_uncounted (after_ranges y R img rs bytes i) (range_offset rs i) (range_bytes rs bytes i)).1
      ∙ ap (λ (m : List ℕ). write_image y (recounted R n) m (range_offset rs i) (range_bytes rs bytes i)) (after_same img rs bytes i)

  pub list_uncounted : (img : List ℕ) (rs : List (List ℕ)) (bytes : List ℕ)
      → (list_refusal y R (length img) rs (length bytes) ≡ list_refusal y (recounted R n) (length img) rs (length bytes))
      × (list_range y R (length img) rs (length bytes) ≡ list_range y (recounted R n) (length img) rs (length bytes))
      × (list_image y R img rs bytes ≡ list_image y (recounted R n) img rs bytes)
  unfolding list_range list_image
  list_uncounted img rs bytes = (number, rw number, λ i. grant (number i) (after_same img rs bytes (length rs) i) img)
    where
      number : list_refusal y R (length img) rs (length bytes) ≡ list_refusal y (recounted R n) (length img) rs (length bytes)
      number = unfold list_refusal in tests_same (length img) _

  pub prepare_uncounted : (img : List ℕ) (room g c : ℕ)
      → (look_refusal y R (length img) room g c ≡ look_refusal y (recounted R n) (length img) room g c)
      × (look_scratch y R img room g c ≡ look_scratch y (recounted R n) img room g c)
  unfolding look_scratch content_byte stored missing home
  prepare_uncounted img room g c = (look_same (length img) room g c, rw (look_same (length img) room g c))

  pub show_uncounted : (img scratch : List ℕ) (g c : ℕ)
      → (look_refusal y R (length img) (length scratch) g c ≡ look_refusal y (recounted R n) (length img) (length scratch) g c)
      × (look_shown y R img scratch g c ≡ look_shown y (recounted R n) img scratch g c)
  unfolding look_shown missing home
  show_uncounted img scratch g c = (look_same (length img) (length scratch) g c, rw (look_same (length img) (length scratch) g c))

  pub locate_uncounted : (len room g c : ℕ) → shown_at y R len room g c ≡ shown_at y (recounted R n) len room g c
  unfolding shown_at missing home
  locate_uncounted len room g c = rw (look_same len room g c)

  -- the records handed back are the same but for the count
  pub repair_uncounted : (img : List ℕ)
      → (repair_refusal y R (length img) ≡ repair_refusal y (recounted R n) (length img))
      × (repair_count y R (length img) ≡ repair_count y (recounted R n) (length img))
      × (repair_image y R img ≡ repair_image y (recounted R n) img)
      × (recounted (repair_record y R (length img)) 0 ≡ recounted (repair_record y (recounted R n) (length img)) 0)
  unfolding repair_count repair_image repair_record storing owner missing_units content_byte stored missing home
  repair_uncounted img = (
    repair_same (length img),
    rw (repair_same (length img)),
    rw (repair_same (length img)),
    by (repair_refusal y R (length img)) ∙ rw (repair_same (length img)) (sym (by' (repair_refusal y (recounted R n) (length img)))),
  )
    where
      by : (m : ℕ) → recounted (grant m (mended R) R) 0 ≡ grant m (recounted (mended R) 0) (recounted R 0)
      by zero = refl
      by (suc m) = refl

      by' : (m : ℕ) → recounted (grant m (mended (recounted R n)) (recounted R n)) 0 ≡ grant m (recounted (mended R) 0) (recounted R 0)
      by' zero = refl
      by' (suc m) = refl

  -- and a fail raises both by the same, unless it is otherwise accepted and would raise one of them above the bound
  pub fail_uncounted : (len target : ℕ)
      → (otherwise y R len target ≡ 0 → (raised y R target ≤ all_contents y) × (raised y (recounted R n) target ≤ all_contents y))
      → (fail_refusal y R len target ≡ fail_refusal y (recounted R n) len target)
      × (recounted (fail_record y R len target) 0 ≡ recounted (fail_record y (recounted R n) len target) 0)
      × (on_target y R target ≡ on_target y (recounted R n) target)
  unfolding fail_record on_target home
  fail_uncounted len target up = (number, by (fail_refusal y R len target) ∙ rw number (sym (by' (fail_refusal y (recounted R n) len target))), refl)
    where
      other : ℕ
      other = otherwise y R len target

      number : fail_refusal y R len target ≡ fail_refusal y (recounted R n) len target
      number =
          fail_by_steps y R len target
          ∙ equal_or_not other 0
          (λ (z : other ≡ 0). λ i. otherwise_same len target i
          or_else unless ((le-leb (raised y R target) (all_contents y) (up z).0 ∙ sym (le-leb (raised y (recounted R n) target) (all_contents y) (up z).1)) i) 3)
          (λ (ne : other ≡ 0 → ⊥).
          or_else_left _ _ ne ∙ otherwise_same len target ∙ sym (or_else_left _ _ (λ (z : otherwise y (recounted R n) len target ≡ 0). ne (otherwise_same len target ∙ z))))
          ∙ sym (fail_by_steps y (recounted R n) len target)

      by : (m : ℕ) → recounted (grant m (grown y R target) R) 0 ≡ grant m (recounted (grown y R target) 0) (recounted R 0)
      by zero = refl
      by (suc m) = refl

      by' : (m : ℕ) → recounted (grant m (grown y (recounted R n) target) (recounted R n)) 0 ≡ grant m (recounted (grown y R target) 0) (recounted R 0)
      by' zero = refl
      by' (suc m) = refl

  -- a played line likewise, by the call that it tells: it prints the same
  pub play_uncounted : (img : List ℕ) (e : Told)
      → ((target : ℕ) → e ≡ told_fail target → otherwise y R (length img) target ≡ 0
      → (raised y R target ≤ all_contents y) × (raised y (recounted R n) target ≤ all_contents y))
      → (answer_of y R img e ≡ answer_of y (recounted R n) img e)
      × (played_image y R img e ≡ played_image y (recounted R n) img e)
      × (recounted (played_record y R img e) 0 ≡ recounted (played_record y (recounted R n) img e) 0)
  unfolding answer_of played_image played_record
  play_uncounted img malformed up = (refl, refl, refl)
  play_uncounted img (told_write offset bytes ok) up =
      let same = write_uncounted img offset bytes in (ap (λ (m : ℕ). printed m []) same.0, same.1, refl)
  play_uncounted img (told_fail target) up =
      let same = fail_uncounted (length img) target (up target refl) in (ap (λ (m : ℕ). printed m []) same.0, refl, same.1)
  play_uncounted img told_repair up =
      let same = repair_uncounted img in ((λ i. printed (same.0 i) (32 ∷ decimal (same.1 i))), same.2, same.3)
  play_uncounted img (told_read offset size) up =
      let same = read_uncounted img offset size in ((λ i. printed (same.0 i) (32 ∷ hex_of (same.1 i))), refl, refl)
