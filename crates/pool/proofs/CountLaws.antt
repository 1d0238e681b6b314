-- A failure raises the missing units by those on its target, a repair leaves none, and they are never more than T·C·(N+K).
use Rattle.std.specs.Prelude.{◌≡◌, refl, false, ℕ, suc, ◌+◌, ◌≤◌, ◌<◌, length}
use Rattle.std.proofs.Common.{sym, ◌∙◌, le_refl, arith, get_or-set_same}
use Rattle.std.proofs.Math.Path.{ap}
use Rattle.lists.specs.Pick.{bit}
use Rattle.lists.specs.Count.{count, sum, count-le, count_none, count-two, sum-two, sum-none, sum-le}
use Rattle.numbers.specs.declared.Layout.{Layout}
use Rattle.numbers.specs.Layouts.{Valid, all_groups, contents, all_contents}
use Rattle.homes.specs.declared.Record.{Record}
use Rattle.homes.specs.Listed.{listed}
use Rattle.homes.proofs.MissingLaws.{unfailed-present, repaired_present}
use Rattle.homes.specs.Once.{listed_more}
use Rattle.homes.specs.Records.{entry, failed, Good}
use Rattle.homes.specs.Missing.{target_at, home, missing}
use Rattle.lists.specs.Refusal.{grant-either}
use Rattle.pool.specs.Refusals.{fail_refusal, repair_refusal}
use Rattle.pool.specs.Failing.{grown, fail_record}
use Rattle.pool.specs.Repairing.{mended, repair_record}
use Rattle.pool.specs.Asked.{fail_asked, repair_asked}
use Rattle.pool.specs.FailHolds.{entry_same, home-grown}
use Rattle.pool.specs.Counting.{missing_pairs, missing_units, TrueCount, home_on, on_target}

module _ (y : Layout) (R : Record) (t : ℕ) (room : R.k < length R.failed) (mended : R.q ≤ R.k) (new : failed R t ≡ false) where
  -- a content is missing afterwards where it was, or where its home was on t, and never both
  pub missing-grown : (g c : ℕ) → bit (missing y (grown y R t) g c) ≡ bit (missing y R g c) + bit (home_on y R t g c)
  unfolding missing
  missing-grown g c =
      ap (λ (u : ℕ). bit (listed (entry (grown y R t)) (suc R.k) (target_at y g u))) (home-grown y R t R.q g c mended)
      ∙ listed_more (entry R) (entry (grown y R t)) R.k t (entry_same y R t) (get_or-set_same R.failed R.k t 0 room) new (target_at y g (home y R R.q g c))

  pub fail_raises_below : (n : ℕ) → missing_pairs y (grown y R t) n ≡ missing_pairs y R n + sum (λ g. count (home_on y R t g) (contents y)) n
  fail_raises_below n =
      sum-two _ _ _ n
      (λ g l. count-two (missing y (grown y R t) g) (missing y R g) (home_on y R t g) (contents y) (λ c b. missing-grown g c))

  -- "Fail raises it by the contents whose home under the first q entries was on that target"
  pub fail_raises : missing_units y (grown y R t) ≡ missing_units y R + on_target y R t
  unfolding missing_units on_target
  fail_raises = fail_raises_below (all_groups y)

pub fail_keeps_true : (y : Layout) (R : Record) (len target : ℕ) → length R.failed ≡ 3 → TrueCount y R → TrueCount y (fail_record y R len target)
unfolding fail_record
fail_keeps_true y R len target room e =
    grant-either (fail_refusal y R len target) _ R (λ (S : Record). TrueCount y S)
    (λ z.
    let a = fail_asked y R len target z in
    ap (λ (n : ℕ). n + on_target y R target) e
    ∙ sym (fail_raises y R target (omega (arith, a.room, a.sound.valid.few_parity)) a.sound.good.mended a.new))
    (λ z. e)
