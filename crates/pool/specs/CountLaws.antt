-- A failure raises the missing units by those on its target, a repair leaves none, and they are never more than T·C·(N+K).
use Rattle.std.specs.Prelude.{◌≡◌, refl, false, ℕ, suc, ◌+◌, ◌≤◌, ◌<◌, length}
use Rattle.std.proofs.Common.{sym, ◌∙◌, le_refl, arith, get_or-set_same}
use Rattle.std.proofs.Math.Path.{ap}
use Rattle.lists.specs.Pick.{bit}
use Rattle.lists.specs.Count.{count, sum, count-le, count_none, count-two, sum-two, sum-none, sum-le}
use Rattle.numbers.specs.declared.Layout.{Layout}
use Rattle.numbers.specs.Layouts.{Valid, all_groups, contents, all_contents}
use Rattle.homes.specs.declared.Record.{Record}
use Rattle.homes.specs.Listed.{listed}
use Rattle.homes.proofs.MissingLaws.{unfailed-present, repaired_present}
use Rattle.homes.specs.Once.{listed_more}
use Rattle.homes.specs.Records.{entry, failed, Good}
use Rattle.homes.specs.Missing.{target_at, home, missing}
use Rattle.lists.specs.Refusal.{grant-either}
use Rattle.pool.specs.Refusals.{fail_refusal, repair_refusal}
use Rattle.pool.specs.Failing.{grown, fail_record}
use Rattle.pool.specs.Repairing.{mended, repair_record}
use Rattle.pool.specs.Asked.{fail_asked, repair_asked}
use Rattle.pool.specs.FailHolds.{entry_same, home-grown}
use Rattle.pool.specs.Counting.{missing_pairs, missing_units, TrueCount, home_on, on_target}

-- ---- a failure

-- ---- all that failed are repaired: nothing is missing

pub repaired_clear : (y : Layout) (R : Record) → Valid y → Good y R → R.q ≡ R.k → missing_units y R ≡ 0
unfolding missing_units
repaired_clear y R v good all =
    sum-none _ (all_groups y) (λ g l. count_none (missing y R g) (contents y) (λ c b. repaired_present y v R g good.few all c b))

-- a repair "sets it to 0"
pub repair_clears : (y : Layout) (R : Record) → Valid y → Good y R → missing_units y (mended R) ≡ 0
repair_clears y R v good = repaired_clear y (mended R) v (record { few = good.few; mended = le_refl R.k; below = good.below; once = good.once }) refl

-- nothing has failed: nothing is missing
pub unfailed_clear : (y : Layout) (R : Record) → R.k ≡ 0 → missing_units y R ≡ 0
unfolding missing_units
unfailed_clear y R z = sum-none _ (all_groups y) (λ g l. count_none (missing y R g) (contents y) (λ c b. unfailed-present y R z g c))

-- ---- bounds

pub at_most : (y : Layout) (R : Record) → missing_units y R ≤ all_contents y
unfolding missing_units
at_most y R = sum-le _ (contents y) (all_groups y) (λ g l. count-le (missing y R g) (contents y))

pub on_target_at_most : (y : Layout) (R : Record) (t : ℕ) → on_target y R t ≤ all_contents y
unfolding on_target
on_target_at_most y R t = sum-le _ (contents y) (all_groups y) (λ g l. count-le (home_on y R t g) (contents y))

-- ---- the calls keep a true count

pub repair_keeps_true : (y : Layout) (R : Record) (len : ℕ) → TrueCount y R → TrueCount y (repair_record y R len)
unfolding repair_record
repair_keeps_true y R len e =
    grant-either (repair_refusal y R len) _ R (λ (S : Record). TrueCount y S)
    (λ z. let s = repair_asked y R len z in sym (repair_clears y R s.valid s.good)) (λ z. e)
