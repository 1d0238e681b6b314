-- The missing units are those on each of the failed targets, and a repaired one has none: so counting afresh takes at most K walks over one target
-- each, and no group is visited that has nothing there.
use Rattle.std.specs.Prelude.{◌≡◌, refl, Bool}
use Rattle.std.proofs.Common.{sym, ◌∙◌, arith}
use Rattle.std.proofs.Math.Path.{ap}
use Prim.Native.Nat.{ℕ, zero, suc, ◌+◌, ◌≤◌, ◌<◌}
use borrow.Author.Tests.{ne_eqb}
use Rattle.lists.specs.Pick.{bit}
use Rattle.lists.specs.Search.{any}
use Rattle.lists.specs.Count.{count, sum, count_none, count-two, sum-two, sum-none}
use Rattle.numbers.specs.declared.Layout.{Layout}
use Rattle.numbers.specs.Layouts.{Valid, all_groups, contents}
use Rattle.homes.specs.declared.Record.{Record}
use Rattle.homes.specs.Listed.{listed, unlisted}
use Rattle.homes.specs.Once.{listed_more}
use Rattle.homes.specs.Records.{entry, Good}
use Rattle.homes.specs.Missing.{target_at, home, missing}
use Rattle.homes.proofs.MissingLaws.{home_alive}
use Rattle.pool.specs.Counting.{missing_units, home_on, on_target}

module _ (y : Layout) (R : Record) (good : Good y R) where
  -- the contents whose home under the first q entries is on one of the first j
  abbrev on_first : ℕ → ℕ → ℕ → Bool
  on_first j g c = listed (entry R) j (target_at y g (home y R R.q g c))

  first_next : (j : ℕ) → j < R.k → (g c : ℕ) → bit (on_first (suc j) g c) ≡ bit (on_first j g c) + bit (home_on y R (entry R j) g c)
  first_next j b g c = listed_more (entry R) (entry R) j (entry R j) (λ i l. refl) refl (good.once j b) (target_at y g (home y R R.q g c))

  by_first : (j : ℕ) → j ≤ R.k → sum (λ g. count (on_first j g) (contents y)) (all_groups y) ≡ sum (λ i. on_target y R (entry R i)) j
  unfolding sum listed any on_target
  by_first zero le = sum-none _ (all_groups y) (λ g l. count_none (on_first 0 g) (contents y) (λ c b. refl))
  by_first (suc j) le =
      sum-two _ (λ g. count (on_first j g) (contents y)) (λ g. count (home_on y R (entry R j) g) (contents y)) (all_groups y)
      (λ g l. count-two (on_first (suc j) g) (on_first j g) (home_on y R (entry R j) g) (contents y) (λ c b. first_next j (omega arith) g c))
      ∙ ap (λ (n : ℕ). n + on_target y R (entry R j)) (by_first j (omega arith))

  -- the missing units are those on each of the failed targets
  pub missing_by_targets : missing_units y R ≡ sum (λ i. on_target y R (entry R i)) R.k
  unfolding missing_units missing
  missing_by_targets = by_first R.k (omega arith)

  module _ (v : Valid y) where
    -- a repaired target has none
    pub repaired_bare : (i : ℕ) → i < R.q → on_target y R (entry R i) ≡ 0
    unfolding on_target
    repaired_bare i b =
        sum-none _ (all_groups y)
        (λ g l. count_none (home_on y R (entry R i) g) (contents y)
        (λ c h. ne_eqb _ (entry R i)
        (λ (e : target_at y g (home y R R.q g c) ≡ entry R i).
        unlisted (entry R) R.q _ (home_alive y v R g R.q (omega (arith, good.few, good.mended)) c h) i b (sym e))))
