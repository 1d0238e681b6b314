-- The missing units counted afresh, target after target from q on: the repaired ones have none.
use Rattle.std.specs.Prelude.{◌≡◌, ℕ, ◌+◌, ◌≤◌, ◌<◌}
use Rattle.std.proofs.Common.{sym, ap, ◌∙◌}
use Rattle.lists.specs.Count.{sum, sum_next, sum-none}
use Rattle.numbers.specs.declared.Layout.{Layout}
use Rattle.numbers.specs.declared.Shape.{Shape}
use Rattle.numbers.specs.Layouts.{Valid, frames}
use Rattle.numbers.specs.Answers.{Shaped}
use Rattle.numbers.specs.Shapes.{layout_products}
use Rattle.homes.specs.declared.Record.{Record}
use Rattle.homes.specs.Listed.{unlisted_sub}
use Rattle.homes.specs.Records.{entry, Good}
use Rattle.pool.specs.Counting.{missing_units, on_target}
use Rattle.pool.proofs.TargetCounts.{missing_by_targets, repaired_bare}
use Rattle.tally.specs.Walking.{Walking}

module _ (y : Layout) (v : Valid y) (R : Record) (good : Good y R) where
  -- on the first i targets
  abbrev pub on_first : ℕ → ℕ
  on_first i = sum (λ j. on_target y R (entry R j)) i

  pub count_begins : 0 ≡ on_first R.q
  count_begins = sym (sum-none _ R.q (repaired_bare y R good v))

  pub count_turn : (i n m : ℕ) → n ≡ on_first i → m ≡ on_target y R (entry R i) → n + m ≡ on_first (i + 1)
  count_turn i n m e d = (λ j. e j + d j) ∙ sym (sum_next (λ j. on_target y R (entry R j)) i)

  pub count-done : (i n : ℕ) → n ≡ on_first i → i ≡ R.k → n ≡ missing_units y R
  count-done i n e z = e ∙ ap on_first z ∙ sym (missing_by_targets y R good)

  pub can_walk : (s : Shape) → Shaped y s → (i : ℕ) → R.q ≤ i → i < R.k → Walking y s R (entry R i)
  can_walk s z i le lt =
      record {
        valid = v;
        shape = z;
        good = good;
        target_lt = good.below i lt;
        unrepaired = unlisted_sub (entry R) R.q i (entry R i) le (good.once i lt);
      }

  pub frames-few : frames y ≤ 1441792
  frames-few = (layout_products y v).frames
