-- Which range is answered: "the first range that earns" the number.
use Rattle.std.specs.Prelude.{◌≡◌, refl, Bool, true, List, [], ◌∷◌, ℕ, suc, ◌≤◌, ◌<◌, length}
use Rattle.std.proofs.Common.{arith}
use Rattle.std.proofs.Math.Bool.{false}
use Rattle.lists.specs.Pick.{clash}
use Rattle.lists.specs.Refusal.{◌or_else◌, refusal_by}
use Rattle.numbers.specs.declared.Layout.{Layout}
use Rattle.homes.specs.declared.Record.{Record}
use Rattle.pool.specs.Refusals.{range_refusal}
use Rattle.pool_list.specs.Ranges.{range_offset, range_size}

-- what it means of range number m, counted from 1: a write of each range before it alone would be accepted, and of it alone refused with `number`
pub record FirstRefused (y : Layout) (R : Record) (len : ℕ) (rs : List (List ℕ)) (number m : ℕ) : Type 0 where
  pub some : 0 < m
  pub one_of : m ≤ length rs
  pub before : (i : ℕ) → suc i < m → range_refusal y R len (range_offset rs i) (range_size rs i) ≡ 0
  pub here : (i : ℕ) → m ≡ suc i → range_refusal y R len (range_offset rs i) (range_size rs i) ≡ number

-- by cases of the list's tests: where 4 is answered and there are few ranges, one of them does not pass
pub four_of_range : (d e f : Bool) → refusal_by ((d, 4) ∷ (e, 4) ∷ (f, 5) ∷ []) ≡ 4 → d ≡ true → e ≡ false
unfolding refusal_by ◌or_else◌
four_of_range false e f n t = clash false t refl
four_of_range true false f n t = refl
four_of_range true true false n t = absurd (omega arith)
four_of_range true true true n t = absurd (omega arith)
