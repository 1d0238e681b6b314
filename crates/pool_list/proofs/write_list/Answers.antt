-- `pool_list::write_list` meets its contract: each return keeps the promise by the tests that led there.
use mathlib.Core.Path.{◌≡◌, refl, sym, ap, ◌∙◌}
use mathlib.Core.Bool.{true}
use Prim.Native.Nat.{ℕ, ◌<◌, ◌≤◌}
use native.Mathlib.Omega.{arith}
use mathlib.Core.List.{List}
use lib.ListN.{length}
use Rattle.numbers.specs.declared.Layout.{Layout}
use Rattle.numbers.specs.Layouts.{capacity}
use Rattle.homes.specs.declared.Record.{Record}
use Rattle.lists.specs.Count.{sum}
use Rattle.checks.specs.Tests.{inside_of}
use Rattle.pool.specs.Asked.{Sound, repair_asked}
use Rattle.lists.specs.First.{first_failing, none_fails}
use Rattle.pool_list.specs.Ranges.{range_offset, range_size, inside_alone}
use Rattle.pool_list.specs.Asked.{inside_is, inside_fits, ListAsked}
use Rattle.pool_list.proofs.AnswersLaws.{lists_outside, lists_wrong-sum}
use Rattle.pool_list.proofs.AnswersLaws.{lists_refused, lists_many, lists_written}
use Rattle.lists.proofs.Answering.{refused}
use Rattle.pool_list.proofs.write_list.Goals as goal

-- the range that was searched for is the first that alone would be refused
searched : (y : Layout) (rs : List (List ℕ)) (n result : ℕ) → n ≡ capacity y → result ≡ first_failing (λ i. inside_of n (range_offset rs i) (range_size rs i)) (length rs)
    → result ≡ first_failing (inside_alone y rs) (length rs)
searched y rs n result is e =
    e ∙ (λ k. first_failing (λ i. (ap (λ (m : ℕ). inside_of m (range_offset rs i) (range_size rs i)) is ∙ inside_is y rs i) k) (length rs))

each : (y : Layout) (rs : List (List ℕ)) (n : ℕ) → n ≡ capacity y → first_failing (λ i. inside_of n (range_offset rs i) (range_size rs i)) (length rs) ≡ 0
    → (i : ℕ) → i < length rs → inside_alone y rs i ≡ true
each y rs n is zero = none_fails _ _ (sym (searched y rs n _ is refl) ∙ zero)

-- nothing is refused
asked : (y : Layout) (r : Record) (len : ℕ) (rs : List (List ℕ)) (room total : ℕ) → Sound y r len → length rs ≤ 64
    → ((i : ℕ) → i < length rs → inside_alone y rs i ≡ true) → total ≡ room → total ≡ sum (range_size rs) (length rs) → ListAsked y r len rs room
asked y r len rs room total s few ins e sums = record { sound = s; few = few; each = ins; exact = sym e ∙ sums }

pub returns-in-Err : goal.returns-in-Err
returns-in-Err c = rw c.refused.ensures (record { told = lists_refused _ _ _ c.args.ranges.now c.args.bytes.now _ c.in-Err.ensures (refused _); counted = tt })

pub returns-then-ranges-gt64 : goal.returns-then-ranges-gt64
returns-then-ranges-gt64 c = rw c.refused-then-ranges-gt64.ensures (
    record {
      told = lists_many _ _ _ c.args.ranges.now c.args.bytes.now (repair_asked _ _ _ (sym c.in_default.ensures)) (omega (arith, c.if-ranges-gt64.true));
      counted = tt;
    }
    )

pub numbers_of-capacity-requires : goal.numbers_of-capacity-requires
numbers_of-capacity-requires c = (repair_asked _ _ _ (sym c.in_default.ensures)).valid

pub returns-in-Some : goal.returns-in-Some
returns-in-Some c = let found = c.in-Some.ensures.some in rw c.refused-in-Some.ensures (
    record {
      told =
          lists_outside _ _ _ c.args.ranges.now c.args.bytes.now (repair_asked _ _ _ (sym c.in_default.ensures)) (omega arith) _
          (searched c.args.y c.args.ranges.now _ _ c.numbers_of-capacity.ensures.capacity_is found.1)
          (λ z. omega (arith, found.0, z));
      counted = found.0;
    }
    )

pub sum_of_lengths-requires : goal.sum_of_lengths-requires
sum_of_lengths-requires c = let n = c.numbers_of-capacity.ensures in
    let inside = each c.args.y c.args.ranges.now _ n.capacity_is (c.in_default-first_outside.ensures.none refl) in
    (omega arith, λ i h. omega (arith, inside_fits c.args.y c.args.ranges.now i (inside i h), n.capacity-few, n.capacity_is))

pub returns-then-sum_of_lengths-bytes : goal.returns-then-sum_of_lengths-bytes
returns-then-sum_of_lengths-bytes c = rw c.refused-then-sum_of_lengths-bytes.ensures (
    record {
      told =
          lists_wrong-sum _ _ _ c.args.ranges.now c.args.bytes.now (repair_asked _ _ _ (sym c.in_default.ensures)) (omega arith)
          (each c.args.y c.args.ranges.now _ c.numbers_of-capacity.ensures.capacity_is (c.in_default-first_outside.ensures.none refl))
          (λ (e : length c.args.bytes.now ≡ _). let t = c.sum_of_lengths.ensures in omega (arith, c.if-sum_of_lengths-bytes.true, t, e));
      counted = tt;
    }
    )

pub write_ranges-requires : goal.write_ranges-requires
write_ranges-requires c =
    asked _ _ _ _ _ _ (repair_asked _ _ _ (sym c.in_default.ensures)) (omega arith)
    (each c.args.y c.args.ranges.now _ c.numbers_of-capacity.ensures.capacity_is (c.in_default-first_outside.ensures.none refl))
    c.if-sum_of_lengths-bytes.false c.sum_of_lengths.ensures

pub returns-clause-told : goal.returns-clause-told
returns-clause-told c =
    lists_written _ _ _ _ c.args.bytes.now
    (asked _ _ _ _ _ _ (repair_asked _ _ _ (sym c.in_default.ensures)) (omega arith)
    (each c.args.y c.args.ranges.now _ c.numbers_of-capacity.ensures.capacity_is (c.in_default-first_outside.ensures.none refl))
    c.if-sum_of_lengths-bytes.false c.sum_of_lengths.ensures) _ c.write_ranges.ensures
