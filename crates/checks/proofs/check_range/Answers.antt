-- `checks::check_range` meets its contract: what every call tests first, then the range's two tests.
use mathlib.Core.Path.{◌≡◌, refl, sym, ap, ◌∙◌}
use Prim.Native.Nat.{ℕ}
use Rattle.numbers.specs.declared.Layout.{Layout}
use Rattle.homes.specs.declared.Record.{Record}
use Rattle.lists.specs.Pick.{pick_true, pick-false}
use Rattle.lists.specs.Refusal.{refusal_by}
use Rattle.lists.proofs.Answering.{refused, handed_on}
use Rattle.numbers.specs.Layouts.{capacity}
use Rattle.numbers.specs.Refused.{bad-layout, good-layout}
use Rattle.pool.specs.Refusals.{range_tests, range_refusal, repair_refusal}
use Rattle.checks.specs.Tests.{inside_of, refused_first, passed_first, range_by}
use Rattle.checks.proofs.check_range.Goals as goal
use mathlib.Core.Bool.{Bool}

-- once that has passed, the call's own tests decide
own : (y : Layout) (r : Record) (len offset size : ℕ) {n : ℕ} → 0 ≡ repair_refusal y r len
    → n ≡ refusal_by (range_tests y offset size) → n ≡ range_refusal y r len offset size
unfolding range_refusal
own y r len offset size p e = e ∙ sym (passed_first _ _ _ _ p refl)

-- what `is_inside` answered, of the layout's capacity
tested : (y : Layout) (offset size : ℕ) {n : ℕ} {b : Bool} → b ≡ inside_of n offset size → n ≡ capacity y → b ≡ inside_of (capacity y) offset size
tested y offset size e same = e ∙ ap (λ (m : ℕ). inside_of m offset size) same

pub returns-in_err-check : goal.returns-in_err-check
unfolding range_refusal
returns-in_err-check c = handed_on _ c.in_err-check.field-0.0 c.from_residual.ensures.1 (bad-layout _ _ c.in_err-check.ensures (refused _))

pub numbers_of-numbers-requires : goal.numbers_of-numbers-requires
numbers_of-numbers-requires c = good-layout _ c.in_ok-check.ensures refl

pub check_stored-requires : goal.check_stored-requires
check_stored-requires c = (good-layout _ c.in_ok-check.ensures refl, c.numbers_of-numbers.ensures)

pub returns-in_err-check_stored : goal.returns-in_err-check_stored
unfolding range_refusal
returns-in_err-check_stored c = handed_on _ c.in_err-check_stored.field-0.0 c.from_residual-in_err-check_stored.ensures.1 (refused_first _ _ _ _ c.in_err-check_stored.ensures (refused _))

pub returns-then-not-is_inside : goal.returns-then-not-is_inside
returns-then-not-is_inside c =
    own c.args.y c.args.r c.args.len c.args.offset c.args.size c.in_ok-check_stored.ensures
    (sym (range_by _ _ _ ∙ pick-false _ 0 4 (sym (tested c.args.y c.args.offset c.args.size c.is_inside.ensures c.numbers_of-numbers.ensures.capacity_is) ∙ c.if-not-is_inside.true)))

pub returns : goal.returns
returns c =
    own c.args.y c.args.r c.args.len c.args.offset c.args.size c.in_ok-check_stored.ensures
    (sym (range_by _ _ _ ∙ pick_true _ 0 4 (sym (tested c.args.y c.args.offset c.args.size c.is_inside.ensures c.numbers_of-numbers.ensures.capacity_is) ∙ c.if-not-is_inside.false)))
