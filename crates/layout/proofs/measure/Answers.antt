-- `layout::measure` meets its contract: refused with the layout's number, or accepted with the numbers.
use mathlib.Core.Path.{refl, ap, ◌∙◌}
use Prim.Native.Nat.{ℕ}
use Rattle.lists.proofs.Answering.{refused, handed_by}
use Rattle.lists.specs.Refusal.{refused-answer, accepted_answer}
use Rattle.numbers.specs.declared.Numbers.{Numbers}
use Rattle.numbers.specs.Refused.{good-layout}
use Rattle.layout.specs.declared.Measured.{Measured}
use Rattle.layout.specs.Measure.{measured_of, no_numbers}
use Rattle.layout.specs.ForC.{measured_by}
use Rattle.layout.proofs.measure.Goals as goal

abbrev answer : ℕ → Numbers → Measured
answer n z = record { refusal = n; numbers = z }

pub returns-in_err-check : goal.returns-in_err-check
unfolding measured_of
returns-in_err-check c =
    handed_by measured_by _ c.in_err-check.field-0.0 c.from_residual.ensures.1
    (refused-answer (λ (n : ℕ). answer n no_numbers) _ c.in_err-check.ensures (refused _))

pub numbers_of-requires : goal.numbers_of-requires
numbers_of-requires c = good-layout _ c.in_ok-check.ensures refl

pub returns : goal.returns
unfolding measured_of
returns c = ap (answer 0) c.numbers_of.ensures.is ∙ accepted_answer _ _ c.in_ok-check.ensures refl
