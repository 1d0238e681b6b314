-- `answers::write_decimal` meets its contract: the digits from place `left` on stand there, and the rest of the number has those before.
use Prim.Native.Nat.{◌+◌, ◌-◌}
use mathlib.Core.Path.{◌≡◌, refl, sym, ap, ◌∙◌, subst}
use native.Mathlib.Omega.{arith}
use Rattle.lists.specs.Span.{Span, span_none}
use Rattle.answers.specs.Decimal.{tenths, places}
use Rattle.answers.specs.DecimalLaws.{none_tenth, places-few, decimal-length, digit_from, decimal_turn, tenth_turn, decimal_put}
use Rattle.answers.proofs.write_decimal.Goals as goal

pub loop-left-init : goal.loop-left-init
loop-left-init c = let n = c.args.n in
    let e = c.places-digits.ensures in (
      e,
      omega arith,
      none_tenth n ∙ ap (λ k. tenths k n) (let z : 0 ≡ places n - c.places-digits.result = omega (arith, e) in z),
      span_none _ _ _ (omega (arith, e)),
    )

pub overflow_add-text-in-loop-left : goal.overflow_add-text-in-loop-left
overflow_add-text-in-loop-left c = omega (arith, (places-few c.args.n).1, c.loop-left.invariant.0)

pub bounds-text-at : goal.bounds-text-at
bounds-text-at c = omega (arith, (places-few c.args.n).1, c.loop-left.invariant.0, c.loop-left.invariant.3.len)

pub loop-left-preserved : goal.loop-left-preserved
loop-left-preserved c = let i = c.loop-left in
    let a = c.args in
    let few = (places-few a.n).1 in (
      i.invariant.0,
      omega arith,
      tenth_turn a.n a.at i.left c.loop-left-test.true (omega (arith, i.invariant.0)) i.invariant.2,
      decimal_turn a.n a.at i.left _ c.loop-left-test.true (omega (arith, i.invariant.0)) (omega (arith, i.invariant.3.len, few)) i.invariant.2 refl refl i.invariant.3,
    )

pub overflow_add-result : goal.overflow_add-result
overflow_add-result c = omega (arith, (places-few c.args.n).1, c.places-digits.ensures)

pub returns : goal.returns
returns c = let i = c.loop-left in
    let a = c.args in (
      ap (λ m. a.at + m) (i.invariant.0 ∙ sym (decimal-length a.n)),
      decimal_put a.n a.at (subst (λ z. Span (digit_from a.n a.at) z (a.at + places a.n) a.text.now i.text) (let z : a.at + i.left ≡ a.at = omega arith in z) i.invariant.3),
    )
