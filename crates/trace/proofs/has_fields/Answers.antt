-- `trace::has_fields` meets its contract: before field i at place `at`, the line has the fields where it has those from the i-th on.
use Prim.Native.Nat.{ℕ, ◌+◌}
use mathlib.Core.Path.{◌≡◌, sym, ◌∙◌, ap}
use native.Mathlib.Omega.{arith}
use Rattle.trace.specs.FieldLaws.{fields_from, field_cut, field_wrong, after-wrong, field_right, fields_done}
use Rattle.trace.proofs.has_fields.Goals as goal

pub returns-then-line-at : goal.returns-then-line-at
returns-then-line-at c = let i = c.loop-i in
    let a = c.args in
    field_cut a.line.now a.widths a.n (omega arith) i.i i.at c.loop-i-test.true i.invariant.0 (omega arith) ∙ sym i.invariant.1

pub returns-then-not-is_digits : goal.returns-then-not-is_digits
returns-then-not-is_digits c = let i = c.loop-i in
    let a = c.args in
    field_wrong a.line.now a.widths a.n (omega arith) i.i i.at c.loop-i-test.true (sym c.is_digits.ensures ∙ c.if-not-is_digits.true) ∙ sym i.invariant.1

pub returns-then-line-at-2 : goal.returns-then-line-at-2
returns-then-line-at-2 c = let i = c.loop-i in
    let a = c.args in
    after-wrong a.line.now a.widths a.n (omega arith) i.i i.at c.loop-i-test.true c.separator.ensures c.if-line-at-2.true ∙ sym i.invariant.1

pub loop-i-preserved : goal.loop-i-preserved
loop-i-preserved c = let i = c.loop-i in
    let a = c.args in (
      omega arith,
      i.invariant.1
          ∙ field_right a.line.now a.widths a.n (omega arith) i.i i.at c.loop-i-test.true (sym c.is_digits.ensures ∙ c.if-not-is_digits.false) c.separator.ensures c.if-line-at-2.false
          ∙ ap (fields_from a.line.now a.widths a.n (i.i + 1)) (omega arith),
    )

pub returns : goal.returns
returns c = let i = c.loop-i in
    let a = c.args in
    let done : i.i ≡ a.n = omega arith in
    sym (i.invariant.1 ∙ ap (λ (k : ℕ). fields_from a.line.now a.widths a.n k i.at) done ∙ fields_done a.line.now a.widths a.n (omega arith) i.at)
