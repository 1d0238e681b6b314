-- `pool_text::write_text` meets its contract: each way out is one of those that the tests leave.
use Prim.Native.Nat.{ℕ, ◌*◌}
use mathlib.Core.Path.{◌≡◌, sym, ap, ◌∙◌, subst}
use mathlib.Core.List.{List}
use native.Mathlib.Omega.{arith}
use lib.ListN.{length}
use Rattle.pool_text.specs.Text.{line_length, text_length}
use Rattle.pool_text.specs.Places.{lines_are, lines-few, text-few}
use Rattle.pool_text.specs.TextCalls.{WritesText}
use Rattle.pool_text.specs.CallLaws.{image_tested, writes_untested, writes_short, writes-whole}
use Rattle.lists.specs.Numbered.{refusal_number}
use Rattle.lists.proofs.Answering.{refused}
use Rattle.pool_text.proofs.write_text.Goals as goal

pub returns-in-Err : goal.returns-in-Err
returns-in-Err c = let y = c.args.y in
    subst (λ (l : List ℕ). WritesText y c.args.image.now c.args.text.now (refusal_number c.in-Err.refusal) l) (sym c.clear.ensures)
    (writes_untested y c.args.image.now c.args.text.now _ c.in-Err.ensures (refused _))

pub numbers_of-m-requires : goal.numbers_of-m-requires
numbers_of-m-requires c = (image_tested _ _ (sym c.in_default.ensures)).valid

pub overflow_mul-y : goal.overflow_mul-y
overflow_mul-y c = omega (arith, (image_tested _ _ (sym c.in_default.ensures)).valid.few_bytes)

pub overflow_add-y : goal.overflow_add-y
overflow_add-y c = omega (arith, (image_tested _ _ (sym c.in_default.ensures)).valid.few_bytes)

pub overflow_mul-y-2 : goal.overflow_mul-y-2
overflow_mul-y-2 c = let y = c.args.y in
    let k = image_tested _ _ (sym c.in_default.ensures) in
    omega (arith, lines_are y _ c.numbers_of-m.ensures.frames_is, lines-few y k.valid)

pub overflow_mul-y-3 : goal.overflow_mul-y-3
overflow_mul-y-3 c = let y = c.args.y in
    let k = image_tested _ _ (sym c.in_default.ensures) in
    let e = ap (λ (n : ℕ). line_length y * n) (lines_are y _ c.numbers_of-m.ensures.frames_is) in
    omega (arith, e, text-few y k.valid)

pub returns-then-text-y : goal.returns-then-text-y
returns-then-text-y c = let y = c.args.y in
    let e = ap (λ (n : ℕ). line_length y * n) (lines_are y _ c.numbers_of-m.ensures.frames_is) in
    subst (λ (l : List ℕ). WritesText y c.args.image.now c.args.text.now 5 l) (sym c.clear-then-text-y.ensures)
    (writes_short y c.args.image.now c.args.text.now (sym c.in_default.ensures) (λ (q : length c.args.text.now ≡ text_length y). omega (arith, q, e)))

pub write_lines-requires : goal.write_lines-requires
write_lines-requires c = let y = c.args.y in
    let k = image_tested _ _ (sym c.in_default.ensures) in
    let e = ap (λ (n : ℕ). line_length y * n) (lines_are y _ c.numbers_of-m.ensures.frames_is) in
    (k.valid, c.numbers_of-m.ensures.frames_is, k.exact, c.if-text-y.false ∙ e)

pub returns : goal.returns
returns c = let y = c.args.y in
    let e = ap (λ (n : ℕ). line_length y * n) (lines_are y _ c.numbers_of-m.ensures.frames_is) in
    subst (λ (l : List ℕ). WritesText y c.args.image.now c.args.text.now 0 l) (sym c.write_lines.ensures)
    (writes-whole y c.args.image.now c.args.text.now (sym c.in_default.ensures) (c.if-text-y.false ∙ e))
