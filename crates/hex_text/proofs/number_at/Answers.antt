-- `hex_text::number_at` meets its contract: before digit i, the number is what the first i tell.
use Prim.Native.Nat.{◌+◌, ◌*◌}
use mathlib.Core.Path.{◌∙◌, ap}
use native.Mathlib.Omega.{arith}
use Rattle.hex_text.specs.Runs.{digit_or16}
use Rattle.hex_text.specs.RunLaws.{part_lt, part_at}
use Rattle.hex_text.specs.NumberLaws.{number-none, number_turn, number_room}
use Rattle.hex_text.proofs.number_at.Goals as goal

pub loop-c-init : goal.loop-c-init
loop-c-init c = number-none c.args.text.now c.args.from

pub overflow_mul-number : goal.overflow_mul-number
overflow_mul-number c = let l = c.loop-c in
    let a = c.args in
    let few = part_lt a.text.now a.from _ l.c-index c.loop-c-test.true in
    omega (arith, l.invariant, number_room a.text.now a.from l.c-index (omega (arith, few)))

pub overflow_add-number : goal.overflow_add-number
overflow_add-number c = let l = c.loop-c in
    let a = c.args in
    let few = part_lt a.text.now a.from _ l.c-index c.loop-c-test.true in
    omega (arith, l.invariant, number_room a.text.now a.from l.c-index (omega (arith, few)))

pub loop-c-preserved : goal.loop-c-preserved
loop-c-preserved c = let l = c.loop-c in
    let a = c.args in
    ap (λ d. 16 * l.number + d) c.from.ensures
    ∙ number_turn a.text.now a.from l.c-index (c.digit_or_16.ensures ∙ ap digit_or16 (part_at a.text.now a.from _ l.c-index c.loop-c-test.true)) l.invariant
