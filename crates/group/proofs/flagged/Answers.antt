-- `group::flagged`. The loop keeps: the count of the flags passed.
use mir.Val.{bool_byte}
use Rattle.std.proofs.Common.{◌≡◌, ◌+◌, ◌<◌, ◌≤◌, ℕ, List, Bool, true, false, refl, sym, ap, ap₂, ◌∙◌, arith, length, take, get_or-take, length-take-le}
use Rattle.lists.specs.Pick.{bit, bit_le}
use Rattle.lists.specs.Count.{count, count-le, count_next}
use Rattle.parity.specs.Matrix.{flag}
use Rattle.group.proofs.flagged.Goals as goal

bit_of : (b : Bool) → bool_byte b ≡ bit b
bit_of true = refl
bit_of false = refl

passed : (flags : List Bool) (m i : ℕ) → length flags ≡ 19 → m ≤ 19 → i < length (take m flags) → i < m
passed flags m i e h l = omega (arith, length-take-le m flags (omega (arith, e)))

pub loop-set-init : goal.loop-set-init
unfolding count
loop-set-init c = refl

pub overflow_add-c : goal.overflow_add-c
overflow_add-c c = let a = c.args in
    let l = c.loop-set in
    let i = passed a.flags a.m l.set-index (omega arith) c.requires c.loop-set-test.true in
    omega (arith, l.invariant, count-le (flag a.flags) l.set-index, c.from-c.ensures, bit_of (flag (take a.m a.flags) l.set-index), bit_le (flag (take a.m a.flags) l.set-index))

pub loop-set-preserved : goal.loop-set-preserved
loop-set-preserved c = let a = c.args in
    let l = c.loop-set in
    let i = passed a.flags a.m l.set-index (omega arith) c.requires c.loop-set-test.true in
    ap₂ (λ (x y : ℕ). x + y) l.invariant (c.from-c.ensures ∙ bit_of _ ∙ ap bit (get_or-take a.m a.flags l.set-index false i)) ∙ sym (count_next (flag a.flags) l.set-index)

pub returns : goal.returns
returns c = let a = c.args in
    let l = c.loop-set in
    let e : l.set-index ≡ a.m = omega (arith, length-take-le a.m a.flags (omega arith)) in
    l.invariant ∙ ap (count (flag a.flags)) e
