-- `checks::check_look` meets its contract: what every call tests first, then the group's, the content's and the scratch's tests.
use mathlib.Core.Path.{◌≡◌, refl, sym, ◌∙◌}
use Prim.Native.Nat.{ℕ}
use native.Mathlib.Omega.{arith}
use Rattle.lists.proofs.Answering.{refused, handed_on}
use Rattle.lists.specs.Refusal.{refusal_by}
use Rattle.numbers.specs.declared.Layout.{Layout}
use Rattle.homes.specs.declared.Record.{Record}
use Rattle.pool.specs.Refusals.{look_tests, look_refusal, repair_refusal}
use Rattle.checks.specs.Tests.{refused_first, passed_first, group_outside, content_outside, wrong_room, right_room}
use Rattle.pool.specs.Asked.{repair_asked}
use Rattle.checks.proofs.check_look.Goals as goal

-- once that has passed, the call's own tests decide
own : (y : Layout) (r : Record) (len room group content : ℕ) {n : ℕ} → 0 ≡ repair_refusal y r len
    → n ≡ refusal_by (look_tests y room group content) → n ≡ look_refusal y r len room group content
unfolding look_refusal
own y r len room group content p e = e ∙ sym (passed_first _ _ _ _ p refl)

pub returns-in_err-check_pool : goal.returns-in_err-check_pool
unfolding look_refusal
returns-in_err-check_pool c = handed_on _ c.in_err-check_pool.field-0.0 c.from_residual.ensures.1 (refused_first _ _ _ _ c.in_err-check_pool.ensures (refused _))

pub numbers_of-requires : goal.numbers_of-requires
numbers_of-requires c = (repair_asked _ _ _ (sym c.in_ok-check_pool.ensures)).valid

pub returns-then-numbers_of-group : goal.returns-then-numbers_of-group
returns-then-numbers_of-group c = own _ c.args.r c.args.len _ _ _ c.in_ok-check_pool.ensures (group_outside c.args.y _ c.args.group c.args.content (omega arith))

pub returns-then-y-content : goal.returns-then-y-content
returns-then-y-content c = own _ c.args.r c.args.len _ _ _ c.in_ok-check_pool.ensures (content_outside c.args.y _ c.args.group c.args.content (omega arith) c.if-y-content.true)

pub returns-then-room-y : goal.returns-then-room-y
returns-then-room-y c = own _ c.args.r c.args.len _ _ _ c.in_ok-check_pool.ensures (wrong_room c.args.y _ c.args.group c.args.content (omega arith) c.if-y-content.false c.if-room-y.true)

pub returns : goal.returns
returns c = own _ c.args.r c.args.len _ _ _ c.in_ok-check_pool.ensures (right_room c.args.y _ c.args.group c.args.content (omega arith) c.if-y-content.false c.if-room-y.false)
