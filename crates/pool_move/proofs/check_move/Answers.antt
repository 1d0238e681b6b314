-- `pool_move::check_move` meets its contract: of two lengths the layout's test, then the length's; of one length the old image's tests.
use Rattle.std.proofs.Common.{refl}
use Rattle.lists.proofs.Answering.{refused, handed_on}
use Rattle.numbers.specs.Refused.{bad-layout, good-layout}
use Rattle.moving.specs.Moving.{move_refusal}
use Rattle.pool_move.specs.Answers.{one-length, two_lengths}
use Rattle.pool_move.proofs.check_move.Goals as goal

pub returns-in_err-check : goal.returns-in_err-check
unfolding move_refusal
returns-in_err-check c = handed_on _ c.in_err-check.field-0.0 c.from_residual.ensures.1 (bad-layout _ _ c.in_err-check.ensures (refused _))

pub returns-then-new-old : goal.returns-then-new-old
returns-then-new-old c = two_lengths _ c.args.r _ _ (good-layout _ c.in_ok-check.ensures refl) c.if-new-old.true

pub returns : goal.returns
returns c = one-length _ c.args.r _ _ _ c.check_pool.ensures c.if-new-old.false
