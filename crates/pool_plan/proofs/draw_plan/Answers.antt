-- `pool_plan::draw_plan` meets its contract: refused, too short, or drawn.
use Rattle.std.proofs.Common.{refl, sym, arith}
use Rattle.std.proofs.lemmas.Result.{err_from_is_err_and}
use Rattle.lists.proofs.Answering.{refused}
use Rattle.pool.specs.Asked.{repair_asked}
use Rattle.pool_plan.specs.Answers.{needed_is, drawn_few, draw_unasked, draw_short, draw_done}
use Rattle.pool_plan.proofs.draw_plan.Goals as goal

pub returns-in_err-check_pool : goal.returns-in_err-check_pool
returns-in_err-check_pool c =
    let p = err_from_is_err_and c.from_residual.result c.from_residual.ensures.1 in
    rw (p.1, p.2) (draw_unasked _ c.args.r _ _ c.in_err-check_pool.ensures (refused _))

pub missing_units-waiting-requires : goal.missing_units-waiting-requires
missing_units-waiting-requires c = let s = repair_asked _ _ _ (sym c.in_ok-check_pool.ensures) in (s.valid, s.good)

pub overflow_add-needed : goal.overflow_add-needed
overflow_add-needed c = omega (arith, (repair_asked _ _ _ (sym c.in_ok-check_pool.ensures)).valid.few_data)

pub overflow_mul-needed : goal.overflow_mul-needed
overflow_mul-needed c =
    let r = c.args.r in
    let s = repair_asked _ r _ (sym c.in_ok-check_pool.ensures) in
    let y = c.args.y in
    omega (arith, drawn_few y s.valid r, needed_is y r _ c.missing_units-waiting.ensures)

pub returns-then-plan-needed : goal.returns-then-plan-needed
returns-then-plan-needed c =
    let a = c.args in
    draw_short a.y a.r _ _ c.in_ok-check_pool.ensures refl _ (needed_is a.y a.r _ c.missing_units-waiting.ensures) c.if-plan-needed.true

pub draw-requires : goal.draw-requires
draw-requires c =
    let a = c.args in
    let s = repair_asked a.y a.r _ (sym c.in_ok-check_pool.ensures) in
    (s.valid, s.good, needed_is a.y a.r _ c.missing_units-waiting.ensures, omega (arith, c.if-plan-needed.false))

pub returns : goal.returns
returns c =
    let a = c.args in
    draw_done a.y a.r _ _ c.in_ok-check_pool.ensures refl _
    (needed_is a.y a.r _ c.missing_units-waiting.ensures)
    (omega (arith, c.if-plan-needed.false)) _ c.draw.ensures
