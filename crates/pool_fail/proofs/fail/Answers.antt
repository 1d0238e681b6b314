-- `pool_fail::fail` meets its contract: refused by the other tests or by the raised count, the record is as it was; accepted, it has an entry more.
use Rattle.std.proofs.Common.{◌≡◌, ℕ, ◌*◌, ◌<◌, refl, sym, ap, ◌∙◌, mul-le-mul, arith}
use Rattle.std.proofs.lemmas.Result.{err_from_is_err_and}
use Rattle.lists.proofs.Answering.{refused}
use Rattle.numbers.specs.declared.Layout.{Layout}
use Rattle.homes.specs.declared.Record.{Record}
use Rattle.pool.specs.Refusals.{otherwise}
use Rattle.pool.specs.Asked.{FailAsked, otherwise-asked}
use Rattle.pool.specs.CountLaws.{on_target_at_most}
use Rattle.pool_fail.specs.Answers.{fail_refused, fail_over, fail_done, can_walk}
use Rattle.pool_fail.proofs.fail.Goals as goal

asked : (y : Layout) (r : Record) (len target : ℕ) → 0 ≡ otherwise y r len target → FailAsked y r len target
asked y r len target e = otherwise-asked _ _ _ _ (sym e)

room : (y : Layout) (r : Record) (len target : ℕ) → FailAsked y r len target → r.k < 3
room y r len target a = omega (arith, a.room, a.sound.valid.few_parity)

pub returns-in_err-check_failing : goal.returns-in_err-check_failing
returns-in_err-check_failing c =
    let p = err_from_is_err_and c.from_residual.result c.from_residual.ensures.1 in
    rw (p.1, p.2) (fail_refused _ c.args.r _ c.args.target _ c.in_err-check_failing.ensures (refused _))

pub shape_of-s-requires : goal.shape_of-s-requires
shape_of-s-requires c = (asked _ _ _ _ c.in_ok-check_failing.ensures).sound.valid

pub overflow_mul-s : goal.overflow_mul-s
overflow_mul-s c = omega (arith, mul-le-mul c.shape_of-s.ensures.c-few (asked _ _ _ _ c.in_ok-check_failing.ensures).sound.valid.few_tiles)

pub all_contents-contents-requires : goal.all_contents-contents-requires
all_contents-contents-requires c = ((asked _ _ _ _ c.in_ok-check_failing.ensures).sound.valid, ap (λ (n : ℕ). n * c.args.y.t) c.shape_of-s.ensures.c_is)

pub on_target-requires : goal.on_target-requires
on_target-requires c = can_walk _ _ _ _ _ c.shape_of-s.ensures (asked _ _ _ _ c.in_ok-check_failing.ensures)

pub overflow_add-waiting : goal.overflow_add-waiting
overflow_add-waiting c =
    let a = c.args in
    omega (
      arith,
      (asked _ _ _ _ c.in_ok-check_failing.ensures).sound.within,
      c.all_contents-contents.ensures,
      c.on_target.ensures.0,
      on_target_at_most a.y a.r a.target,
    )

pub returns-then-contents-waiting : goal.returns-then-contents-waiting
returns-then-contents-waiting c =
    fail_over _ c.args.r _ c.args.target _ c.in_ok-check_failing.ensures refl _ c.on_target.ensures.0
    (omega (arith, c.if-contents-waiting.true, c.all_contents-contents.ensures.0))

pub returns : goal.returns
returns c =
    fail_done _ c.args.r _ c.args.target _ c.in_ok-check_failing.ensures refl _ c.on_target.ensures.0
    (omega (arith, c.if-contents-waiting.false, c.all_contents-contents.ensures.0))

pub offset_bounds-failed-r : goal.offset_bounds-failed-r
offset_bounds-failed-r c = omega (arith, room _ _ _ _ (asked _ _ _ _ c.in_ok-check_failing.ensures))

pub bounds-failed-r : goal.bounds-failed-r
bounds-failed-r c = room _ _ _ _ (asked _ _ _ _ c.in_ok-check_failing.ensures)

pub overflow_add-result : goal.overflow_add-result
overflow_add-result c = omega (arith, room _ _ _ _ (asked _ _ _ _ c.in_ok-check_failing.ensures))
