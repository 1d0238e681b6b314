-- `pool_move::move_edition` meets its contract: refused it leaves zeros, accepted the new pool.
use Rattle.std.proofs.Common.{sym, ◌∙◌}
use Rattle.pool_move.specs.Answers.{is_refused, is_granted, moves_asked, moves_refused, moves_accepted}
use Rattle.pool_move.proofs.move_edition.Goals as goal

pub returns-then-is_err : goal.returns-then-is_err
returns-then-is_err c =
    let a = c.args in
    let answer = c.check_move-answer in
    moves_refused _ a.r a.old.now _ _ answer.ensures (is_refused answer.result (sym c.is_err.ensures.value ∙ c.if-is_err.true)) _ c.clear.ensures

pub other_edition-z-requires : goal.other_edition-z-requires
other_edition-z-requires c =
    let a = c.args in
    let answer = c.check_move-answer in
    (moves_asked _ a.r a.old.now _ _ answer.ensures (is_granted answer.result (sym c.is_err.ensures.value ∙ c.if-is_err.false))).0.valid

pub move_groups-requires : goal.move_groups-requires
move_groups-requires c =
    let a = c.args in
    let answer = c.check_move-answer in
    let s = moves_asked _ a.r a.old.now _ _ answer.ensures (is_granted answer.result (sym c.is_err.ensures.value ∙ c.if-is_err.false)) in
    (s.0, s.1, c.other_edition-z.ensures)

pub returns : goal.returns
returns c =
    let a = c.args in
    let answer = c.check_move-answer in
    moves_accepted _ a.r a.old.now _ _ answer.ensures (is_granted answer.result (sym c.is_err.ensures.value ∙ c.if-is_err.false))
    _ c.other_edition-z.ensures _ c.move_groups.ensures
