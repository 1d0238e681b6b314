-- `replay_line::play` meets its contract: a buffer that is too short, and each kind of line.
use mathlib.Core.Path.{refl, sym, ap, ◌∙◌}
use native.Mathlib.Omega.{arith}
use Rattle.trace.specs.Kinds.{number_of}
use Rattle.trace.specs.ToldLaws.{told_none}
use Rattle.replay_line.specs.PlayedLaws.{plays_refused, plays_write, plays_read, plays_malformed, plays_fail, plays_repair}
use Rattle.replay_line.proofs.play.Goals as goal

pub returns-then-not-has_room : goal.returns-then-not-has_room
returns-then-not-has_room c = plays_refused c.args.y c.args.r c.args.image.now c.args.line.now c.args.answer.now (sym c.has_room.ensures ∙ c.if-not-has_room.true) c.clear.ensures

pub returns-in-Some-Write : goal.returns-in-Some-Write
returns-in-Some-Write c =
    plays_write c.args.y c.args.r c.args.image.now c.args.line.now c.args.answer.now (sym c.has_room.ensures ∙ c.if-not-has_room.false)
    (sym c.in-Some-Write.ensures ∙ ap number_of c.in-Some-Write.field-0-is) c.play_write-length.ensures

pub returns-in-Some-Fail : goal.returns-in-Some-Fail
returns-in-Some-Fail c =
    plays_fail c.args.y c.args.r c.args.image.now c.args.line.now c.args.answer.now (sym c.has_room.ensures ∙ c.if-not-has_room.false)
    (sym c.in-Some-Fail.ensures ∙ ap number_of c.in-Some-Fail.field-0-is) (let p = c.play_fail.ensures in (refl, p.0, p.1))

pub returns-in-Some-Repair : goal.returns-in-Some-Repair
returns-in-Some-Repair c =
    plays_repair c.args.y c.args.r c.args.image.now c.args.line.now c.args.answer.now (sym c.has_room.ensures ∙ c.if-not-has_room.false)
    (sym c.in-Some-Repair.ensures ∙ ap number_of c.in-Some-Repair.field-0-is) (let p = c.play_repair.ensures in (refl, p.0, p.1, p.2))

pub returns-in-Some-Read : goal.returns-in-Some-Read
returns-in-Some-Read c =
    plays_read c.args.y c.args.r c.args.image.now c.args.line.now c.args.answer.now (sym c.has_room.ensures ∙ c.if-not-has_room.false)
    (sym c.in-Some-Read.ensures ∙ ap number_of c.in-Some-Read.field-0-is) c.play_read-length.ensures

pub returns-in-None : goal.returns-in-None
returns-in-None c =
    let none = c.in-None.ensures in
    plays_malformed c.args.y c.args.r c.args.image.now c.args.line.now c.args.answer.now (sym c.has_room.ensures ∙ c.if-not-has_room.false)
    (told_none c.args.line.now (λ e. omega (arith, none, e)) (λ e. omega (arith, none, e)) (λ e. omega (arith, none, e)) (λ e. omega (arith, none, e)))
    c.say-length.ensures
