-- `replay_line::say_count` meets its contract: a digit and a space, the digits of the count, and the newline.
use native.Mathlib.Omega.{arith}
use lib.ListN.{length-set, set}
use Rattle.answers.specs.Decimal.{decimal}
use Rattle.answers.specs.DecimalLaws.{decimal-length, places-few}
use Rattle.replay_line.specs.SaidLaws.{said_accepted}
use Rattle.replay_line.proofs.say_count.Goals as goal

pub bounds-answer-end : goal.bounds-answer-end
bounds-answer-end c = let l = c.args.answer.now in
    let n = c.args.count in
    omega (arith, length-set l 0 48, length-set (set l 0 48) 1 32, c.requires, c.write_decimal-end.ensures.0, c.write_decimal-end.ensures.1.len, decimal-length n, (places-few n).1)

pub overflow_add-result : goal.overflow_add-result
overflow_add-result c = let n = c.args.count in omega (arith, c.write_decimal-end.ensures.0, decimal-length n, (places-few n).1)

pub returns : goal.returns
returns c = let n = c.args.count in
    said_accepted (decimal n) c.write_decimal-end.result c.args.answer.now (omega (arith, c.requires, decimal-length n, (places-few n).1)) c.write_decimal-end.ensures.0
    c.write_decimal-end.ensures.1
