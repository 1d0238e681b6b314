-- `replay_line::say` meets its contract: the digits, and the newline after them.
use native.Mathlib.Omega.{arith}
use Rattle.answers.specs.DecimalLaws.{decimal-length, places-few}
use Rattle.replay_line.specs.SaidLaws.{said_number}
use Rattle.replay_line.proofs.say.Goals as goal

pub bounds-answer-end : goal.bounds-answer-end
bounds-answer-end c = let n = c.args.number in omega (arith, c.write_decimal-end.ensures.0, c.write_decimal-end.ensures.1.len, decimal-length n, (places-few n).1)

pub overflow_add-result : goal.overflow_add-result
overflow_add-result c = let n = c.args.number in omega (arith, c.write_decimal-end.ensures.0, decimal-length n, (places-few n).1)

pub returns : goal.returns
returns c = said_number c.args.number c.write_decimal-end.result c.requires c.write_decimal-end.ensures.0 c.write_decimal-end.ensures.1
