-- `replay_line::say_bytes` meets its contract: a digit and a space, the digits of the bytes that were read, and the newline.
use Rattle.replay_line.specs.SaidLaws.{bytes_said}
use Rattle.replay_line.proofs.say_bytes.Goals as goal

pub returns : goal.returns
returns c = let a = c.args in
    bytes_said a.y a.r a.image.now a.offset a.size a.answer.now c.requires.1 c.read.ensures c.spread_hex.ensures
