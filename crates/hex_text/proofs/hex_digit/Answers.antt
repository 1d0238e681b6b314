-- `hex_text::hex_digit` meets its contract: each return is the arm that its test picks.
use borrow.Author.Tests.{lt-ltb, le-ltb}
use Rattle.hex_text.specs.Hex.{hex_digit}
use Rattle.hex_text.proofs.hex_digit.Goals as goal

pub returns-then-x-lt10 : goal.returns-then-x-lt10
unfolding hex_digit
returns-then-x-lt10 c = simp (lt-ltb _ _ c.if-x-lt10.true)

pub returns : goal.returns
unfolding hex_digit
returns c = simp (le-ltb _ _ c.if-x-lt10.false)
