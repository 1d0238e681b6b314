-- `hex_text::head_right` meets its contract: the ten characters agree just where each does.
use native.Mathlib.Omega.{arith}
use Rattle.hex_text.specs.RunLaws.{head_told}
use Rattle.hex_text.proofs.head_right.Goals as goal

pub returns : goal.returns
returns c = let a = c.args in
    head_told a.text.now a.at a.target a.frame c.eq.result (omega arith) c.head.ensures c.eq.ensures c.requires
