-- `hex_text::tell_block` meets its contract: before byte o the first o bytes are told, each by its pair.
use mathlib.Core.Path.{◌∙◌, ap}
use native.Mathlib.Omega.{arith}
use Rattle.hex_text.specs.Tell.{told_by}
use Rattle.hex_text.specs.TellLaws.{tell_turn}
use Rattle.hex_text.proofs.tell_block.Goals as goal

pub loop-o-preserved : goal.loop-o-preserved
loop-o-preserved c = let l = c.loop-o in
    let a = c.args in
    let pair = c.pairs_at.ensures.holds l.o (omega arith) in
    (omega arith, tell_turn a.text.now a.from 32 c.requires.2 l.o a.begins _ l.image (omega arith) (omega (arith, l.invariant.1.len)) (c.told_by.ensures ∙ ap told_by pair) l.invariant.1)
