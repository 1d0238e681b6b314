-- `hex_text::tell_rest` meets its contract: before byte o the first o bytes are told.
use mathlib.Core.Path.{◌∙◌, ap}
use native.Mathlib.Omega.{arith}
use Rattle.hex_text.specs.Tell.{told_by}
use Rattle.hex_text.specs.TellLaws.{tell_turn}
use Rattle.hex_text.proofs.tell_rest.Goals as goal

pub loop-o-preserved : goal.loop-o-preserved
loop-o-preserved c = let l = c.loop-o in
    let a = c.args in
    tell_turn a.text.now a.from a.u c.requires.2 l.o a.begins _ l.image (omega arith) (omega (arith, l.invariant.len)) (c.told_by.ensures ∙ ap told_by c.pair_of.ensures) l.invariant
