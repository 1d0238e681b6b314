-- `hex_text::write_line` meets its contract: ten characters, the digits and the newline make the line.
use mathlib.Core.Path.{refl}
use Rattle.hex_text.specs.RunLaws.{line-written}
use Rattle.hex_text.proofs.write_line.Goals as goal

pub returns : goal.returns
returns c = let a = c.args in
    line-written a.image.now a.begins a.u a.target a.frame a.at 10 c.requires.1 c.write_head.ensures c.write_unit.ensures refl
