-- `hex_text::write_head` meets its contract: before character i the first i stand there.
use mathlib.Core.Path.{◌∙◌, ap}
use native.Mathlib.Omega.{arith}
use lib.ListN.{length}
use Rattle.lists.specs.Span.{span_to}
use Rattle.lists.specs.Tabulate.{at, length-tabulate, get_d_tabulate}
use Rattle.hex_text.specs.RunLaws.{head_turn}
use Rattle.hex_text.specs.Runs.{head_of}
use Rattle.hex_text.proofs.write_head.Goals as goal

pub loop-i-preserved : goal.loop-i-preserved
loop-i-preserved c = let l = c.loop-i in
    let a = c.args in
    let few = ap length c.head.ensures ∙ length-tabulate 10 (head_of a.target a.frame) in
    head_turn a.at a.target a.frame l.i _ l.text (omega (arith, few, l.invariant.len)) l.invariant
    (ap (λ xs. at xs l.i) c.head.ensures ∙ get_d_tabulate 10 (head_of a.target a.frame) l.i 0 (omega (arith, few)))

pub returns : goal.returns
returns c = span_to _ _ (omega arith) c.loop-i.invariant
