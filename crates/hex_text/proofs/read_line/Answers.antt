-- `hex_text::read_line` meets its contract: a line is right where its newline, its first ten characters and its digits are.
use mathlib.Core.Path.{sym, ◌∙◌}
use Rattle.std.proofs.Common.{ne_eqb}
use Rattle.lists.specs.Pick.{clash}
use Rattle.hex_text.proofs.RunLaws.{newline_wrong, head_wrong, runs_right}
use Rattle.hex_text.proofs.read_line.Goals as goal
use Rattle.hex_text.proofs.read_line.Goals.{then-ended, else-ended}

pub returns-then-head_right : goal.returns-then-head_right
returns-then-head_right c = let a = c.args in (
  c.read_unit-digits.ensures.0
      ∙ elim c.if-ended.branch [
        | then-ended w ↦ runs_right a.text.now a.at a.target a.frame a.u c.requires.0 w.if-ended.true (sym (w.value-is ∙ w.head_right.ensures) ∙ c.if-head_right.true)
        | else-ended w ↦ clash c.if-ended.value c.if-head_right.true (w.value-is ∙ ne_eqb _ 10 w.if-ended.false)
      ],
  c.read_unit-digits.ensures.1,
)

pub returns-else-head_right : goal.returns-else-head_right
returns-else-head_right c = (
  c.if-head_right.false
      ∙ elim c.if-ended.branch [
        | then-ended w ↦ head_wrong _ _ _ _ _ (sym (w.value-is ∙ w.head_right.ensures) ∙ c.if-head_right.false)
        | else-ended w ↦ newline_wrong _ _ _ _ _ w.if-ended.false
      ],
  c.read_unit-digits.ensures.1,
)
