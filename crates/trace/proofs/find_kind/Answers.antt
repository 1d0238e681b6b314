-- `trace::find_kind` meets its contract: too long, too short, or the named kind where the line has its form.
use mathlib.Core.Path.{sym, ◌∙◌}
use native.Mathlib.Omega.{arith}
use Rattle.trace.specs.FormLaws.{kind_long, kind_short, kind_right, kind_wrong, kind_unknown}
use Rattle.trace.specs.Kinds.{number_of}
use Rattle.trace.proofs.find_kind.Goals as goal
use Rattle.trace.proofs.find_kind.Goals.{then-line-gt8301-via-then-line-gt8301, then-line-gt8301-via-else-line-gt8301+then-line-lt3}

pub returns-then-line-gt8301 : goal.returns-then-line-gt8301
returns-then-line-gt8301 c =
    elim c.then-line-gt8301.branch [
      | then-line-gt8301-via-then-line-gt8301 w ↦ kind_long c.args.line.now w.if-line-gt8301.true
      | then-line-gt8301-via-else-line-gt8301+then-line-lt3 w ↦ kind_short c.args.line.now w.if-line-lt3.true
    ]

pub returns-in-Ok : goal.returns-in-Ok
returns-in-Ok c = kind_right c.args.line.now (number_of c.in-Ok.kind) (c.in-Ok.ensures ∙ c.number_at.ensures) (omega arith) (sym c.has_form.ensures ∙ c.if-has_form.true)

pub returns-in_default : goal.returns-in_default
returns-in_default c = kind_wrong c.args.line.now (number_of c.in-Ok.kind) (c.in-Ok.ensures ∙ c.number_at.ensures) (sym c.has_form.ensures ∙ c.if-has_form.false)

pub returns-in_default-2 : goal.returns-in_default-2
returns-in_default-2 c = kind_unknown c.args.line.now c.number_at.result c.number_at.ensures (omega arith) c.in_default.ensures
