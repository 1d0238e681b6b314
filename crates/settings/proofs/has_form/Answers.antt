-- `settings::has_form` meets its contract: too short, of no version, or by its fields.
use Rattle.settings.specs.LineLaws.{form_short}
use Rattle.settings.proofs.has_form.Goals as goal

pub returns-then-line-lt3 : goal.returns-then-line-lt3
returns-then-line-lt3 c = form_short c.args.line.now c.if-line-lt3.true
