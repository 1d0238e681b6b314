-- `settings::is_setting` meets its contract: malformed, or by its numbers.
use mathlib.Core.Path.{sym, ◌∙◌}
use Rattle.settings.specs.LineLaws.{setting_unformed, setting_by_bounds}
use Rattle.settings.proofs.Handed.{ok_by_number}
use Rattle.settings.proofs.is_setting.Goals as goal

pub returns-then-has_form : goal.returns-then-has_form
returns-then-has_form c = c.is_ok.ensures.value ∙ ok_by_number c.check.result ∙ setting_by_bounds c.args.line.now (sym c.has_form.ensures ∙ c.if-has_form.true) c.layout_of.ensures c.check.ensures

pub returns-else-has_form : goal.returns-else-has_form
returns-else-has_form c = c.if-has_form.false ∙ setting_unformed c.args.line.now (sym c.has_form.ensures ∙ c.if-has_form.false)
