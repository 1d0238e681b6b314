-- `trace::is_layout` meets its contract: the widths are those of the form.
use Rattle.trace.specs.Forms.{is_layout}
use Rattle.trace.proofs.is_layout.Goals as goal

pub returns : goal.returns
unfolding is_layout
returns c = c.has_fields.ensures
