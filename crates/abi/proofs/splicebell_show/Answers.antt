-- `splicebell_show` meets its contract: what `locate` promises, and what the part there is.
use mathlib.Core.Path.{◌∙◌}
use Rattle.abi.specs.ShowsAt.{shows_at}
use Rattle.abi.proofs.splicebell_show.Goals as goal

pub returns : goal.returns
returns c = shows_at _ _ _ _ _ _ _ (c.into.ensures ∙ c.locate.ensures)
