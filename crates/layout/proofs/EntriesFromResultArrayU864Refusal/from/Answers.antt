-- The refused answer: the refusal's number, and zeros as they are laid out.
use mathlib.Core.Path.{ap, sym, ◌∙◌}
use Rattle.lists.specs.Tabulate.{tabulate, zeros}
use Rattle.layout.specs.ForC.{entries_by}
use Rattle.layout.proofs.EntriesFromResultArrayU864Refusal.from.Goals as goal

pub returns-in-Err : goal.returns-in-Err
unfolding tabulate
returns-in-Err c = ap (λ n. record { refusal = n; entries = zeros 64 }) c.into.ensures ∙ ap entries_by (sym c.in-Err.is)
