-- `homes::is_free`: a spare that is a home is not free; of another its target decides.
use mathlib.Core.Path.{sym, ap, ◌∙◌}
use mathlib.Core.Bool.{not}
use Rattle.lists.specs.Tabulate.{at}
use Rattle.homes.specs.Listed.{listed}
use Rattle.homes.specs.Steps.{free-home, free_rest}
use Rattle.homes.proofs.is_free.Goals as goal

pub returns-then-is_home : goal.returns-then-is_home
returns-then-is_home c = let a = c.args in
    sym (free-home (at a.targets) a.m 0 (at a.failed) a.j (at a.homes) a.i (sym c.is_home.ensures ∙ c.if-is_home.true))

pub returns : goal.returns
returns c = let a = c.args in
    ap not (c.is_listed.ensures ∙ ap (listed (at a.failed) a.j) c.from.ensures)
    ∙ sym (free_rest (at a.targets) a.m 0 (at a.failed) a.j (at a.homes) a.i (sym c.is_home.ensures ∙ c.if-is_home.false))
