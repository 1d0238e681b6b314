-- `proposal_check::windows_good` meets its contract. The loop keeps: the windows below w are good.
use Rattle.std.proofs.Common.{sym, ◌∙◌, arith}
use Rattle.proposal_check.specs.Windows.{window_fails}
use Rattle.proposal_check.specs.Steps.{windows_end}
use Rattle.proposal_check.proofs.windows_good.Goals as goal

pub returns-then-not-window_good : goal.returns-then-not-window_good
returns-then-not-window_good c = sym (window_fails _ _ _ _ c.loop-w.w (sym c.window_good.ensures ∙ c.if-not-window_good.true))

pub returns : goal.returns
returns c =
    sym (windows_end _ _ _ _ c.loop-w.invariant c.requires.0
    (omega (arith, c.loop-w-test.false, c.div_ceil-w-end.ensures, c.numbers_of-numbers.ensures.groups_is)))
