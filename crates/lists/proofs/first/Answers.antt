-- `lists::first` meets its contract, by the two laws of `or_else`.
use mathlib.Core.Path.{sym}
use Rattle.lists.specs.Refusal.{or_else_left, or_else_right}
use Rattle.lists.proofs.first.Goals as goal

pub returns-then-a-eq0 : goal.returns-then-a-eq0
returns-then-a-eq0 c = sym (or_else_right _ _ c.if-a-eq0.true)

pub returns : goal.returns
returns c = sym (or_else_left _ _ c.if-a-eq0.false)
