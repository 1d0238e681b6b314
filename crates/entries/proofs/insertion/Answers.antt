-- `entries::insertion` meets its contract: each return is the arm that its tests pick.
use Rattle.std.proofs.Common.{◌∙◌, sym, lt-ltb, le-ltb}
use Rattle.entries.specs.Plans.{insertion_of}
use Rattle.entries.proofs.insertion.Goals as goal

pub returns-then-not-x : goal.returns-then-not-x
unfolding insertion_of
returns-then-not-x c = simp c.if-not-x.true

pub returns-then-is_some : goal.returns-then-is_some
unfolding insertion_of
returns-then-is_some c = simp (c.if-not-x.false, sym c.is_some.ensures ∙ c.if-is_some.true)

pub returns-then-x : goal.returns-then-x
unfolding insertion_of
returns-then-x c = simp (c.if-not-x.false, sym c.is_some.ensures ∙ c.if-is_some.false, le-ltb _ _ c.if-x.true)

pub returns : goal.returns
unfolding insertion_of
returns c = simp (c.if-not-x.false, sym c.is_some.ensures ∙ c.if-is_some.false, lt-ltb _ _ c.if-x.false)
