-- `homes::check_failures`: each branch is one of the ways in which a list is bad, or none is left.
use mathlib.Core.Path.{sym, ◌∙◌}
use native.Mathlib.Omega.{arith}
use Rattle.homes.specs.Steps.{too_many, too_mended, by_entries, refused_by, accepted_by}
use Rattle.homes.proofs.check_failures.Goals as goal

pub returns-then-y-r : goal.returns-then-y-r
returns-then-y-r c = let a = c.args in too_many a.y a.r c.if-y-r.true

pub returns-then-r : goal.returns-then-r
returns-then-r c = let a = c.args in too_mended a.y a.r (omega arith) c.if-r.true

pub returns : goal.returns
returns c = let a = c.args in
    accepted_by a.y a.r (by_entries a.y a.r (omega arith) (omega arith) ∙ sym c.entries_good.ensures ∙ c.if-not-entries_good.false)

pub returns-then-not-entries_good : goal.returns-then-not-entries_good
returns-then-not-entries_good c = let a = c.args in
    refused_by a.y a.r (by_entries a.y a.r (omega arith) (omega arith) ∙ sym c.entries_good.ensures ∙ c.if-not-entries_good.true)
