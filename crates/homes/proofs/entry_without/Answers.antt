-- `homes::entry_without` meets its contract: the four cases of the place asked for.
use native.Mathlib.Omega.{arith}
use Rattle.lists.specs.Tabulate.{at}
use Rattle.homes.specs.Steps.{beyond_kept, last_freed, before_kept, after-moved}
use Rattle.homes.proofs.entry_without.Goals as goal

pub returns-then-last-i : goal.returns-then-last-i
returns-then-last-i c = let a = c.args in beyond_kept (at a.failed) a.last a.place a.i c.if-last-i.true

pub returns-then-i-last : goal.returns-then-i-last
returns-then-i-last c = let a = c.args in last_freed (at a.failed) a.last a.place a.i c.if-i-last.true

pub returns-then-i-place : goal.returns-then-i-place
returns-then-i-place c = let a = c.args in
    before_kept (at a.failed) a.last a.place a.i (omega (arith, c.if-last-i.false, c.if-i-last.false)) c.if-i-place.true

pub offset_bounds-failed-i-2 : goal.offset_bounds-failed-i-2
offset_bounds-failed-i-2 c = omega (arith, c.requires, c.if-last-i.false, c.if-i-last.false)

pub bounds-failed-i-2 : goal.bounds-failed-i-2
bounds-failed-i-2 c = omega (arith, c.requires, c.if-last-i.false, c.if-i-last.false)

pub returns : goal.returns
returns c = let a = c.args in
    after-moved (at a.failed) a.last a.place a.i (omega (arith, c.if-last-i.false, c.if-i-last.false)) c.if-i-place.false
