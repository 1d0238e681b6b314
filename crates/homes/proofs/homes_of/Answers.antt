-- `homes::homes_of`. The loop keeps: the homes under the entries passed; a turn is `homes_turn`.
use mathlib.Core.Path.{◌≡◌, subst}
use Prim.Native.Nat.{ℕ}
use native.Mathlib.Omega.{arith}
use Rattle.homes.specs.Homes.{homes}
use Rattle.homes.specs.Standing.{HomesAre}
use Rattle.homes.proofs.StepsLaws.{homes_units, homes_turn}
use Rattle.homes.proofs.homes_of.Goals as goal

pub loop-i-init : goal.loop-i-init
unfolding homes
loop-i-init c = let s = c.requires in (omega arith, λ k h. c.own_places-homes.ensures k (omega arith))

pub moved-next-requires : goal.moved-next-requires
moved-next-requires c = let a = c.args in
    let l = c.loop-i in
    let s = c.requires in
    (homes_units a.targets a.failed a.m a.spares a.j s l.i (omega arith) l.homes l.invariant.1, omega arith)

pub loop-i-preserved : goal.loop-i-preserved
loop-i-preserved c = let a = c.args in
    let l = c.loop-i in
    let s = c.requires in
    (omega arith, homes_turn a.targets a.failed a.m a.spares a.j s l.i (omega arith) l.homes c.moved-next.result l.invariant.1 c.moved-next.ensures)

pub returns : goal.returns
returns c = let a = c.args in
    let l = c.loop-i in
    let e : l.i ≡ a.j = omega arith in
    subst (λ (n : ℕ). HomesAre a.targets a.m a.spares a.failed n l.homes) e l.invariant.1
