-- `kernel::schedule::fill_lists`. The loop keeps: the first j sources stand in the lists of all eight digits. Factors of one digit need the lowest list alone.
use mathlib.Core.Path.{◌≡◌, refl, subst}
use Prim.Native.Nat.{ℕ}
use native.Mathlib.Omega.{arith}
use lib.ListN.{replicate}
use Rattle.kernel.specs.Fill.{Planes, planes_start, planes_lowest}
use Rattle.kernel.proofs.schedule.fill_lists.Goals as goal

pub returns-then-top-lt2 : goal.returns-then-top-lt2
returns-then-top-lt2 c = let a = c.args in
    planes_lowest a.starts.now a.coefs.now a.n c.fill_lowest.new.list (replicate 8 0) c.fill_lowest.result a.top (omega arith) (omega (arith, c.if-top-lt2.true)) c.fill_lowest.ensures

pub loop-j-init : goal.loop-j-init
loop-j-init c = (c.requires.0, refl, planes_start c.args.starts.now c.args.coefs.now c.args.list.now (replicate 8 0) 8 refl)

pub spread-requires : goal.spread-requires
spread-requires c = let l = c.loop-j in
    (l.invariant.0, l.invariant.1, omega (arith, c.loop-j-test.true, c.requires.1), l.invariant.2)

pub returns : goal.returns
returns c = let a = c.args in
    let l = c.loop-j in
    let e : l.j ≡ a.n = omega arith in
    λ x h. subst (λ (z : ℕ). Planes a.starts.now a.coefs.now z l.list l.counts 8) e l.invariant.2 x (omega (arith, c.requires.2))
