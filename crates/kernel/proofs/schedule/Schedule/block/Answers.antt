-- `kernel::schedule::Schedule::block`. The loop keeps: the array holds what the digits from k on give, by Horner's rule. A turn is `digit_turn`.
use mathlib.Core.Path.{◌≡◌, refl, ◌∙◌, subst}
use mathlib.Core.Bool.{false}
use lib.Dec.{ltb}
use Prim.Native.Nat.{ℕ, ◌+◌, ◌-◌, ◌*◌}
use native.Mathlib.Nat.{le_refl}
use native.Mathlib.Omega.{arith}
use lib.ListN.{get_or}
use Rattle.kernel.specs.Plan.{picked, planned, digits_none, digits_all, digit_turn, first_zero}
use Rattle.kernel.proofs.schedule.Schedule.block.Goals as goal

pub loop-k-init : goal.loop-k-init
loop-k-init c = let a = c.args in
    let s = a.self.now in
    (le_refl _, digits_none (λ i x. picked a.src.now s.list.now (x * 16) (get_or s.counts x 0) (a.o + i)) s.top a.m _ refl refl)

pub double_from-requires : goal.double_from-requires
double_from-requires c = let a = c.args in
    let l = c.loop-k in
    let s = a.self.now in
    let w : l.k - 1 + 1 ≡ l.k = omega arith in (
      l.invariant.1.len,
      c.requires.0,
      λ t. first_zero (λ i x. picked a.src.now s.list.now (x * 16) (get_or s.counts x 0) (a.o + i)) s.top l.k a.m l.acc l.invariant.0 l.invariant.1 (subst (λ (z : ℕ). ltb z s.top ≡ false) w t),
    )

pub add_plane-requires : goal.add_plane-requires
add_plane-requires c = let l = c.loop-k in
    (c.double_from.ensures.len ∙ l.invariant.1.len, c.requires.0, c.requires.1.each (l.k - 1) (omega arith))

pub loop-k-preserved : goal.loop-k-preserved
loop-k-preserved c = let a = c.args in
    let l = c.loop-k in
    let s = a.self.now in (
      omega arith,
      digit_turn (λ i x. picked a.src.now s.list.now (x * 16) (get_or s.counts x 0) (a.o + i)) s.top l.k (l.k - 1) a.m (omega arith) l.invariant.0 l.invariant.1 c.double_from.ensures c.add_plane.ensures,
    )

pub returns : goal.returns
unfolding planned
returns c = let a = c.args in
    let l = c.loop-k in
    let s = a.self.now in
    digits_all (λ i x. picked a.src.now s.list.now (x * 16) (get_or s.counts x 0) (a.o + i)) s.top l.k a.m l.acc (omega arith) l.invariant.1
