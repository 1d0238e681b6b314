-- `tile::permutation` meets its contract. What is left to do, done to what stands, is the answer.
use Rattle.std.proofs.Common.{◌≡◌, ℕ, ◌-◌, ap, sym, ◌∙◌, arith}
use Rattle.tile.specs.Generator.{next_of, draw_of}
use Rattle.tile.specs.Permutation.{shuffle_of, permutation_of}
use Rattle.tile.specs.Laws.{shuffle_step}
use Rattle.tile.proofs.permutation.Goals as goal

pub loop-i-init : goal.loop-i-init
unfolding permutation_of
loop-i-init c = cc

pub loop-i-preserved : goal.loop-i-preserved
loop-i-preserved c = let s = c.loop-i.g.state in
    let i = c.loop-i.i - 1 in
    let e : c.advance-g.result.state ≡ next_of s = c.advance-g.ensures in
    let d : c.draw-j.result ≡ draw_of c.advance-g.result.state i = c.draw-j.ensures.0 in
    let step = shuffle_step i s c.loop-i.a (omega arith) in cc

pub returns : goal.returns
unfolding shuffle_of
returns c = let none : c.loop-i.i - 1 ≡ 0 = omega arith in
    sym (ap (λ (k : ℕ). shuffle_of k c.loop-i.g.state c.loop-i.a) none) ∙ c.loop-i.invariant
