-- `Generator::begin` meets its contract. The advances that are left, made from where the generator stands, lead to the answer.
use Rattle.std.proofs.Common.{◌≡◌, ℕ, ◌+◌, ◌-◌, ap, sym, ◌∙◌, arith}
use Rattle.tile.specs.Generator.{extra, advanced, begin_of}
use Rattle.tile.specs.Laws.{advanced-step}
use Rattle.tile.proofs.Generator.begin.Goals as goal

pub loop-init : goal.loop-init
unfolding begin_of
loop-init c = let all : c.extra_advances-end.result - 0 ≡ extra c.args.edition = omega arith in
    ap (λ (n : ℕ). advanced n c.start-g.result.state) all ∙ ap (advanced (extra c.args.edition)) c.start-g.ensures

pub loop-preserved : goal.loop-preserved
loop-preserved c = let left = c.extra_advances-end.result - c.loop.counter in
    let next : c.extra_advances-end.result - (c.loop.counter + 1) ≡ left - 1 = omega arith in
    let step = advanced-step left c.loop.g.state (omega arith) in cc

pub returns : goal.returns
unfolding advanced
returns c = let none : c.extra_advances-end.result - c.loop.counter ≡ 0 = omega arith in
    sym (ap (λ (n : _). advanced n c.loop.g.state) none) ∙ c.loop.invariant
