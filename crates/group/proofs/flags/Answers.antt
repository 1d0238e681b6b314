-- `group::flags`. The loop keeps: the flags of the units that the entries passed name. A turn is `flag_turn`.
use Rattle.std.proofs.Common.{◌≡◌, ◌<◌, ℕ, true, false, refl, ap, ◌∙◌, arith, length, get_or, length-set, replicate}
use lib.ListN.{get_or-replicate}
use Rattle.lists.specs.Search.{any}
use Rattle.parity.specs.Matrix.{flag}
use Rattle.group.specs.Flags.{named_below, flag_turn, as_set}
use Rattle.group.proofs.flags.Goals as goal

none-set : (u : ℕ) → u < 19 → flag (replicate 19 false) u ≡ false
none-set u h = get_or-replicate 19 u false false h

pub loop-unit-init : goal.loop-unit-init
unfolding any
loop-unit-init c = (refl, λ u h. none-set u h)

pub loop-unit-preserved : goal.loop-unit-preserved
loop-unit-preserved c = let l = c.loop-unit in
    let m = c.args.missing.now in
    (length-set l.named _ true ∙ l.invariant.0, flag_turn l.named m l.unit-index (get_or m l.unit-index 0) l.invariant.0 refl (c.requires l.unit-index c.loop-unit-test.true) l.invariant.1)

pub returns : goal.returns
returns c = let l = c.loop-unit in
    let m = c.args.missing.now in
    let e : l.unit-index ≡ length m = omega arith in
    as_set l.named m l.invariant.0 c.requires (λ u h. l.invariant.1 u h ∙ ap (λ (z : ℕ). named_below m z u) e)
