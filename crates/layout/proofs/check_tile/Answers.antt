-- `layout::check_tile` meets its contract: each return rewrites the table by the tests that led there.
use mathlib.Core.Path.{refl}
use Prim.Native.Nat.{◌≤◌, ◌<◌}
use native.Mathlib.Omega.{arith}
use borrow.Author.Tests.{le-ltb, lt-ltb}
use Rattle.lists.proofs.Answering.{refused, handed_on}
use Rattle.lists.specs.Refusal.{◌or_else◌, refusal_by}
use Rattle.numbers.specs.Refused.{bad-layout, good-layout, valid_true}
use Rattle.layout.specs.Tiles.{tile_refusal}
use Rattle.layout.proofs.check_tile.Goals as goal

pub returns-in_err-check : goal.returns-in_err-check
unfolding tile_refusal
returns-in_err-check c = handed_on _ c.in_err-check.field-0.0 c.from_residual.ensures.1 (bad-layout _ _ c.in_err-check.ensures (refused _))

pub returns-then-y-tile : goal.returns-then-y-tile
unfolding tile_refusal refusal_by ◌or_else◌
returns-then-y-tile c = let y = c.args.y in
    let h1 : y.t ≤ c.args.tile = omega arith in
    simp (valid_true y (good-layout _ c.in_ok-check.ensures refl), le-ltb _ _ h1)

pub returns : goal.returns
unfolding tile_refusal refusal_by ◌or_else◌
returns c = let y = c.args.y in
    let h1 : c.args.tile < y.t = omega arith in
    simp (valid_true y (good-layout _ c.in_ok-check.ensures refl), lt-ltb _ _ h1)
