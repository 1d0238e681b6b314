-- `updates::put_parity`. Nothing, or the sum over the image, or over the image and the scratch.
use mathlib.Core.Path.{refl}
use native.Mathlib.Omega.{arith}
use Rattle.updates.specs.Steps.{parity_in, parity_off, healthy_made, around_parity, data_aside, has_room_lem}
use Rattle.updates.proofs.put_parity.Goals as goal

pub returns-then-missing-c : goal.returns-then-missing-c
returns-then-missing-c c = parity_off _ _ _ _ _ _ c.if-missing-c.true

pub combine_in-requires : goal.combine_in-requires
combine_in-requires c = (c.requires.0.right.solvable.data_max, parity_in _ _ _ _ _ c.requires.0 c.requires.2 c.requires.3, data_aside _ c.requires.1 _ _ c.requires.2 _ _ _ _ c.requires.0 c.requires.3 refl c.requires.4)

pub returns-then-p-eq0 : goal.returns-then-p-eq0
returns-then-p-eq0 c = healthy_made _ _ _ _ _ _ c.requires.0.right c.requires.3 _ c.line-row.ensures c.if-missing-c.false _ refl (parity_in _ _ _ _ _ c.requires.0 c.requires.2 c.requires.3) _ _ c.requires.4 c.if-p-eq0.true c.combine_in.ensures

pub put_around-requires : goal.put_around-requires
put_around-requires c = (c.requires.0.right, omega (arith, c.requires.0.u-max, c.requires.2), parity_in _ _ _ _ _ c.requires.0 c.requires.2 c.requires.3, data_aside _ c.requires.1 _ _ c.requires.2 _ _ _ _ c.requires.0 c.requires.3 refl c.requires.4, has_room_lem c.args.p _ c.requires.5 c.if-p-eq0.false)

pub returns : goal.returns
returns c = around_parity _ _ _ _ _ _ c.requires.0.right c.requires.3 _ c.line-row.ensures c.if-missing-c.false _ refl (parity_in _ _ _ _ _ c.requires.0 c.requires.2 c.requires.3) _ _ c.requires.4 c.put_around.ensures
