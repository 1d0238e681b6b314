-- `group_swap::move_units`. What moves is taken up into the scratch, and put down from there.
use mathlib.Core.Path.{◌≡◌, refl}
use native.Mathlib.Omega.{arith}
use lib.ListN.{length}
use Rattle.group_swap.specs.TakenLaws.{room_fits, units_moved_lem}
use borrow.Author.Rules.{rules}
use Rattle.group_swap.proofs.move_units.Goals as goal

pub copy_units-requires : goal.copy_units-requires
copy_units-requires c = let p = c.requires in
    (p.0.few-contents, λ i h t. (omega (arith, p.0.from_in i h, p.0.to_in i h), omega (arith, room_fits _ _ _ _ _ p.0 _ c.rooms_of-rooms.ensures i h t, p.1)))

pub copy_units-requires-2 : goal.copy_units-requires-2
copy_units-requires-2 c = let p = c.requires in
    let up : length c.copy_units.new.out ≡ 12288 = search rules in
    (p.0.few-contents, λ i h t. (omega (arith, room_fits _ _ _ _ _ p.0 _ c.rooms_of-rooms.ensures i h t, up), omega (arith, p.0.from_in i h, p.0.to_in i h)))

pub returns : goal.returns
returns c = let p = c.requires in
    units_moved_lem _ _ _ _ _ p.0 _ c.rooms_of-rooms.ensures _ _ _ _ refl p.1 c.copy_units.ensures c.copy_units-2.ensures
