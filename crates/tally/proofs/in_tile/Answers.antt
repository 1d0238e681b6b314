-- `tally::in_tile` meets its contract. The loop keeps: the homes in the rows passed.
use mathlib.Core.Path.{◌≡◌, refl, ◌∙◌}
use Prim.Native.Nat.{◌+◌, ◌*◌}
use native.Mathlib.Omega.{arith}
use Rattle.lists.specs.Pick.{bit_le}
use Rattle.lists.specs.Count.{count}
use Rattle.place.specs.Places.{unit_of}
use Rattle.tally.specs.WalkLaws.{can_search, column_is, column-lt, unit_there, unit_here_lem, row_turn, rows-done}
use Rattle.tally.proofs.in_tile.Goals as goal

-- the unit that is looked at is the one in the frame
held : (c : goal.After-to-in-loop-row-1) → c.unit_at-unit.result ≡ unit_of c.args.y (c.args.s.l * c.args.tile + c.loop-row.row) c.args.target
held c =
    let p = c.requires in
    c.unit_at-unit.ensures
    ∙ unit_there _ _ _ _ p.0 _ _ p.1 c.loop-row-test.true _ (column_is _ _ _ _ p.0 _ _ c.permutation-to.ensures _ c.column_of-column.ensures)

pub column_of-column-requires : goal.column_of-column-requires
column_of-column-requires c = can_search _ _ _ _ c.requires.0 _ _ c.permutation-to.ensures

pub loop-row-init : goal.loop-row-init
unfolding count
loop-row-init c = (omega arith, omega arith, refl)

pub unit_at-unit-requires : goal.unit_at-unit-requires
unit_at-unit-requires c = let p = c.requires in
    (p.0.valid, p.0.shape, p.1, c.loop-row-test.true, column-lt _ _ _ _ p.0 _ _ c.permutation-to.ensures _ c.column_of-column.ensures)

pub is_home-requires : goal.is_home-requires
is_home-requires c = let p = c.requires in
    unit_here_lem _ _ _ _ p.0 _ _ p.1 c.loop-row-test.true _ c.permutation-to.ensures _ (held c)

pub overflow_add-n : goal.overflow_add-n
overflow_add-n c = omega (arith, c.loop-row.invariant, c.requires.0.shape.l_few, c.from-n.ensures, bit_le c.is_home.result)

pub loop-row-preserved : goal.loop-row-preserved
loop-row-preserved c = let p = c.requires in
    let i = c.loop-row.invariant in (
      omega arith,
      omega (arith, c.from-n.ensures, bit_le c.is_home.result),
      row_turn _ _ _ _ p.0 _ _ p.1 c.loop-row-test.true _ _ _ _ i.2 (held c.before.before) c.is_home.ensures c.from-n.ensures,
    )

pub returns : goal.returns
returns c = let p = c.requires in
    let i = c.loop-row.invariant in
    (rows-done _ _ _ _ _ _ _ p.0 i.2 (omega arith), omega arith)
