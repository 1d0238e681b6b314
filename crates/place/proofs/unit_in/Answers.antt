-- `place::unit_in` meets its contract: the frame's tile and row, and the target's column there.
use Rattle.std.proofs.Common.{◌/◌, ◌%◌, ap, ◌∙◌, arith}
use Rattle.place.specs.Places.{unit_in_row}
use Rattle.place.specs.Asked.{holding_row}
use Rattle.place.specs.PlaceLaws.{unit_in_row_lem}
use Rattle.place.proofs.unit_in.Goals as goal

pub unit_at-requires : goal.unit_at-requires
unit_at-requires c = let row = holding_row _ _ _ _ _ c.requires in
    (row.0, row.1, row.2, row.3, omega (arith, row.4, c.from-column.ensures))

pub returns : goal.returns
returns c = let a = c.args in
    c.unit_at.ensures
    ∙ ap (unit_in_row a.y (a.r / a.s.l) (a.r % a.s.l)) c.from-column.ensures
    ∙ unit_in_row_lem a.y c.requires.valid a.s c.requires.shape a.from.now a.r a.t c.requires.tile
