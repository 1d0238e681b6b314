-- `place::place_of` meets its contract: the permutation is that of the cell's tile.
use mathlib.Core.Path.{ap}
use native.Mathlib.Omega.{arith}
use Rattle.place.specs.declared.Cell.{Cell}
use Rattle.place.specs.PlaceLaws.{cell_in, place_at}
use Rattle.place.proofs.place_of.Goals as goal

pub place_at-requires : goal.place_at-requires
place_at-requires c = let b = c.before.before.before.before in
    let inside = cell_in b.args.y b.requires.0 b.args.g b.args.u b.requires.3 b.requires.2 in
    omega (arith, ap (λ (a : Cell). a.column) c.cell_of-a.ensures, inside)

pub returns : goal.returns
returns c = let b = c.before.before.before.before.before in
    place_at b.args.y b.requires.0 b.args.s b.requires.1 _ b.args.g b.args.u _ _ c.permutation.ensures c.cell_of-a.ensures c.place_at.ensures
