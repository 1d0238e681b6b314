-- `tile::column_of` meets its contract: every number below 64 stands somewhere in the permutation.
use Rattle.std.proofs.Common.{arith}
use Rattle.tile.specs.Stores.{column-found, column_somewhere}
use Rattle.tile.proofs.column_of.Goals as goal

pub unwrap-requires : goal.unwrap-requires
unwrap-requires c = let p = c.requires in
    grind (arith, column_somewhere c.args.a.now p.1 c.args.t p.2, c.find.ensures.none)

pub returns : goal.returns
returns c = let p = c.requires in
    let found = rw c.unwrap.ensures at c.find.ensures.found in
    column-found c.args.a.now p.1 p.0 c.unwrap.result c.args.t (omega (arith, found)) p.2 found.1
