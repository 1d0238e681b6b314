-- `parity::Group::gone`. There are at most three.
use Rattle.std.proofs.Common.{arith}
use Rattle.parity.specs.Matrix.{flag}
use Rattle.parity.specs.Made.{gone_most}
use Rattle.parity.proofs.Group.gone.Goals as goal

pub missing_below-requires : goal.missing_below-requires
missing_below-requires c = let g = c.args.self.now in
    (omega (arith, g.solvable.data_max, g.solvable.parity_max), gone_most g.n g.k (flag g.miss) g.solvable)
