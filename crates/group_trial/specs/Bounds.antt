-- The bounds of a drawn group, which keep the program's own sums small.
use Rattle.std.specs.Prelude.{◌≤◌}
use Rattle.group_trial.specs.declared.drawn.Group.{Group}

pub record Bounded (g : Group) : Type 0 where
  pub some : 1 ≤ g.n
  pub units : g.n ≤ 16
  pub parity : g.k ≤ 3
  pub bytes : g.u ≤ 4096
