use Rattle.std.proofs.Common.{◌≡◌, ◌-◌}
use Rattle.tile.specs.Generator.{advanced, begin_of}
use Rattle.tile.proofs.Generator.begin.Given as goal

abbrev pub invariant-loop : goal.invariant-loop
invariant-loop l = advanced (l.end - l.counter) l.g.state ≡ begin_of l.edition l.cookie l.tile
