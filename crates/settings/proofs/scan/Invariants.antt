use Prim.Native.Nat.{◌-◌}
use lib.ListN.{length}
use Rattle.settings.specs.ScanLaws.{ScannedTo}
use Rattle.settings.proofs.scan.Given as goal

abbrev pub invariant-loop-from : goal.invariant-loop-from
invariant-loop-from l = ScannedTo l.text l.line l.newest l.from

abbrev pub decreases-loop-from : goal.decreases-loop-from
decreases-loop-from l = length l.text - l.from
