-- The first i cobs are listed.
use Rattle.std.proofs.Common.{◌≡◌, ◌++◌, take, drop}
use Rattle.std.specs.Prelude.{map}
use Rattle.entries.specs.declared.Entry.{Entry}
use Rattle.catalogue.proofs.list.Given as goal

abbrev pub invariant-loop-i : goal.invariant-loop-i
invariant-loop-i l = l.out ≡ take l.i (map (λ (r : Entry). r.cob) l.records) ++ drop l.i l.fn.out
