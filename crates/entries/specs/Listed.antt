-- The cobs of a run of records, one after the other.
use Rattle.std.specs.Prelude.{List, ◌++◌, map, length, drop}
use Rattle.entries.specs.declared.Entry.{Entry}
use Rattle.entries.specs.declared.Wide.{Wide}

-- out, with the cobs of the records in its first places
abbrev pub listed : List Entry → List Wide → List Wide
listed rs out = map (λ (r : Entry). r.cob) rs ++ drop (length rs) out
