-- What a repair hands back: where refused, that it stored nothing, and the record r that it was given.
use Rattle.std.specs.Prelude.{ℕ, Result, Ok, Err}
use Rattle.lists.specs.declared.Refusal.{Refusal}
use Rattle.homes.specs.declared.Record.{Record}
use Rattle.pool_repair.specs.declared.Mended.{Mended}

abbrev pub count_of : Result Mended Refusal → ℕ
count_of (Ok done) = done.count
count_of (Err refusal) = 0

abbrev pub rec_of : Result Mended Refusal → Record → Record
rec_of (Ok done) r = done.rec
rec_of (Err refusal) r = r
