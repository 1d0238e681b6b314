-- The calls' answers as C has them.
use Rattle.std.specs.Prelude.{◌≡◌, List, ℕ, Result, Ok, Err}
use Rattle.lists.specs.declared.Refusal.{Refusal}
use Rattle.lists.specs.Numbered.{refusal_number}
use Rattle.numbers.specs.Refused.{no_layout}
use Rattle.homes.specs.declared.Record.{Record}
use Rattle.replay_line.specs.declared.Beginning.{Beginning}
use Rattle.replay_line.specs.declared.FirstLine.{FirstLine}
use Rattle.replay_line.specs.declared.Event.{Event}
use Rattle.replay_line.specs.declared.Played.{Played}

abbrev pub first_by : Result Beginning Refusal → FirstLine
first_by (Ok told) = record { refusal = 0; layout = told.layout; image = told.image }
first_by (Err e) = record { refusal = refusal_number e; layout = no_layout; image = 0 }

-- refused, the record is the one that was given
abbrev pub played_by : Record → Result Event Refusal → Played
played_by R (Ok event) = record { refusal = 0; length = event.length; rec = event.rec }
played_by R (Err e) = record { refusal = refusal_number e; length = 0; rec = R }
