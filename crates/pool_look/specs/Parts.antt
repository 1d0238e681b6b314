-- A look's answer as C is handed it: an empty part where it is refused.
use Rattle.std.specs.Prelude.{false, Result, Ok, Err}
use Rattle.lists.specs.declared.Refusal.{Refusal}
use Rattle.lists.specs.Numbered.{refusal_number}
use Rattle.pool_look.specs.declared.Part.{Part}
use Rattle.pool_look.specs.declared.Shown.{Shown}

abbrev pub shown_of : Result Part Refusal → Shown
shown_of (Ok part) = record { refusal = 0; missing = part.missing; begins = part.begins; length = part.length }
shown_of (Err refusal) = record { refusal = refusal_number refusal; missing = false; begins = 0; length = 0 }
