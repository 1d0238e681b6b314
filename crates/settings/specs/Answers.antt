-- The calls' answers as C has them.
use Rattle.std.specs.Prelude.{ℕ, Result, Ok, Err}
use Rattle.std.specs.Result.{result_unwrap_or}
use Rattle.lists.specs.declared.Refusal.{Refusal}
use Rattle.lists.specs.Numbered.{refusal_number, answer_number}
use Rattle.numbers.specs.declared.Layout.{Layout}
use Rattle.settings.specs.declared.Added.{Added}
use Rattle.settings.specs.declared.Settings.{Settings}
use Rattle.settings.specs.declared.Unread.{Unread}
use Rattle.settings.specs.declared.Unread.TheVariants.{Refused, Malformed}
use Rattle.settings.specs.Scan.{refused_with}

-- refused, the used length is as it was given
abbrev pub added_by : ℕ → Result ℕ Refusal → Added
added_by used answer = record { refusal = answer_number answer; used = result_unwrap_or answer used }

abbrev pub settings_by : Result Layout Unread → Settings
settings_by (Ok y) = record { refusal = 0; line = 0; layout = y }
settings_by (Err (Refused e)) = refused_with (refusal_number e) 0
settings_by (Err (Malformed line)) = refused_with 12 line
