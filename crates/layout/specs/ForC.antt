-- The answers as C has them: one struct, with the refusal's number, and zeros where refused.
use Rattle.std.specs.Prelude.{false, true, List, ℕ, Result, Ok, Err, Option, Some, None}
use Rattle.lists.specs.declared.Refusal.{Refusal}
use Rattle.lists.specs.Numbered.{refusal_number}
use Rattle.lists.specs.Tabulate.{zeros}
use Rattle.numbers.specs.declared.Numbers.{Numbers}
use Rattle.place.specs.declared.Unit.{Unit}
use Rattle.layout.specs.declared.Measured.{Measured}
use Rattle.layout.specs.declared.Entries.{Entries}
use Rattle.layout.specs.declared.Placed.{Placed}
use Rattle.layout.specs.declared.Held.{Held}
use Rattle.layout.specs.declared.Mapped.{Mapped}
use Rattle.layout.specs.declared.Traced.{Traced}
use Rattle.layout.specs.declared.UnitPlace.{UnitPlace}
use Rattle.layout.specs.declared.OffsetSpot.{OffsetSpot}
use Rattle.layout.specs.declared.ImageSpot.{ImageSpot}
use Rattle.layout.specs.Measure.{no_numbers}

abbrev pub measured_by : Result Numbers Refusal → Measured
measured_by (Ok x) = record { refusal = 0; numbers = x }
measured_by (Err e) = record { refusal = refusal_number e; numbers = no_numbers }

abbrev pub entries_by : Result (List ℕ) Refusal → Entries
entries_by (Ok l) = record { refusal = 0; entries = l }
entries_by (Err e) = record { refusal = refusal_number e; entries = zeros 64 }

abbrev pub placed_by : Result UnitPlace Refusal → Placed
placed_by (Ok a) = record { refusal = 0; frame = a.place.frame; target = a.place.target; begins = a.begins }
placed_by (Err e) = record { refusal = refusal_number e; frame = 0; target = 0; begins = 0 }

abbrev pub held_by : Result Unit Refusal → Held
held_by (Ok u) = record { refusal = 0; group = u.group; unit = u.unit }
held_by (Err e) = record { refusal = refusal_number e; group = 0; unit = 0 }

abbrev pub mapped_by : Result OffsetSpot Refusal → Mapped
mapped_by (Ok a) = record { refusal = 0; group = a.held.group; unit = a.held.unit; byte = a.byte; image = a.image }
mapped_by (Err e) = record { refusal = refusal_number e; group = 0; unit = 0; byte = 0; image = 0 }

-- of a byte of the image: the file offset, where it has one
abbrev traced_at : Unit → ℕ → Option ℕ → Traced
traced_at u o (Some x) = record { refusal = 0; group = u.group; unit = u.unit; byte = o; is_data = true; offset = x }
traced_at u o None = record { refusal = 0; group = u.group; unit = u.unit; byte = o; is_data = false; offset = 0 }

abbrev pub traced_by : Result ImageSpot Refusal → Traced
traced_by (Ok a) = traced_at a.held a.byte a.offset
traced_by (Err e) = record { refusal = refusal_number e; group = 0; unit = 0; byte = 0; is_data = false; offset = 0 }
