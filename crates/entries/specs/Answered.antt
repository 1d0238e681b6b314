-- The answers of the calls, as the numbers and values that the documents and C know.
use Rattle.std.specs.Prelude.{ℕ, true, false, Option, Some, None, Result, Ok, Err}
use Rattle.lists.specs.declared.Refusal.{Refusal}
use Rattle.lists.specs.Numbered.{refusal_number}
use Rattle.entries.specs.declared.Wide.{Wide}
use Rattle.entries.specs.declared.Found.{Found}
use Rattle.entries.specs.declared.Changed.{Changed}
use Rattle.entries.specs.declared.Listed.{Listed}
use Rattle.entries.specs.declared.Page.{Page}
use Rattle.entries.specs.Wide.{nought}

abbrev pub found_of : Result Wide Refusal → Found
found_of (Ok c) = record { refusal = 0; cob = c }
found_of (Err e) = record { refusal = refusal_number e; cob = nought }

-- n: the count that the call was given
abbrev pub changed_of : ℕ → Result ℕ Refusal → Changed
changed_of n (Ok count) = record { refusal = 0; count = count }
changed_of n (Err e) = record { refusal = refusal_number e; count = n }

abbrev pub listed_page : ℕ → Option Wide → Page
listed_page count (Some w) = record { refusal = 0; count = count; more = true; next = w }
listed_page count None = record { refusal = 0; count = count; more = false; next = nought }

abbrev pub page_of : Result Listed Refusal → Page
page_of (Ok p) = listed_page p.count p.next
page_of (Err e) = record { refusal = refusal_number e; count = 0; more = false; next = nought }
