-- What the calls make of what they found: a run over the slice, and an answer.
use Rattle.std.specs.Prelude.{◌≡◌, ℕ, ◌+◌, ◌-◌, ◌≤◌, ◌<◌, Bool, true, false, List, ltb, get_or, Option, Some, None, Result, Ok, Err}
use Rattle.std.specs.Option.{is_some}
use Rattle.lists.specs.Pick.{pick}
use Rattle.lists.specs.declared.Refusal.{Refusal}
use Rattle.lists.specs.declared.Refusal.TheVariants.{BadCatalogue, Full, NotThere}
use Rattle.lists.specs.Numbered.{refusal_number}
use Rattle.entries.specs.declared.Entry.{Entry}
use Rattle.entries.specs.declared.Key.{Key}
use Rattle.entries.specs.declared.Look.{Look}
use Rattle.entries.specs.declared.Wide.{Wide}
use Rattle.entries.specs.declared.Plan.{Plan}
use Rattle.entries.specs.declared.Way.TheVariants.{Up, Down}
use Rattle.entries.specs.declared.Show.{Show}
use Rattle.entries.specs.declared.Listed.{Listed}
use Rattle.entries.specs.declared.Changed.{Changed}
use Rattle.entries.specs.Wide.{wide_eq}
use Rattle.entries.specs.Blank.{blank}
use Rattle.entries.specs.Span.{past_count}
use Rattle.entries.specs.Look.{searched, scan_of}

-- a lookup of a key, of the cob that was found
abbrev pub given : Option Wide → Result Wide Refusal
given (Some c) = Ok c
given None = Err NotThere

unfoldable pub answer_of : Look → Result Wide Refusal
answer_of x = pick x.sound (given x.found) (Err BadCatalogue)

-- the key is there, with the cob c
abbrev pub has_cob : Option Wide → Wide → Bool
has_cob (Some w) c = wide_eq w c
has_cob None c = false

-- what is known of the place that was found
abbrev pub IsPlaced : Look → Type 0
IsPlaced x = (x.at ≤ x.n) × (is_some x.found ≡ true → x.at < x.n)

-- s: no refusal 9; f: the key is there; l: a slot is left
abbrev pub insertion_by : ℕ → ℕ → Entry → Bool → Bool → Bool → Result Plan Refusal
insertion_by n at r s f l =
    pick s
    (pick f
    (Ok (record { from = at; end = at + 1; way = Up; first = r; total = n }))
    (pick l (Ok (record { from = at; end = n + 1; way = Up; first = r; total = n + 1 })) (Err Full)))
    (Err BadCatalogue)

unfoldable pub insertion_of : Look → Entry → Result Plan Refusal
insertion_of x r = insertion_by x.n x.at r x.sound (is_some x.found) (ltb x.n x.len)

-- m: the record is there, with device, file and cob
abbrev pub deletion_by : ℕ → ℕ → Bool → Bool → Result Plan Refusal
deletion_by n at s m =
    pick s (pick m (Ok (record { from = at; end = n; way = Down; first = blank; total = n - 1 })) (Err NotThere)) (Err BadCatalogue)

unfoldable pub deletion_of : Look → Entry → Result Plan Refusal
deletion_of x r = deletion_by x.n x.at x.sound (has_cob x.found r.cob)

abbrev pub outcome_of : ℕ → Result Plan Refusal → Changed
outcome_of n (Ok w) = record { refusal = 0; count = w.total }
outcome_of n (Err e) = record { refusal = refusal_number e; count = n }

-- ---- a listing of the records from the place at up to the place end; s: no refusal 9

-- the first record that is left out stands at `after`
abbrev pub shown_by : ℕ → ℕ → ℕ → Bool → Result Show Refusal
shown_by at end room s =
    pick s
    (pick (ltb room (end - at))
    (Ok (record { from = at; count = room; after = Some (at + room) }))
    (Ok (record { from = at; count = end - at; after = None })))
    (Err BadCatalogue)

unfoldable pub shown_of : Look → ℕ → ℕ → Result Show Refusal
shown_of x end room = shown_by x.at end room x.sound

-- where the records of the device end
abbrev pub end_of : Key → ℕ → List Entry → ℕ
end_of key n ys = past_count key true (searched n ys)

abbrev pub window_of : Key → ℕ → ℕ → List Entry → Result Show Refusal
window_of key n room ys = shown_of (scan_of key n ys) (end_of key n ys) room

-- the record at a place, if there is one to be named
abbrev pub record_at : List Entry → Option ℕ → Option Entry
record_at ys (Some i) = Some (get_or ys i blank)
record_at ys None = None

abbrev pub report_of : ℕ → Option Entry → Listed
report_of count (Some r) = record { count = count; next = Some r.file }
report_of count None = record { count = count; next = None }
