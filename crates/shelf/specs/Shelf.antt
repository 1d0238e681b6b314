-- The slots after a change, with its answer, and the output of a listing, with its answer.
use Rattle.std.specs.Prelude.{List}
use Rattle.entries.specs.declared.Wide.{Wide}
use Rattle.entries.specs.declared.Entry.{Entry}
use Rattle.entries.specs.declared.Changed.{Changed}
use Rattle.entries.specs.declared.Page.{Page}
use Rattle.shelf.specs.declared.Shelf.{Shelf}
use Rattle.shelf.specs.declared.Sheet.{Sheet}

abbrev pub shelf_of : List Entry → Changed → Shelf
shelf_of a c = record { slots = a; refusal = c.refusal; count = c.count }

abbrev pub sheet_of : List Wide → Page → Sheet
sheet_of out p = record { out = out; refusal = p.refusal; count = p.count; more = p.more; next = p.next }
