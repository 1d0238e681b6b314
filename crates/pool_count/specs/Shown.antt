-- What the panel shows: zeros where the call is refused.
use Rattle.std.specs.Prelude.{Result, Ok, Err}
use Rattle.lists.specs.declared.Refusal.{Refusal}
use Rattle.pool_count.specs.declared.PanelCounts.{PanelCounts}

abbrev pub panel_of : Result PanelCounts Refusal → PanelCounts
panel_of (Ok shown) = shown
panel_of (Err refusal) = record { waiting = 0; failed = 0; repaired = 0 }
