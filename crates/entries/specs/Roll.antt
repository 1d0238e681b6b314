-- A run over records that stores, at each place, the record of the place before it, upwards or downwards.
use Rattle.std.specs.Prelude.{ℕ, suc, ◌-◌, ◌≤◌, ◌<◌, ⊤, List, ◌∷◌, ◌++◌, take, drop, Result, Ok, Err}
use Rattle.lists.specs.declared.Refusal.{Refusal}
use Rattle.entries.specs.declared.Entry.{Entry}
use Rattle.entries.specs.declared.Plan.{Plan}
use Rattle.entries.specs.declared.Way.{Way}
use Rattle.entries.specs.declared.Way.TheVariants.{Up, Down}

-- the list after a run over the places from `from` up to `end`, with c in the place that is left
abbrev pub rolled : Way → ℕ → ℕ → Entry → List Entry → List Entry
rolled Up from end c ys = take from ys ++ c ∷ (take (end - from - 1) (drop from ys) ++ drop end ys)
rolled Down from end c ys = take from ys ++ (take (end - from - 1) (drop (suc from) ys) ++ c ∷ drop end ys)

-- what a change leaves of the slots
abbrev pub rolled_by : Result Plan Refusal → List Entry → List Entry
rolled_by (Ok w) ys = rolled w.way w.from w.end w.first ys
rolled_by (Err e) ys = ys

-- the run has a place, and lies within n records
abbrev pub IsInside : Plan → ℕ → Type 0
IsInside w n = (w.from < w.end) × (w.end ≤ n)

abbrev pub AnyInside : Result Plan Refusal → ℕ → Type 0
AnyInside (Ok w) n = IsInside w n
AnyInside (Err e) n = ⊤
