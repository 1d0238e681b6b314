use Rattle.std.proofs.Common.{◌≡◌, ℕ, ◌+◌, ◌<◌, get_or}
use Rattle.place.specs.Places.{cell_of, place_of}
use Rattle.survey.proofs.fill_by_units.Given as goal

abbrev pub invariant-loop-x : goal.invariant-loop-x
invariant-loop-x g l =
    (l.cell ≡ cell_of l.y l.g (l.first + l.x-index)) × ((c : ℕ) → c < l.x-index → (d : _) → goal.F-post g l.f (place_of l.y l.g (l.first + c)) (get_or l.out c d))
