-- "A walk over one target hands its cursor back after each frame, with the group and unit lying there, frames rising. At frame L·T it says
-- done; a cursor beyond that is 4. Done or refused, the cursor comes back unchanged."
use Rattle.std.specs.Prelude.{Bool, true, false, [], ◌∷◌, ℕ, ◌+◌, ltb, leb}
use Rattle.lists.specs.Pick.{pick}
use Rattle.lists.specs.Refusal.{refusal_by, grant}
use Rattle.numbers.specs.declared.Layout.{Layout}
use Rattle.numbers.specs.Layouts.{frames}
use Rattle.numbers.specs.Refused.{validb}
use Rattle.place.specs.declared.Unit.{Unit}
use Rattle.place.specs.Places.{unit_of}
use Rattle.layout.specs.declared.Cursor.{Cursor}
use Rattle.layout.specs.declared.Step.{Step}
use Rattle.layout.specs.declared.Step.TheVariants.{At, Done, Refused}

unfoldable pub walk_refusal : Layout → Cursor → ℕ
walk_refusal y w = refusal_by ((validb y, 1) ∷ (ltb w.target y.p, 4) ∷ (leb w.frame (frames y), 4) ∷ [])

unfoldable pub step_of : Layout → Cursor → Step
step_of y w =
    grant (walk_refusal y w)
    (pick (ltb w.frame (frames y)) (At (unit_of y w.frame w.target) (record { target = w.target; frame = w.frame + 1 })) (Done w))
    (Refused (walk_refusal y w) w)

-- document 01's number, unit and cursor for every case of the answer, and whether it "says done"
abbrev pub number_of : Step → ℕ
number_of (At u w) = 0
number_of (Done w) = 0
number_of (Refused n w) = n

abbrev pub says_done : Step → Bool
says_done (At u w) = false
says_done (Done w) = true
says_done (Refused n w) = false

abbrev pub unit_found : Step → Unit
unit_found (At u w) = u
unit_found (Done w) = record { group = 0; unit = 0 }
unit_found (Refused n w) = record { group = 0; unit = 0 }

abbrev pub cursor_back : Step → Cursor
cursor_back (At u w) = w
cursor_back (Done w) = w
cursor_back (Refused n w) = w
