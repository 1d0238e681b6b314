-- The calls that answer a unit's place and the unit at a place.
use Rattle.std.specs.Prelude.{[], ◌∷◌, ℕ, ltb}
use Rattle.lists.specs.Refusal.{refusal_by, grant}
use Rattle.numbers.specs.declared.Layout.{Layout}
use Rattle.numbers.specs.Layouts.{width, frames, all_groups}
use Rattle.numbers.specs.Refused.{validb}
use Rattle.place.specs.Places.{place_of, unit_of}
use Rattle.place.specs.Bytes.{spot}
use Rattle.layout.specs.declared.Placed.{Placed}
use Rattle.layout.specs.declared.Held.{Held}

unfoldable pub place_refusal : Layout → ℕ → ℕ → ℕ
place_refusal y group unit = refusal_by ((validb y, 1) ∷ (ltb group (all_groups y), 4) ∷ (ltb unit (width y), 4) ∷ [])

-- the frame and target of a unit, and where the unit begins in the image
unfoldable pub placed_of : Layout → ℕ → ℕ → Placed
placed_of y group unit =
    grant (place_refusal y group unit)
    (record { refusal = 0; frame = (place_of y group unit).frame; target = (place_of y group unit).target; begins = spot y group unit 0 })
    (record { refusal = place_refusal y group unit; frame = 0; target = 0; begins = 0 })

unfoldable pub unit_refusal : Layout → ℕ → ℕ → ℕ
unit_refusal y frame target = refusal_by ((validb y, 1) ∷ (ltb frame (frames y), 4) ∷ (ltb target y.p, 4) ∷ [])

unfoldable pub held_of : Layout → ℕ → ℕ → Held
held_of y frame target =
    grant (unit_refusal y frame target)
    (record { refusal = 0; group = (unit_of y frame target).group; unit = (unit_of y frame target).unit })
    (record { refusal = unit_refusal y frame target; group = 0; unit = 0 })
