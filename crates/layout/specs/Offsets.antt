-- The calls that map a file offset to its image byte, and an image byte back.
use Rattle.std.specs.Prelude.{Bool, false, [], ◌∷◌, ℕ, ltb}
use Rattle.lists.specs.Pick.{pick}
use Rattle.lists.specs.Refusal.{refusal_by, grant}
use Rattle.numbers.specs.declared.Layout.{Layout}
use Rattle.numbers.specs.Layouts.{capacity, image_length}
use Rattle.numbers.specs.Refused.{validb}
use Rattle.place.specs.declared.Unit.{Unit}
use Rattle.place.specs.Bytes.{group_of, unit_in, byte_in, offset_of, image_byte, offset_here, unit_here}
use Rattle.layout.specs.declared.Mapped.{Mapped}
use Rattle.layout.specs.declared.Traced.{Traced}

-- "A single offset to be mapped must be below capacity."
unfoldable pub offset_refusal : Layout → ℕ → ℕ
offset_refusal y x = refusal_by ((validb y, 1) ∷ (ltb x (capacity y), 4) ∷ [])

unfoldable pub mapped_of : Layout → ℕ → Mapped
mapped_of y x =
    grant (offset_refusal y x)
    (record { refusal = 0; group = group_of y x; unit = unit_in y x; byte = byte_in y x; image = image_byte y x })
    (record { refusal = offset_refusal y x; group = 0; unit = 0; byte = 0; image = 0 })

-- "the maps from file offset to place and back"; "the image has exactly P·L·T·U bytes"
unfoldable pub byte_refusal : Layout → ℕ → ℕ
byte_refusal y x = refusal_by ((validb y, 1) ∷ (ltb x (image_length y), 4) ∷ [])

-- "Units of a group: 0..N−1 data": image byte x is a data unit's while nothing has failed
abbrev pub is_data : Layout → ℕ → Bool
is_data y x = ltb (unit_here y x).unit y.n

-- the file offset of byte o of unit a, 0 where that is no data unit
abbrev pub file_offset : Layout → Unit → ℕ → ℕ
file_offset y a o = pick (ltb a.unit y.n) (offset_of y a.group a.unit o) 0

unfoldable pub traced_of : Layout → ℕ → Traced
traced_of y x =
    grant (byte_refusal y x)
    (record {
      refusal = 0;
      group = (unit_here y x).group;
      unit = (unit_here y x).unit;
      byte = offset_here y x;
      is_data = is_data y x;
      offset = file_offset y (unit_here y x) (offset_here y x);
    })
    (record { refusal = byte_refusal y x; group = 0; unit = 0; byte = 0; is_data = false; offset = 0 })
