-- Bytes of the file and bytes of the image.
use Rattle.std.specs.Prelude.{ℕ, ◌+◌, ◌*◌, ◌/◌, ◌%◌}
use Rattle.numbers.specs.declared.Layout.{Layout}
use Rattle.numbers.specs.Layouts.{frames}
use Rattle.place.specs.declared.Place.{Place}
use Rattle.place.specs.declared.Unit.{Unit}
use Rattle.place.specs.Places.{place_of, unit_of}

-- "File offset x: group = x div (N·U), unit = (x mod N·U) div U, the rest is the byte."
unfoldable pub group_of : Layout → ℕ → ℕ
group_of y x = x / (y.n * y.u)

unfoldable pub unit_in : Layout → ℕ → ℕ
unit_in y x = x % (y.n * y.u) / y.u

unfoldable pub byte_in : Layout → ℕ → ℕ
byte_in y x = x % (y.n * y.u) % y.u

-- and back: the file offset of byte o of data unit c of group g
unfoldable pub offset_of : Layout → ℕ → ℕ → ℕ → ℕ
offset_of y g c o = y.n * y.u * g + (y.u * c + o)

-- "Frame r of target p begins at p·L·T·U + r·U.": byte o of a place
unfoldable pub spot_of : Layout → Place → ℕ → ℕ
spot_of y a o = a.target * (frames y * y.u) + a.frame * y.u + o

-- where byte o of unit u of group g stands in the image
abbrev pub spot : Layout → ℕ → ℕ → ℕ → ℕ
spot y g u o = spot_of y (place_of y g u) o

-- the image byte of file offset x while nothing has failed
unfoldable pub image_byte : Layout → ℕ → ℕ
image_byte y x = spot y (group_of y x) (unit_in y x) (byte_in y x)

-- a byte of the image: its target, its frame there, its offset in the frame; and the unit that lies there
unfoldable pub target_here : Layout → ℕ → ℕ
target_here y x = x / (frames y * y.u)

unfoldable pub frame_here : Layout → ℕ → ℕ
frame_here y x = x % (frames y * y.u) / y.u

unfoldable pub offset_here : Layout → ℕ → ℕ
offset_here y x = x % (frames y * y.u) % y.u

unfoldable pub unit_here : Layout → ℕ → Unit
unit_here y x = unit_of y (frame_here y x) (target_here y x)
