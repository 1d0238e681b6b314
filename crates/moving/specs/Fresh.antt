-- A new pool that holds a file: "the new one has an empty list and zero spares".
use Rattle.std.specs.Prelude.{◌≡◌, List, ℕ, ◌≤◌, ◌<◌, ltb, length}
use Rattle.lists.specs.Pick.{pick}
use Rattle.lists.specs.Tabulate.{at, tabulate}
use Rattle.numbers.specs.declared.Layout.{Layout}
use Rattle.numbers.specs.Layouts.{all_groups, contents, image_length}
use Rattle.place.specs.Bytes.{spot, unit_here, offset_here}
use Rattle.parity.specs.Group.{content}
use Rattle.homes.specs.declared.Record.{Record}
use Rattle.pool.specs.Files.{encoded}

-- "an empty list", and nothing missing; `room` are the record's entries, whatever stands in them
abbrev pub unfailed : List ℕ → Record
unfailed room = record { failed = room; k = 0; q = 0; waiting = 0 }

-- byte o of unit u of group g: a content is what encoding the file puts there, a spare is zeros
unfoldable pub fresh_byte : Layout → List ℕ → ℕ → ℕ → ℕ → ℕ
fresh_byte y file g o u = pick (ltb u (contents y)) (encoded y file g o u) 0

-- every byte of the image: which unit lies there, at its own place, and what it holds
unfoldable pub fresh_image : Layout → List ℕ → List ℕ
fresh_image y file = tabulate (image_length y) (λ x. fresh_byte y file (unit_here y x).group (offset_here y x) (unit_here y x).unit)

-- ".. if it had an empty list, zero spares and the parity of its own data", of an image under an empty list
pub record Clean (y : Layout) (img : List ℕ) : Type 0 where
  pub len_is : length img ≡ image_length y
  pub spares : (x : ℕ) → x < image_length y → contents y ≤ (unit_here y x).unit → at img x ≡ 0
  -- byte o of parity unit c of group g, at its own place, is what the group's N data bytes encode to
  pub parity : (g o c : ℕ) → g < all_groups y → o < y.u → y.n ≤ c → c < contents y
      → at img (spot y g c o) ≡ content y.n (λ j. at img (spot y g j o)) c
