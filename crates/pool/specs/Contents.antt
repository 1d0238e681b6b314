-- What the image holds of a group's contents and of the file. A column is what stands at one unit offset o of the contents c of a group g.
use Rattle.std.specs.Prelude.{List, ℕ}
use Rattle.lists.specs.Tabulate.{at}
use Rattle.numbers.specs.declared.Layout.{Layout}
use Rattle.place.specs.Bytes.{spot, group_of, unit_in, byte_in}
use Rattle.parity.specs.Group.{rebuilt}
use Rattle.homes.specs.declared.Record.{Record}
use Rattle.homes.specs.Missing.{home, missing}

-- where byte o of content c of group g stands in the image: at the content's home under the first q entries
abbrev pub home_spot : Layout → Record → ℕ → ℕ → ℕ → ℕ
home_spot y R g o c = spot y g (home y R R.q g c) o

unfoldable pub stored : Layout → Record → List ℕ → ℕ → ℕ → ℕ → ℕ
stored y R img g o c = at img (home_spot y R g o c)

-- "Reads and writes work with missing contents by rebuilding", from "the N lowest present units"
unfoldable pub content_byte : Layout → Record → List ℕ → ℕ → ℕ → ℕ → ℕ
content_byte y R img g o c = rebuilt y.n y.k (missing y R g) (stored y R img g o) c

-- the byte of the file at offset x
unfoldable pub file_byte : Layout → Record → List ℕ → ℕ → ℕ
file_byte y R img x = content_byte y R img (group_of y x) (byte_in y x) (unit_in y x)
