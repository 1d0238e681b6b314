-- A group's bytes in one buffer, unit after unit: what encoding and rebuilding make of the whole buffer.
use Rattle.std.specs.Prelude.{Bool, List, ℕ, ◌+◌, ◌*◌, ◌/◌, ◌%◌, length, get_or}
use Rattle.lists.specs.Tabulate.{tabulate}
use Rattle.parity.specs.Group.{content, rebuilt}

-- the bytes at one position of the units
abbrev pub column : List ℕ → ℕ → ℕ → ℕ → ℕ
column buf unit at u = get_or buf (u * unit + at) 0

-- the byte at x as the data units give it
unfoldable pub content_byte : ℕ → ℕ → List ℕ → ℕ → ℕ
content_byte n unit buf x = content n (column buf unit (x % unit)) (x / unit)

-- "Encoding .. sets the K parity units from the N data units"
unfoldable pub encoded_of : ℕ → ℕ → List ℕ → List ℕ
encoded_of n unit buf = tabulate (length buf) (content_byte n unit buf)

-- the byte at x of the group with its missing units filled
unfoldable pub rebuilt_byte : ℕ → ℕ → ℕ → (ℕ → Bool) → List ℕ → ℕ → ℕ
rebuilt_byte n k unit miss buf x = rebuilt n k miss (column buf unit (x % unit)) (x / unit)

unfoldable pub rebuilt_of : ℕ → ℕ → ℕ → (ℕ → Bool) → List ℕ → List ℕ
rebuilt_of n k unit miss buf = tabulate (length buf) (rebuilt_byte n k unit miss buf)
