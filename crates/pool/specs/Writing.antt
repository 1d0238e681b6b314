-- write: "On any image, at each group and unit offset that it touches, a write takes the N old data bytes (missing ones rebuilt), lays its own
-- on them, and stores the named data bytes and all K parity bytes worked out from those N, each where its content is present."
use Rattle.std.specs.Prelude.{Bool, not, List, ℕ, ◌-◌, ltb, length}
use Rattle.lists.specs.Pick.{pick, both}
use Rattle.lists.specs.Part.{within}
use Rattle.lists.specs.Search.{any}
use Rattle.lists.specs.Tabulate.{at}
use Rattle.lists.specs.Refusal.{grant}
use Rattle.numbers.specs.declared.Layout.{Layout}
use Rattle.place.specs.Bytes.{offset_of}
use Rattle.parity.specs.Group.{content}
use Rattle.homes.specs.declared.Record.{Record}
use Rattle.homes.specs.Missing.{missing}
use Rattle.pool.specs.Contents.{content_byte}
use Rattle.pool.specs.Refusals.{range_refusal}
use Rattle.pool.specs.Storing.{storing}

-- byte o of data unit c of group g is one of the `size` bytes of the file from `offset` on
abbrev pub named : Layout → ℕ → ℕ → ℕ → ℕ → ℕ → Bool
named y offset size g o c = within offset size (offset_of y g c o)

-- "at each group and unit offset that it touches"
unfoldable pub touched : Layout → ℕ → ℕ → ℕ → ℕ → Bool
touched y offset size g o = any (λ c. named y offset size g o c) y.n

-- "the named data bytes and all K parity bytes"
unfoldable pub writes : Layout → ℕ → ℕ → ℕ → ℕ → ℕ → Bool
writes y offset size g o c = pick (ltb c y.n) (named y offset size g o c) (touched y offset size g o)

-- "takes the N old data bytes (missing ones rebuilt), lays its own on them"
unfoldable pub laid : Layout → Record → List ℕ → ℕ → List ℕ → ℕ → ℕ → ℕ → ℕ
laid y R img offset bytes g o c = pick (named y offset (length bytes) g o c) (at bytes (offset_of y g c o - offset)) (content_byte y R img g o c)

-- "each where its content is present"
abbrev pub writes_present : Layout → Record → ℕ → ℕ → ℕ → ℕ → ℕ → Bool
writes_present y R offset size g o c = both (not (missing y R g c)) (writes y offset size g o c)

-- "stores the named data bytes and all K parity bytes worked out from those N"
abbrev pub written_image : Layout → Record → List ℕ → ℕ → List ℕ → List ℕ
written_image y R img offset bytes =
    storing y R R.q (writes_present y R offset (length bytes)) (λ g o c. content y.n (laid y R img offset bytes g o) c) img

-- the image afterwards; "any other refused call changes no byte"
unfoldable pub write_image : Layout → Record → List ℕ → ℕ → List ℕ → List ℕ
write_image y R img offset bytes = grant (range_refusal y R (length img) offset (length bytes)) (written_image y R img offset bytes) img
