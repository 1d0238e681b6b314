-- Units of a group copied from one list of bytes to another, and moved within an image: those that begin elsewhere afterwards are taken up into rooms of a
-- scratch before any is put down.
use Rattle.std.specs.Prelude.{◌≡◌, Bool, false, not, List, ℕ, ◌+◌, ◌*◌, ◌≤◌, ◌<◌, eqb, get_or}
use Rattle.lists.specs.Count.{count}
use Rattle.runs.specs.Run.{paint}
use Rattle.runs.specs.Held.{run_of}
use Rattle.group_swap.specs.declared.Rooms.{Rooms}

-- the first m units, those that are on, of `len` bytes each, from `src` in `out`
unfoldable pub units_copied : List Bool → List ℕ → List ℕ → ℕ → List ℕ → ℕ → List ℕ → List ℕ
units_copied on from to len src m out = paint (λ c. get_or on c false) (λ c. get_or to c 0) len (λ c. run_of src (get_or from c 0)) m out

-- content c begins elsewhere afterwards
unfoldable pub start_moves : List ℕ → List ℕ → ℕ → Bool
start_moves from to c = not (eqb (get_or from c 0) (get_or to c 0))

-- where in the scratch it is kept: as many contents before it move
unfoldable pub room_of : List ℕ → List ℕ → ℕ → ℕ
room_of from to c = count (start_moves from to) c * 4096

pub record RoomsAre (from to : List ℕ) (m : ℕ) (x : Rooms) : Type 0 where
  pub moves_are : (c : ℕ) → c < m → get_or x.moves c false ≡ start_moves from to c
  pub at_are : (c : ℕ) → c < m → get_or x.at c 0 ≡ room_of from to c

-- the first m contents, those that move, with the bytes that stood in the image that was lent
unfoldable pub units_moved : List ℕ → List ℕ → ℕ → ℕ → List ℕ → List ℕ
units_moved from to len m img = paint (start_moves from to) (λ c. get_or to c 0) len (λ c. run_of img (get_or from c 0)) m img

-- what is asked: units of an image of `size` bytes, of which no more than three move
pub record Movable (from to : List ℕ) (m len size : ℕ) : Type 0 where
  pub few-contents : m ≤ 19
  pub few_bytes : len ≤ 4096
  pub few-move : count (start_moves from to) m ≤ 3
  pub from_in : (c : ℕ) → c < m → get_or from c 0 + len ≤ size
  pub to_in : (c : ℕ) → c < m → get_or to c 0 + len ≤ size
