-- "Given an old image and a second lent image, write the same file in the other edition, all N, K, P, U, T and cookie kept. The old pool may have
-- failures, repaired or not; the new one has an empty list and zero spares."
use Rattle.std.specs.Prelude.{◌≡◌, Bool, List, [], ◌∷◌, ℕ, eqb, leb, length}
use Rattle.lists.specs.Tabulate.{tabulate, zeros}
use Rattle.lists.specs.Refusal.{refusal_by, grant}
use Rattle.numbers.specs.declared.Layout.{Layout}
use Rattle.numbers.specs.Layouts.{all_contents, capacity, image_length}
use Rattle.numbers.specs.Refused.{validb}
use Rattle.numbers.specs.Editions.{other_edition}
use Rattle.homes.specs.declared.Record.{Record}
use Rattle.homes.specs.Records.{record_good}
use Rattle.pool.specs.Contents.{file_byte}
use Rattle.moving.specs.Fresh.{fresh_image}

-- the file that reads of a pool show, whatever its image is
unfoldable pub shown_file : Layout → Record → List ℕ → List ℕ
shown_file y R img = tabulate (capacity y) (file_byte y R img)

-- 1, 2, 3 as every call of the pool, and "The new image has length rule 2 as well": `len` and `room` are the lengths of the old and the new image
abbrev pub move_tests : Layout → Record → ℕ → ℕ → List (Bool × ℕ)
move_tests y R len room =
    (validb y, 1) ∷ (eqb len (image_length y), 2) ∷ (eqb room (image_length y), 2) ∷ (record_good y R, 3) ∷ (leb R.waiting (all_contents y), 3) ∷ []

unfoldable pub move_refusal : Layout → Record → ℕ → ℕ → ℕ
move_refusal y R len room = refusal_by (move_tests y R len room)

-- the new image afterwards; "a refusal leaves it zero"
unfoldable pub move_image : Layout → Record → List ℕ → ℕ → List ℕ
move_image y R img room = grant (move_refusal y R (length img) room) (fresh_image (other_edition y) (shown_file y R img)) (zeros room)

-- the call's promise: the old image is only read, and of the new one nothing is asked but its length, `room`
pub record Moves (y : Layout) (R : Record) (img : List ℕ) (room n : ℕ) (new : List ℕ) : Type 0 where
  pub answer : n ≡ move_refusal y R (length img) room
  pub image : new ≡ move_image y R img room
