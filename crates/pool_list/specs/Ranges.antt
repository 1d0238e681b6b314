-- A list of writes in one call. "Take a list of up to 64 ranges and one buffer with their bytes in order. The end state equals writing them one after
-- the other." A range is the pair of its offset and its length.
use Rattle.std.specs.Prelude.{◌≡◌, Bool, not, List, [], ◌∷◌, ℕ, zero, suc, eqb, leb, length, get_or}
use Rattle.lists.specs.Pick.{pick, both}
use Rattle.lists.specs.Count.{sum}
use Rattle.lists.specs.Search.{all, lowest}
use Rattle.lists.specs.Tabulate.{at}
use Rattle.lists.specs.Refusal.{refusal_by, grant}
use Rattle.numbers.specs.declared.Layout.{Layout}
use Rattle.homes.specs.declared.Record.{Record}
use Rattle.pool.specs.Refusals.{pool_tests, range_tests}
use Rattle.pool.specs.Writing.{write_image}
use Rattle.pool.specs.Files.{part, written}

-- range i, here counted from 0, is the `range_size rs i` bytes of the file from `range_offset rs i` on
abbrev pub range_offset : List (List ℕ) → ℕ → ℕ
range_offset rs i = at (get_or rs i []) 0

abbrev pub range_size : List (List ℕ) → ℕ → ℕ
range_size rs i = at (get_or rs i []) 1

-- "one buffer with their bytes in order": those of range i
abbrev pub range_bytes : List (List ℕ) → List ℕ → ℕ → List ℕ
range_bytes rs bytes i = part bytes (sum (range_size rs) i) (range_size rs i)

-- range i is not outside: a write of it alone passes the tests of its range
abbrev pub inside_alone : Layout → List (List ℕ) → ℕ → Bool
inside_alone y rs i = eqb (refusal_by (range_tests y (range_offset rs i) (range_size rs i))) 0

-- "more than 64 ranges is 4"; "If any range alone would be refused", that is 4 too; "A buffer whose length isn't the sum of the lengths is 5".
-- `room` is the buffer's length
abbrev pub list_tests : Layout → List (List ℕ) → ℕ → List (Bool × ℕ)
list_tests y rs room = (leb (length rs) 64, 4) ∷ (all (inside_alone y rs) (length rs), 4) ∷ (eqb room (sum (range_size rs) (length rs)), 5) ∷ []

unfoldable pub list_refusal : Layout → Record → ℕ → List (List ℕ) → ℕ → ℕ
list_refusal y R len rs room = refusal_by (pool_tests y R len (list_tests y rs room))

-- "the first range that earns it"; "Ranges count from 1; for numbers 1, 2, 3, 5 and for too many ranges the range given is 0"
unfoldable pub list_range : Layout → Record → ℕ → List (List ℕ) → ℕ → ℕ
list_range y R len rs room =
    pick (both (leb (length rs) 64) (eqb (list_refusal y R len rs room) 4)) (suc (lowest (λ i. not (inside_alone y rs i)) (length rs))) 0

-- "writing them one after the other": the image after the first i ranges
unfoldable pub after_ranges : Layout → Record → List ℕ → List (List ℕ) → List ℕ → ℕ → List ℕ
after_ranges y R img rs bytes zero = img
after_ranges y R img rs bytes (suc i) = write_image y R (after_ranges y R img rs bytes i) (range_offset rs i) (range_bytes rs bytes i)

-- the image afterwards; "nothing is written" where the list is refused
unfoldable pub list_image : Layout → Record → List ℕ → List (List ℕ) → List ℕ → List ℕ
list_image y R img rs bytes = grant (list_refusal y R (length img) rs (length bytes)) (after_ranges y R img rs bytes (length rs)) img

-- the file with the first i ranges laid on in order
unfoldable pub laid_ranges : List ℕ → List (List ℕ) → List ℕ → ℕ → List ℕ
laid_ranges file rs bytes zero = file
laid_ranges file rs bytes (suc i) = written (laid_ranges file rs bytes i) (range_offset rs i) (range_bytes rs bytes i)

-- the call's promise: n is the refusal number. Ranges and buffer are only read
pub record WritesList (y : Layout) (R : Record) (img : List ℕ) (rs : List (List ℕ)) (bytes : List ℕ) (n range : ℕ) (img' : List ℕ) : Type 0 where
  pub answer : n ≡ list_refusal y R (length img) rs (length bytes)
  pub first : range ≡ list_range y R (length img) rs (length bytes)
  pub image : img' ≡ list_image y R img rs bytes
