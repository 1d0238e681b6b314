-- Lists of writes on document 01's small pool, a file of 16 bytes in an image of 48, computed by the checker: numbers and ranges answered, and the file
-- that overlapping ranges leave.
use Rattle.std.specs.Prelude.{◌≡◌, refl, List, [], ◌∷◌, ℕ}
use Rattle.lists.specs.Part.{within}
use Rattle.lists.specs.Count.{sum}
use Rattle.lists.specs.Search.{any, all, lowest}
use Rattle.lists.specs.Tabulate.{tabulate, zeros}
use Rattle.lists.specs.Refusal.{◌or_else◌, refusal_by}
use Rattle.numbers.specs.Gcd.{gcd, gcd_in, lcm}
use Rattle.numbers.specs.Layouts.{block, rows, groups}
use Rattle.numbers.specs.Refused.{validb}
use Rattle.homes.specs.declared.Record.{Record}
use Rattle.homes.specs.Listed.{listed}
use Rattle.homes.specs.Records.{record_good}
use Rattle.pool.specs.Files.{written}
use Rattle.pool_list.specs.Ranges.{list_refusal, list_range, laid_ranges}
use Rattle.promises.specs.Examples.{layout, small, none}

-- one entry in a list of failed targets of which two are said to be repaired
abbrev bad : Record
bad = record { failed = 3 ∷ 0 ∷ 0 ∷ []; k = 1; q = 2; waiting = 0 }

-- the number and the range that a list is answered with, over an image of `len` bytes and with a buffer of `room`
abbrev answer : Record → ℕ → List (List ℕ) → ℕ → List ℕ
answer R len rs room = list_refusal small R len rs room ∷ list_range small R len rs room ∷ []

abbrev whole_file : List (List ℕ)
whole_file = (0 ∷ 8 ∷ []) ∷ (8 ∷ 4 ∷ []) ∷ (12 ∷ 4 ∷ []) ∷ []

-- `count` ranges of no bytes at the end of the file
abbrev ends : ℕ → List (List ℕ)
ends count = tabulate count (λ i. 16 ∷ 0 ∷ [])

pub list_examples :
    (answer none 48 whole_file 16 ≡ 0 ∷ 0 ∷ [])
    × (answer none 48 [] 0 ≡ 0 ∷ 0 ∷ [])
    × (answer none 48 (ends 64) 0 ≡ 0 ∷ 0 ∷ [])
    -- too many, also where one is outside; a byte too few and too many in the buffer
    × (answer none 48 (ends 65) 0 ≡ 4 ∷ 0 ∷ [])
    × (answer none 48 ((17 ∷ 0 ∷ []) ∷ ends 64) 0 ≡ 4 ∷ 0 ∷ [])
    × (answer none 48 whole_file 15 ≡ 5 ∷ 0 ∷ [])
    × (answer none 48 whole_file 17 ≡ 5 ∷ 0 ∷ [])
    × (answer none 48 [] 1 ≡ 5 ∷ 0 ∷ [])
    -- the first range is outside; the second range is outside, and the third; the buffer is wrong as well; a length that wraps a sum of 64 bits
    × (answer none 48 ((17 ∷ 0 ∷ []) ∷ []) 0 ≡ 4 ∷ 1 ∷ [])
    × (answer none 48 ((0 ∷ 8 ∷ []) ∷ (13 ∷ 4 ∷ []) ∷ (17 ∷ 0 ∷ []) ∷ []) 12 ≡ 4 ∷ 2 ∷ [])
    × (answer none 48 ((0 ∷ 8 ∷ []) ∷ (13 ∷ 4 ∷ []) ∷ []) 3 ≡ 4 ∷ 2 ∷ [])
    × (answer none 48 ((0 ∷ 8 ∷ []) ∷ (8 ∷ 18446744073709551615 ∷ []) ∷ []) 7 ≡ 4 ∷ 2 ∷ [])
    -- layout, image length and record come first
    × (list_refusal (layout 1 1 2 4 1 0) none 48 ((17 ∷ 0 ∷ []) ∷ []) 0 ∷ list_range (layout 1 1 2 4 1 0) none 48 ((17 ∷ 0 ∷ []) ∷ []) 0 ∷ [] ≡ 1 ∷ 0 ∷ [])
    × (answer none 47 ((17 ∷ 0 ∷ []) ∷ []) 0 ≡ 2 ∷ 0 ∷ [])
    × (answer bad 48 ((17 ∷ 0 ∷ []) ∷ []) 0 ≡ 3 ∷ 0 ∷ [])
    -- "where they overlap, the later wins"
    × (laid_ranges (zeros 16) ((1 ∷ 4 ∷ []) ∷ (3 ∷ 4 ∷ []) ∷ (2 ∷ 2 ∷ []) ∷ []) (11 ∷ 12 ∷ 13 ∷ 14 ∷ 21 ∷ 22 ∷ 23 ∷ 24 ∷ 31 ∷ 32 ∷ []) 3
    ≡ 0 ∷ 11 ∷ 31 ∷ 32 ∷ 22 ∷ 23 ∷ 24 ∷ 0 ∷ 0 ∷ 0 ∷ 0 ∷ 0 ∷ 0 ∷ 0 ∷ 0 ∷ 0 ∷ [])
unfolding within sum any all lowest tabulate ◌or_else◌ refusal_by gcd gcd_in lcm block rows groups validb listed record_good written list_refusal list_range laid_ranges
list_examples = (refl, refl, refl, refl, refl, refl, refl, refl, refl, refl, refl, refl, refl, refl, refl, refl)
