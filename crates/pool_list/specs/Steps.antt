-- What the loops of the call go by: each range's part of the buffer, and one range more.
use Rattle.std.specs.Prelude.{◌≡◌, List, length}
use Prim.Native.Nat.{ℕ, suc, ◌+◌, ◌≤◌, ◌<◌}
use Rattle.lists.specs.Count.{sum, sum_mono}
use Rattle.lists.specs.Tabulate.{length-tabulate}
use Rattle.pool_list.specs.Ranges.{range_size, range_bytes}

-- ---- the parts of the buffer

-- the part of range i ends within the buffer
pub range_in_buffer : (rs : List (List ℕ)) (i : ℕ) → i < length rs → sum (range_size rs) i + range_size rs i ≤ sum (range_size rs) (length rs)
unfolding sum
range_in_buffer rs i h = sum_mono (range_size rs) (suc i) (length rs) h

pub bytes_length : (rs : List (List ℕ)) (bytes : List ℕ) (i : ℕ) → length (range_bytes rs bytes i) ≡ range_size rs i
bytes_length rs bytes i = length-tabulate (range_size rs i) _

-- ---- one range more
