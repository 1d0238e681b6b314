-- What a line of a trace tells: an event, or nothing. "A malformed line prints number 13".
use Rattle.std.proofs.Common.{sym, subst}
use Rattle.std.specs.Prelude.{List, ℕ, ◌+◌, ◌*◌, ◌<◌, eqb, length}
use Rattle.lists.specs.Pick.{pick}
use Rattle.lists.specs.Tabulate.{at, get_d_tabulate, length-tabulate}
use Rattle.hex_text.specs.Digit.{number_at}
use Rattle.hex_text.specs.Line.{byte_at}
use Rattle.hex_text.specs.DigitLaws.{told-lt}
use Rattle.trace.specs.Forms.{byte_count, kind_of, bytes_of}

-- the bytes of a write are bytes, whatever the line is
pub bytes_small : (line : List ℕ) (j : ℕ) → j < length (bytes_of line) → at (bytes_of line) j < 256
unfolding bytes_of
bytes_small line j h =
    let b : j < byte_count line = subst (λ (n : ℕ). j < n) (length-tabulate (byte_count line) (λ i. byte_at line (20 + 2 * i))) h in
    subst (λ (x : ℕ). x < 256) (sym (get_d_tabulate (byte_count line) (λ i. byte_at line (20 + 2 * i)) j 0 b)) (told-lt (at line (20 + 2 * j)) (at line (20 + 2 * j + 1)))

pub data Told : Type 0 where
  malformed : Told
  told_write : (offset : ℕ) (bytes : List ℕ) → ((i : ℕ) → i < length bytes → at bytes i < 256) → Told
  told_fail : (target : ℕ) → Told
  told_repair : Told
  told_read : (offset size : ℕ) → Told

-- a line of each kind, 0 and every other number being no kind
unfoldable pub told_as : ℕ → List ℕ → Told
told_as kind line =
    pick (eqb kind 1) (told_write (number_at line 3 16) (bytes_of line) (bytes_small line))
    (pick (eqb kind 2) (told_fail (number_at line 3 2))
    (pick (eqb kind 3) told_repair
    (pick (eqb kind 4) (told_read (number_at line 3 16) (number_at line 20 16)) malformed)))

unfoldable pub told_of : List ℕ → Told
told_of line = told_as (kind_of line) line
