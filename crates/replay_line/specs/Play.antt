-- One line of a trace played. "The program runs the events from a zero pool and prints each answer. .. A malformed line prints number 13 and the run
-- goes on with the next line; a refused event leaves the pool as the table says."
use Rattle.std.specs.Prelude.{◌≡◌, Bool, List, [], ◌∷◌, ◌++◌, ℕ, ◌+◌, ◌*◌, leb, length, drop}
use Rattle.lists.specs.Refusal.{refusal_by, grant}
use Rattle.lists.specs.Tabulate.{zeros}
use Rattle.numbers.specs.declared.Layout.{Layout}
use Rattle.homes.specs.declared.Record.{Record}
use Rattle.hex_text.specs.Hex.{hex_of}
use Rattle.pool.specs.Refusals.{range_refusal, fail_refusal, repair_refusal}
use Rattle.pool.specs.Reading.{read_out}
use Rattle.pool.specs.Writing.{write_image}
use Rattle.pool.specs.Failing.{fail_record}
use Rattle.pool.specs.Repairing.{repair_image, repair_record, repair_count}
use Rattle.trace.specs.Told.{Told, malformed, told_write, told_fail, told_repair, told_read, told_of}
use Rattle.answers.specs.Decimal.{decimal, printed}
use Rattle.replay_line.specs.declared.Played.{Played}

-- ---- what a line leaves, accepted or refused: the record and the image

unfoldable pub played_record : Layout → Record → List ℕ → Told → Record
played_record y R img malformed = R
played_record y R img (told_write offset bytes ok) = R
played_record y R img (told_fail target) = fail_record y R (length img) target
played_record y R img told_repair = repair_record y R (length img)
played_record y R img (told_read offset size) = R

unfoldable pub played_image : Layout → Record → List ℕ → Told → List ℕ
played_image y R img malformed = img
played_image y R img (told_write offset bytes ok) = write_image y R img offset bytes
played_image y R img (told_fail target) = img
played_image y R img told_repair = repair_image y R img
played_image y R img (told_read offset size) = img

-- ---- what it prints: the call's number; for an accepted read a space and its bytes in hex, for an accepted repair a space and how many pairs were missing

unfoldable pub answer_of : Layout → Record → List ℕ → Told → List ℕ
answer_of y R img malformed = printed 13 []
answer_of y R img (told_write offset bytes ok) = printed (range_refusal y R (length img) offset (length bytes)) []
answer_of y R img (told_fail target) = printed (fail_refusal y R (length img) target) []
answer_of y R img told_repair = printed (repair_refusal y R (length img)) (32 ∷ decimal (repair_count y R (length img)))
answer_of y R img (told_read offset size) = printed (range_refusal y R (length img) offset size) (32 ∷ hex_of (read_out y R img offset size))

-- ---- the call

-- a buffer of this length has room for every answer that a pool with an image of len bytes can give
abbrev pub roomy : ℕ → ℕ → Bool
roomy len room = leb (24 + 2 * len) room

-- 5 "buffer length wrong"; else the line is played, whatever it is
unfoldable pub play_refusal : ℕ → ℕ → ℕ
play_refusal len room = refusal_by ((roomy len room, 5) ∷ [])

-- the answer at the beginning of the buffer, the rest of which stays
abbrev pub laid_first : List ℕ → List ℕ → List ℕ
laid_first text old = text ++ drop (length text) old

-- `x` is what the call answers; the buffer was `old` and is `new`. Refused, it is zeros, and nothing else changes
pub record Plays (y : Layout) (R : Record) (img line old : List ℕ) (x : Played) (img' new : List ℕ) : Type 0 where
  pub answer : x.refusal ≡ play_refusal (length img) (length old)
  pub long : x.length ≡ grant (play_refusal (length img) (length old)) (length (answer_of y R img (told_of line))) 0
  pub text : new ≡ grant (play_refusal (length img) (length old)) (laid_first (answer_of y R img (told_of line)) old) (zeros (length old))
  pub rec : x.rec ≡ grant (play_refusal (length img) (length old)) (played_record y R img (told_of line)) R
  pub image : img' ≡ grant (play_refusal (length img) (length old)) (played_image y R img (told_of line)) img
