-- What demand 3 speaks of: events, the state of a pool, and runs. "Start with a pool of zeros and an empty failure list. Make any run of calls, each
-- given the same layout and the record the last one returned: writes, drive failures up to K, repairs, reads, refused ones of these among them,
-- while others scribble on failed drives only." A list of writes in one call (document 02, order 2), a repair by a proposed plan (order 7) and a swapped drive
-- taken back (order 10) are calls of such a run too. With swaps "the limit K is on drives failed at one time, and the new drive's bytes may be anything before
-- the call": it counts as failed until then, so that what it holds is a scribble.
use Rattle.std.specs.Prelude.{List, [], ◌∷◌, ℕ, suc, ◌<◌, length}
use Rattle.lists.specs.Tabulate.{at, zeros}
use Rattle.lists.specs.Refusal.{refusal_by, grant}
use Rattle.numbers.specs.declared.Layout.{Layout}
use Rattle.numbers.specs.Layouts.{capacity, image_length}
use Rattle.homes.specs.declared.Record.{Record}
use Rattle.pool.specs.Refusals.{range_tests, range_refusal}
use Rattle.pool.specs.Writing.{write_image}
use Rattle.pool.specs.Failing.{fail_record}
use Rattle.pool.specs.Repairing.{repair_image, repair_record}
use Rattle.pool.specs.Files.{written}
use Rattle.pool.specs.Scribbling.{scribbled}
use Rattle.proposal.specs.Running.{plan_image, plan_record}
use Rattle.swapping.specs.Swapping.{swap_image, swap_record}
use Rattle.pool_list.specs.Ranges.{list_tests, list_refusal, list_image, laid_ranges}

-- an event: a call with any arguments (the bytes of a write and of a list are bytes, the buffer of a read and the scratch of a look have any length, a plan
-- is any list of numbers), or others scribbling: `ink x` is what they would put at image byte x. An image lent to be filled is outside the runs: no event
-- fills one from a text (`PoolText`) or by a move to the other edition (`MoveEditions`). Nor is there one for the panel or the audit (`Counts`), for the
-- check of a plan or for our planner (`RepairPlan`), or for the old pool of a move: they hand back no record and change no byte of the image
pub data Event : Type 0 where
  write : (offset : ℕ) (bytes : List ℕ) → ((i : ℕ) → i < length bytes → at bytes i < 256) → Event
  write_list : (ranges : List (List ℕ)) (bytes : List ℕ) → ((i : ℕ) → i < length bytes → at bytes i < 256) → Event
  fail : (target : ℕ) → Event
  repair : Event
  repair_by : (plan : List ℕ) → Event
  swap : (target : ℕ) → Event
  read : (offset size : ℕ) → Event
  look : (room group content : ℕ) → Event
  scribble : (ink : ℕ → ℕ) → Event

-- the record that the last call returned, the image, and the current file
pub record State : Type 0 where
  pub rec : Record
  pub img : List ℕ
  pub file : List ℕ

-- "Start with a pool of zeros and an empty failure list"; `room` are the record's three entries, whatever stands in them
unfoldable pub start : Layout → List ℕ → State
start y room = record { rec = record { failed = room; k = 0; q = 0; waiting = 0 }; img = zeros (image_length y); file = zeros (capacity y) }

-- what an event leaves, accepted or refused. The current file is "zeros, with the accepted writes laid on in order"
unfoldable pub step : Layout → State → Event → State
step y s (write offset bytes ok) =
    record {
      rec = s.rec;
      img = write_image y s.rec s.img offset bytes;
      file = grant (range_refusal y s.rec (length s.img) offset (length bytes)) (written s.file offset bytes) s.file;
    }
step y s (write_list ranges bytes ok) =
    record {
      rec = s.rec;
      img = list_image y s.rec s.img ranges bytes;
      file = grant (list_refusal y s.rec (length s.img) ranges (length bytes)) (laid_ranges s.file ranges bytes (length ranges)) s.file;
    }
step y s (fail target) = record { rec = fail_record y s.rec (length s.img) target; img = s.img; file = s.file }
step y s repair = record { rec = repair_record y s.rec (length s.img); img = repair_image y s.rec s.img; file = s.file }
step y s (repair_by plan) = record { rec = plan_record y s.rec (length s.img) plan; img = plan_image y s.rec plan s.img; file = s.file }
step y s (swap target) = record { rec = swap_record y s.rec (length s.img) target; img = swap_image y s.rec s.img target; file = s.file }
step y s (read offset size) = s
step y s (look room group content) = s
step y s (scribble ink) = record { rec = s.rec; img = scribbled y s.rec s.img ink; file = s.file }

unfoldable pub run : Layout → State → List Event → State
run y s [] = s
run y s (e ∷ es) = run y (step y s e) es

-- the file that a run leaves, told by its writes alone: each whose range is inside is laid on, in order; of a list that its own tests accept, each range
unfoldable pub laid_on : Layout → List ℕ → List Event → List ℕ
laid_on y file [] = file
laid_on y file (write offset bytes ok ∷ es) = laid_on y (grant (refusal_by (range_tests y offset (length bytes))) (written file offset bytes) file) es
laid_on y file (write_list ranges bytes ok ∷ es) =
    laid_on y (grant (refusal_by (list_tests y ranges (length bytes))) (laid_ranges file ranges bytes (length ranges)) file) es
laid_on y file (fail target ∷ es) = laid_on y file es
laid_on y file (repair ∷ es) = laid_on y file es
laid_on y file (repair_by plan ∷ es) = laid_on y file es
laid_on y file (swap target ∷ es) = laid_on y file es
laid_on y file (read offset size ∷ es) = laid_on y file es
laid_on y file (look room group content ∷ es) = laid_on y file es
laid_on y file (scribble ink ∷ es) = laid_on y file es

-- the same events, with other ink in each scribble
unfoldable pub reinked : (ℕ → ℕ) → Event → Event
reinked ink (write offset bytes ok) = write offset bytes ok
reinked ink (write_list ranges bytes ok) = write_list ranges bytes ok
reinked ink (fail target) = fail target
reinked ink repair = repair
reinked ink (repair_by plan) = repair_by plan
reinked ink (swap target) = swap target
reinked ink (read offset size) = read offset size
reinked ink (look room group content) = look room group content
reinked ink (scribble old) = scribble ink

unfoldable pub reink : (ℕ → ℕ → ℕ) → List Event → List Event
reink inks [] = []
reink inks (e ∷ es) = reinked (inks 0) e ∷ reink (λ i. inks (suc i)) es
