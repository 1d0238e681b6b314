-- Demand 3. "After every call each unit that 01 calls present holds what encoding the current file afresh would put there, and an accepted read shows
-- that file: zeros, with the accepted writes laid on in order. A write changes only the bytes it names and the parity bytes at the same unit offsets
-- in the same groups; a repair changes only the new homes of units that were missing."
use Rattle.std.specs.Prelude.{◌≡◌, ◌⊎◌, Bool, false, List, ℕ, ◌<◌, length}
use Rattle.lists.specs.Tabulate.{at, tabulate, zeros}
use Rattle.lists.specs.Refusal.{refusal_by}
use Rattle.numbers.specs.declared.Layout.{Layout}
use Rattle.numbers.specs.Layouts.{Valid, all_groups, contents, capacity}
use Rattle.homes.specs.Missing.{missing}
use Rattle.pool.specs.Counting.{TrueCount}
use Rattle.pool.specs.Contents.{stored}
use Rattle.pool.specs.Refusals.{pool_tests, range_refusal, look_refusal}
use Rattle.pool.specs.Reading.{read_out}
use Rattle.pool.specs.Writing.{write_image}
use Rattle.pool.specs.Repairing.{repair_image, repair_record}
use Rattle.pool.specs.Looking.{look_scratch, look_shown}
use Rattle.pool.specs.Files.{part, encoded}
use Rattle.pool.specs.Asked.{sound-passes}
use Rattle.pool.specs.Holds.{read_right}
use Rattle.pool.proofs.RepairHolds.{all_repaired}
use Rattle.pool.specs.LookHolds.{look_right}
use Rattle.pool.specs.Changes.{Written, Mended}
use Rattle.pool.proofs.ChangesLaws.{write_changes, repair_changes}
use Rattle.proposal.specs.Running.{plan_refusal, plan_image, plan_record}
use Rattle.proposal.proofs.RunningLaws.{plan_image_lem, plan_record_lem}
use Rattle.proposal.proofs.PlanHolds.{plan_changes}
use Rattle.swapping.specs.Swapping.{swap_image, NewHome}
use Rattle.swapping.proofs.SwapLaws.{swap_changes}
use Rattle.pool_list.specs.Ranges.{list_image}
use Rattle.pool_list.specs.Kept.{WrittenByOne}
use Rattle.pool_list.proofs.KeptLaws.{list_changes}
use Rattle.promises.specs.Runs.{Event, State, start, run, laid_on}
use Rattle.promises.specs.RunLaws.{Inside, inside-sound, started, ran, laid}

pub record Right (y : Layout) (s : State) : Type 0 where
  -- "each unit that 01 calls present holds what encoding the current file afresh would put there": every byte o of every content c of every group g
  pub present : (g o c : ℕ) → g < all_groups y → o < y.u → c < contents y → missing y s.rec g c ≡ false
      → stored y s.rec s.img g o c ≡ encoded y s.file g o c
  -- "an accepted read shows that file"
  pub shown : (offset size : ℕ) → range_refusal y s.rec (length s.img) offset size ≡ 0
      → read_out y s.rec s.img offset size ≡ part s.file offset size
  -- an accepted look, prepared and shown, shows the encoded unit, also a missing one
  pub looked : (room group content : ℕ) → look_refusal y s.rec (length s.img) room group content ≡ 0
      → look_shown y s.rec s.img (look_scratch y s.rec s.img room group content) group content ≡ tabulate y.u (λ o. encoded y s.file group o content)
  -- "A write changes only the bytes it names and the parity bytes at the same unit offsets in the same groups"
  pub write_only : (offset : ℕ) (bytes : List ℕ) (x : ℕ) → x < length s.img
      → (at (write_image y s.rec s.img offset bytes) x ≡ at s.img x) ⊎ Written y s.rec offset (length bytes) x
  -- and a list of writes what its writes change
  pub list_only : (ranges : List (List ℕ)) (bytes : List ℕ) (x : ℕ) → x < length s.img
      → (at (list_image y s.rec s.img ranges bytes) x ≡ at s.img x) ⊎ WrittenByOne y s.rec ranges x
  -- "a repair changes only the new homes of units that were missing";
  pub repair_only : (x : ℕ) → x < length s.img → (at (repair_image y s.rec s.img) x ≡ at s.img x) ⊎ Mended y s.rec x
  -- so does one by a plan, accepted or refused; and "running an accepted plan leaves the same image and record as plain repair, whoever drew it up"
  pub plan_only : (plan : List ℕ) (x : ℕ) → x < length s.img → (at (plan_image y s.rec plan s.img) x ≡ at s.img x) ⊎ Mended y s.rec x
  pub planned : (plan : List ℕ) → plan_refusal y s.rec (length s.img) plan ≡ 0
      → (plan_image y s.rec plan s.img ≡ repair_image y s.rec s.img)
      × (plan_record y s.rec (length s.img) plan ≡ repair_record y s.rec (length s.img))
  -- and after a repair nothing is missing
  pub repaired : (g c : ℕ) → c < contents y → missing y (repair_record y s.rec (length s.img)) g c ≡ false
  -- a swap changes "only bytes of new homes .., on d and on unused spares too",
  pub swap_only : (target x : ℕ) → x < length s.img → (at (swap_image y s.rec s.img target) x ≡ at s.img x) ⊎ NewHome y s.rec target x
  -- the count of missing units is true
  pub counted : TrueCount y s.rec
  -- no call is refused with 1, 2 or 3: its own tests decide
  pub accepted : (rest : List (Bool × ℕ)) → refusal_by (pool_tests y s.rec (length s.img) rest) ≡ refusal_by rest

-- a state that holds its file under a good record with a true count is right
right : (y : Layout) → Valid y → (s : State) → Inside y s → Right y s
right y v s a =
    record {
      present = a.holds.present;
      shown = read_right y s.rec s.img s.file a.holds;
      looked = look_right y s.rec s.img s.file a.holds;
      write_only = write_changes y s.rec s.img;
      list_only = λ ranges bytes. list_changes y s.rec ranges bytes s.img;
      repair_only = repair_changes y s.rec s.img;
      plan_only = λ plan. plan_changes y s.rec plan s.img;
      planned = λ plan z. (plan_image_lem y s.rec plan s.img s.file a.holds z, plan_record_lem y s.rec (length s.img) plan z);
      repaired = λ g c h. all_repaired y s.rec (length s.img) (inside-sound y v s a) g c h;
      swap_only = λ target. swap_changes y s.rec target s.img;
      counted = a.counted;
      accepted = sound-passes y s.rec (length s.img) (inside-sound y v s a);
    }

-- and so is every state of a run that begins there
pub right_from : (y : Layout) → Valid y → (s : State) → Inside y s → (es : List Event) → Right y (run y s es)
right_from y v s a es = right y v (run y s es) (ran y v es s a)

module _ (y : Layout) (valid : Valid y) (room : List ℕ) (three : length room ≡ 3) where
  -- after every run of events, and so after every event of a run
  pub demand_3 : (es : List Event) → Right y (run y (start y room) es)
  demand_3 = right_from y valid (start y room) (started y valid room three)

  -- "that file: zeros, with the accepted writes laid on in order"
  pub file_of_run : (es : List Event) → (run y (start y room) es).file ≡ laid_on y (zeros (capacity y)) es
  unfolding start
  file_of_run es = laid y valid es (start y room) (started y valid room three)
