-- Demand 3 of the calls themselves. Here a run is told by the promises alone: after each call the state is one that the call's promise allows. There is
-- one such state, the one that `step` names; so demand 3 holds after any run of any programs that keep these promises, and every outcome that a
-- promise allows there shows the current file and changes no more than demand 3 says.
use Rattle.std.specs.Prelude.{◌≡◌, refl, ◌⊎◌, false, List, [], ◌∷◌, ◌++◌, ℕ, ◌<◌, eqb, length}
use Rattle.std.proofs.Common.{sym, ap, ◌∙◌, subst, eq-eqb}
use Rattle.std.proofs.Math.Path.{subst⁻¹}
use Rattle.lists.specs.Tabulate.{at, tabulate, zeros, length-tabulate}
use Rattle.lists.specs.Refusal.{◌or_else◌, refusal_by, grant, grant_yes, grant-either, step-passes}
use Rattle.numbers.specs.declared.Layout.{Layout}
use Rattle.numbers.specs.Layouts.{Valid, all_groups, contents, capacity}
use Rattle.place.specs.Bytes.{target_here}
use Rattle.homes.specs.declared.Record.{Record}
use Rattle.homes.specs.Records.{failed}
use Rattle.homes.specs.Missing.{missing}
use Rattle.pool.specs.Contents.{stored}
use Rattle.pool.specs.Counting.{missing_units}
use Rattle.pool.specs.Refusals.{repair_refusal, look_refusal}
use Rattle.pool.specs.Looking.{look_scratch, look_shown}
use Rattle.pool.specs.Auditing.{audit_refusal, panel_shows}
use Rattle.pool.specs.Files.{part, written, encoded}
use Rattle.pool.specs.Scribbling.{scribbled}
use Rattle.pool.specs.ScribbleHolds.{scribble_any}
use Rattle.pool.specs.Changes.{Written, Mended}
use Rattle.pool.specs.Calls.{Reads, Writes, Fails, Repairs, Prepares, Shows, Panels, Audits}
use Rattle.proposal.specs.Calls.{RepairsBy}
use Rattle.proposal.proofs.RunningLaws.{plan_count_lem}
use Rattle.swapping.specs.Swapping.{NewHome, Swaps}
use Rattle.pool_list.specs.Ranges.{laid_ranges, WritesList}
use Rattle.pool_list.specs.Kept.{WrittenByOne}
use Rattle.promises.specs.Runs.{Event, write, write_list, fail, repair, repair_by, swap, read, look, scribble, State, start, step, run, laid_on}
use Rattle.promises.specs.RunLaws.{Inside, started, ran}
use Rattle.promises.specs.Demand3.{Right, right_from, file_of_run}

-- s' is a state that an event may leave, by the call's promise: n is the number that the call answers, 0 where the call is accepted. What a promise says
-- nothing of was not lent to be changed, and stays. The current file has the bytes of a write laid on where it is accepted, and of
-- an accepted list those of each range, in order
abbrev pub Leaves : Layout → State → Event → State → Type 0
Leaves y s (write offset bytes ok) s' =
    (n : ℕ) × Writes y s.rec s.img offset bytes n s'.img × (s'.rec ≡ s.rec) × (s'.file ≡ grant n (written s.file offset bytes) s.file)
Leaves y s (write_list ranges bytes ok) s' =
    (n : ℕ) × (range : ℕ) × WritesList y s.rec s.img ranges bytes n range s'.img × (s'.rec ≡ s.rec)
    × (s'.file ≡ grant n (laid_ranges s.file ranges bytes (length ranges)) s.file)
Leaves y s (fail target) s' = (n : ℕ) × Fails y s.rec s.img target n s'.rec × (s'.img ≡ s.img) × (s'.file ≡ s.file)
Leaves y s repair s' = (n : ℕ) × (count : ℕ) × Repairs y s.rec s.img n count s'.rec s'.img × (s'.file ≡ s.file)
Leaves y s (repair_by plan) s' =
    (n : ℕ) × (count : ℕ) × RepairsBy y s.rec s.img plan n count s'.rec s'.img × (s'.file ≡ s.file)
Leaves y s (swap target) s' = (n : ℕ) × Swaps y s.rec s.img target n s'.rec s'.img × (s'.file ≡ s.file)
Leaves y s (read offset size) s' = (n : ℕ) × (out : List ℕ) × Reads y s.rec s.img offset size n out × (s' ≡ s)
Leaves y s (look room group content) s' =
    (n : ℕ) × (scratch : List ℕ) × Prepares y s.rec s.img room group content n scratch
    × (m : ℕ) × (shown : List ℕ) × Shows y s.rec s.img scratch group content m shown × (s' ≡ s)
Leaves y s (scribble ink) s' = (s'.rec ≡ s.rec) × (s'.img ≡ scribbled y s.rec s.img ink) × (s'.file ≡ s.file)

-- s' is left by the events in turn
abbrev pub Reaches : Layout → State → List Event → State → Type 0
Reaches y s [] s' = s' ≡ s
Reaches y s (e ∷ es) s' = (between : State) × Leaves y s e between × Reaches y between es s'

-- ---- one state is left, and it is the one that `step` names

pub leaves_step : (y : Layout) (s : State) (e : Event) (s' : State) → Leaves y s e s' → s' ≡ step y s e
unfolding step
leaves_step y s (write offset bytes ok) s' p =
    λ i. record { rec = p.2 i; img = p.1.image i; file = (p.3 ∙ ap (λ (n : ℕ). grant n (written s.file offset bytes) s.file) p.1.answer) i }
leaves_step y s (write_list ranges bytes ok) s' p =
    λ i.
    record {
      rec = p.3 i;
      img = p.2.image i;
      file = (p.4 ∙ ap (λ (n : ℕ). grant n (laid_ranges s.file ranges bytes (length ranges)) s.file) p.2.answer) i;
    }
leaves_step y s (fail target) s' p = λ i. record { rec = p.1.rec i; img = p.2 i; file = p.3 i }
leaves_step y s repair s' p = λ i. record { rec = p.2.rec i; img = p.2.image i; file = p.3 i }
leaves_step y s (repair_by plan) s' p = λ i. record { rec = p.2.rec i; img = p.2.image i; file = p.3 i }
leaves_step y s (swap target) s' p = λ i. record { rec = p.1.rec i; img = p.1.image i; file = p.2 i }
leaves_step y s (read offset size) s' p = p.3
leaves_step y s (look room group content) s' p = p.6
leaves_step y s (scribble ink) s' p = λ i. record { rec = p.0 i; img = p.1 i; file = p.2 i }

-- one event more
pub reaches_more : (y : Layout) (es : List Event) (e : Event) (s s' s'' : State) → Reaches y s es s' → Leaves y s' e s'' → Reaches y s (es ++ (e ∷ [])) s''
reaches_more y [] e s s' s'' p l = (s'', subst (λ (t : State). Leaves y t e s'') p l, refl)
reaches_more y (d ∷ es) e s s' s'' p l = (p.0, p.1, reaches_more y es e p.0 s' s'' p.2 l)

-- there is one: what `step` names keeps the promises
pub step_leaves : (y : Layout) (s : State) (e : Event) → Leaves y s e (step y s e)
unfolding step
step_leaves y s (write offset bytes ok) = (_, record { answer = refl; image = refl }, refl, refl)
step_leaves y s (write_list ranges bytes ok) = (_, _, record { answer = refl; first = refl; image = refl }, refl, refl)
step_leaves y s (fail target) = (_, record { answer = refl; rec = refl }, refl, refl)
step_leaves y s repair = (_, _, record { answer = refl; pairs = refl; rec = refl; image = refl }, refl)
step_leaves y s (repair_by plan) = (_, _, record { answer = refl; pairs = refl; rec = refl; image = refl }, refl)
step_leaves y s (swap target) = (_, record { answer = refl; rec = refl; image = refl }, refl)
step_leaves y s (read offset size) = (_, _, record { answer = refl; bytes = refl }, refl)
step_leaves y s (look room group content) = (_, _, record { answer = refl; bytes = refl }, _, _, record { answer = refl; bytes = refl }, refl)
step_leaves y s (scribble ink) = (refl, refl, refl)

pub reaches_run : (y : Layout) (es : List Event) (s s' : State) → Reaches y s es s' → s' ≡ run y s es
unfolding run
reaches_run y [] s s' p = p
reaches_run y (e ∷ es) s s' p = reaches_run y es p.0 s' p.2 ∙ ap (λ (m : State). run y m es) (leaves_step y s e p.0 p.1)

-- others may put any bytes on failed drives: an image that differs there alone is one that a scribble leaves
pub scribbles_are_any : (y : Layout) (R : Record) (img img' : List ℕ) → length img' ≡ length img
    → ((x : ℕ) → x < length img → failed R (target_here y x) ≡ false → at img' x ≡ at img x) → img' ≡ scribbled y R img (at img')
scribbles_are_any = scribble_any

-- ---- what demand 3 says in a state, of any outcome that the promises allow there

pub record OutcomesRight (y : Layout) (s : State) : Type 0 where
  -- "each unit that 01 calls present holds what encoding the current file afresh would put there"
  pub present : (g o c : ℕ) → g < all_groups y → o < y.u → c < contents y → missing y s.rec g c ≡ false
      → stored y s.rec s.img g o c ≡ encoded y s.file g o c
  -- "an accepted read shows that file"
  pub read_shows : (offset size n : ℕ) (out : List ℕ) → Reads y s.rec s.img offset size n out → n ≡ 0 → out ≡ part s.file offset size
  -- an accepted look, its two steps one after the other, shows the encoded unit, also a missing one
  pub look_shows : (room group content n : ℕ) (scratch : List ℕ) → Prepares y s.rec s.img room group content n scratch
      → (m : ℕ) (shown : List ℕ) → Shows y s.rec s.img scratch group content m shown
      → n ≡ 0 → (m ≡ 0) × (shown ≡ tabulate y.u (λ o. encoded y s.file group o content))
  -- "A write changes only the bytes it names and the parity bytes at the same unit offsets in the same groups"
  pub write_changes_only : (offset : ℕ) (bytes : List ℕ) (n : ℕ) (img' : List ℕ) → Writes y s.rec s.img offset bytes n img'
      → (x : ℕ) → x < length s.img → (at img' x ≡ at s.img x) ⊎ Written y s.rec offset (length bytes) x
  -- and a list of writes what its writes change
  pub list_changes_only : (ranges : List (List ℕ)) (bytes : List ℕ) (n range : ℕ) (img' : List ℕ) → WritesList y s.rec s.img ranges bytes n range img'
      → (x : ℕ) → x < length s.img → (at img' x ≡ at s.img x) ⊎ WrittenByOne y s.rec ranges x
  -- "a repair changes only the new homes of units that were missing", and leaves none missing
  pub repair_changes_only : (n count : ℕ) (R' : Record) (img' : List ℕ) → Repairs y s.rec s.img n count R' img'
      → (x : ℕ) → x < length s.img → (at img' x ≡ at s.img x) ⊎ Mended y s.rec x
  pub repair_leaves_none : (n count : ℕ) (R' : Record) (img' : List ℕ) → Repairs y s.rec s.img n count R' img'
      → (g c : ℕ) → c < contents y → missing y R' g c ≡ false
  -- so does one by a proposed plan, and an accepted one is plain repair: it "leaves the same image and record as plain repair, whoever drew it up"
  pub plan_changes_only : (plan : List ℕ) (n count : ℕ) (R' : Record) (img' : List ℕ) → RepairsBy y s.rec s.img plan n count R' img'
      → (x : ℕ) → x < length s.img → (at img' x ≡ at s.img x) ⊎ Mended y s.rec x
  pub plan_as_repair : (plan : List ℕ) (count : ℕ) (R' : Record) (img' : List ℕ) → RepairsBy y s.rec s.img plan 0 count R' img'
      → Repairs y s.rec s.img 0 count R' img'
  -- a swap changes "only bytes of new homes"
  pub swap_changes_only : (target n : ℕ) (R' : Record) (img' : List ℕ) → Swaps y s.rec s.img target n R' img'
      → (x : ℕ) → x < length s.img → (at img' x ≡ at s.img x) ⊎ NewHome y s.rec target x
  -- an audit finds nothing, and the panel shows how many units are missing
  pub audit_finds_none : (n : ℕ) → Audits y s.rec s.img n → n ≡ 0
  pub panel_shows_lem : (n waiting failed repaired : ℕ) → Panels y s.rec s.img n waiting failed repaired → (n ≡ 0) × (waiting ≡ missing_units y s.rec)

-- the scratch comes back as long as it was lent
scratch_length : (y : Layout) (R : Record) (img : List ℕ) (room group content : ℕ) → length (look_scratch y R img room group content) ≡ room
unfolding look_scratch
scratch_length y R img room group content =
    grant-either (look_refusal y R (length img) room group content) _ (zeros room) (λ (l : List ℕ). length l ≡ room) (λ z. length-tabulate room _) (λ z. length-tabulate room _)

audited : (y : Layout) (s : State) → Right y s → audit_refusal y s.rec (length s.img) ≡ 0
unfolding audit_refusal refusal_by ◌or_else◌
audited y s r =
    r.accepted ((eqb s.rec.waiting (missing_units y s.rec), 14) ∷ [])
    ∙ step-passes (eqb s.rec.waiting (missing_units y s.rec)) 14 0 (eq-eqb s.rec.waiting (missing_units y s.rec) r.counted)

unrefused : (y : Layout) (s : State) → Right y s → repair_refusal y s.rec (length s.img) ≡ 0
unfolding repair_refusal refusal_by
unrefused y s r = r.accepted []

panelled : (y : Layout) (s : State) → Right y s → panel_shows y s.rec (length s.img) s.rec.waiting ≡ missing_units y s.rec
unfolding panel_shows
panelled y s r = grant_yes _ s.rec.waiting 0 (unrefused y s r) ∙ r.counted

outcomes_right : (y : Layout) (s : State) → Right y s → OutcomesRight y s
outcomes_right y s r =
    record {
      present = r.present;
      read_shows = λ offset size n out p z. p.bytes ∙ r.shown offset size (sym p.answer ∙ z);
      look_shows = λ room group content n scratch p m shown q z.
          let same : length scratch ≡ room = ap length p.bytes ∙ scratch_length y s.rec s.img room group content in (
            q.answer ∙ ap (λ (size : ℕ). look_refusal y s.rec (length s.img) size group content) same ∙ sym p.answer ∙ z,
            q.bytes ∙ ap (λ (l : List ℕ). look_shown y s.rec s.img l group content) p.bytes ∙ r.looked room group content (sym p.answer ∙ z),
          );
      write_changes_only = λ offset bytes n img' p x h.
          subst⁻¹ (λ (l : List ℕ). (at l x ≡ at s.img x) ⊎ Written y s.rec offset (length bytes) x) p.image (r.write_only offset bytes x h);
      list_changes_only = λ ranges bytes n range img' p x h.
          subst⁻¹ (λ (l : List ℕ). (at l x ≡ at s.img x) ⊎ WrittenByOne y s.rec ranges x) p.image (r.list_only ranges bytes x h);
      repair_changes_only = λ n count R' img' p x h. subst⁻¹ (λ (l : List ℕ). (at l x ≡ at s.img x) ⊎ Mended y s.rec x) p.image (r.repair_only x h);
      repair_leaves_none = λ n count R' img' p g c h. ap (λ (S : Record). missing y S g c) p.rec ∙ r.repaired g c h;
      plan_changes_only = λ plan n count R' img' p x h.
          subst⁻¹ (λ (l : List ℕ). (at l x ≡ at s.img x) ⊎ Mended y s.rec x) p.image (r.plan_only plan x h);
      plan_as_repair = λ plan count R' img' p.
          let same = r.planned plan (sym p.answer) in
          record {
            answer = sym (unrefused y s r);
            pairs = p.pairs ∙ plan_count_lem y s.rec (length s.img) plan (sym p.answer);
            rec = p.rec ∙ same.1;
            image = p.image ∙ same.0;
          };
      swap_changes_only = λ target n R' img' p x h.
          subst⁻¹ (λ (l : List ℕ). (at l x ≡ at s.img x) ⊎ NewHome y s.rec target x) p.image (r.swap_only target x h);
      audit_finds_none = λ n p. p.answer ∙ audited y s r;
      panel_shows_lem = λ n waiting failed repaired p. (p.answer ∙ unrefused y s r, p.waits ∙ panelled y s r);
    }

-- ---- demand 3: after any run of calls that keep their promises, from a state that holds its file,

pub calls_right_from : (y : Layout) → Valid y → (s : State) → Inside y s → (es : List Event) (s' : State) → Reaches y s es s' → OutcomesRight y s'
calls_right_from y v s a es s' p = subst⁻¹ (OutcomesRight y) (reaches_run y es s s' p) (outcomes_right y (run y s es) (right_from y v s a es))

-- and so from zeros and an empty list

module _ (y : Layout) (valid : Valid y) (room : List ℕ) (three : length room ≡ 3) (es : List Event) (s : State) (p : Reaches y (start y room) es s) where
  -- the state holds its file under a good record with a true count
  pub reached_inside : Inside y s
  reached_inside = subst⁻¹ (Inside y) (reaches_run y es (start y room) s p) (ran y valid es (start y room) (started y valid room three))

  pub calls_right : OutcomesRight y s
  calls_right = calls_right_from y valid (start y room) (started y valid room three) es s p

  -- "that file: zeros, with the accepted writes laid on in order"
  pub file_of_calls : s.file ≡ laid_on y (zeros (capacity y)) es
  file_of_calls = ap (λ (m : State). m.file) (reaches_run y es (start y room) s p) ∙ file_of_run y valid room three es

  pub file_length : length s.file ≡ capacity y
  file_length = reached_inside.holds.file_length
