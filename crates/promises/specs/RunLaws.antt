-- What every event of a run keeps: a good record with a true count, and an image that holds the current file. By cases of the event.
use Rattle.std.specs.Prelude.{◌≡◌, refl, List, [], ◌∷◌, ℕ, suc, length}
use Rattle.std.proofs.Common.{sym, ap, ◌∙◌, subst, not-suc-le-zero, arith}
use Rattle.lists.specs.Refusal.{grant, grant-either}
use Rattle.numbers.specs.declared.Layout.{Layout}
use Rattle.numbers.specs.Layouts.{Valid}
use Rattle.homes.specs.declared.Record.{Record}
use Rattle.homes.specs.Records.{Good}
use Rattle.pool.specs.Counting.{TrueCount}
use Rattle.pool.specs.Refusals.{range_tests, range_refusal}
use Rattle.pool.specs.Writing.{write_image}
use Rattle.pool.specs.Failing.{fail_record}
use Rattle.pool.specs.Repairing.{repair_record}
use Rattle.pool.specs.Files.{written}
use Rattle.pool.specs.Asked.{Sound, sound-passes}
use Rattle.pool.specs.Holds.{Holds, zeros_hold}
use Rattle.pool.specs.WriteHolds.{write_refused}
use Rattle.pool.proofs.WriteHoldsLaws.{write_right}
use Rattle.pool.specs.FailHolds.{Kept, fail_right, fail_kept}
use Rattle.pool.proofs.RepairHolds.{repair_right, repair_kept}
use Rattle.pool.proofs.ScribbleHoldsLaws.{scribble_right}
use Rattle.pool.specs.CountLaws.{at_most, unfailed_clear, repair_keeps_true}
use Rattle.pool.proofs.CountLaws.{fail_keeps_true}
use Rattle.pool.specs.Blind.{Agree}
use Rattle.pool.proofs.BlindLaws.{write_agree, fail_agree, repair_agree, scribble_agree}
use Rattle.proposal.specs.Running.{plan_record}
use Rattle.proposal.proofs.PlanHolds.{plan_right, plan_kept, plan_keeps_true, plan_agree}
use Rattle.swapping.specs.Swapping.{swap_record}
use Rattle.swapping.proofs.SwapHolds.{swap_right, swap_kept, swap_keeps_true, swap_agree}
use Rattle.pool_list.specs.Ranges.{list_tests, list_refusal, laid_ranges}
use Rattle.pool_list.proofs.KeptLaws.{list_agree}
use Rattle.pool_list.proofs.LaidLaws.{list_right}
use Rattle.promises.specs.Runs.{Event, write, write_list, fail, repair, repair_by, swap, read, look, scribble, State, start, step, run, laid_on, reinked, reink}

pub record Inside (y : Layout) (s : State) : Type 0 where
  pub kept : Kept y s.rec
  pub holds : Holds y s.rec s.img s.file
  pub counted : TrueCount y s.rec

pub inside-sound : (y : Layout) → Valid y → (s : State) → Inside y s → Sound y s.rec (length s.img)
inside-sound y v s i =
    record { valid = v; len_is = i.holds.image_length_lem; good = i.kept.good; within = omega (arith, i.counted, at_most y s.rec) }

pub started : (y : Layout) → Valid y → (room : List ℕ) → length room ≡ 3 → Inside y (start y room)
unfolding start
started y v room e =
    let r : Record = record { failed = room; k = 0; q = 0; waiting = 0 } in
    let g : Good y r = record { few = omega arith; mended = omega arith; below = λ i b. absurd (not-suc-le-zero b); once = λ i b. absurd (not-suc-le-zero b) } in
    record { kept = record { room = e; good = g }; holds = zeros_hold y r v g; counted = sym (unfailed_clear y r refl) }

pub stepped : (y : Layout) → Valid y → (s : State) → Inside y s → (e : Event) → Inside y (step y s e)
unfolding step
stepped y v s a (write offset bytes ok) =
    record {
      kept = a.kept;
      holds =
          grant-either (range_refusal y s.rec (length s.img) offset (length bytes)) (written s.file offset bytes) s.file
          (λ (f : List ℕ). Holds y s.rec (write_image y s.rec s.img offset bytes) f)
          (λ z. write_right y s.rec s.img s.file a.holds offset bytes ok z)
          (λ z. subst (λ (i : List ℕ). Holds y s.rec i s.file) (sym (write_refused y s.rec s.img offset bytes z)) a.holds);
      counted = a.counted;
    }
stepped y v s a (write_list ranges bytes ok) =
    record { kept = a.kept; holds = list_right ranges bytes ok y s.rec s.img s.file a.holds; counted = a.counted }
stepped y v s a (fail target) =
    record {
      kept = fail_kept y s.rec (length s.img) target a.kept;
      holds = fail_right y s.rec (length s.img) target s.img s.file a.kept.good a.holds;
      counted = fail_keeps_true y s.rec (length s.img) target a.kept.room a.counted;
    }
stepped y v s a repair =
    record {
      kept = repair_kept y s.rec (length s.img) a.kept;
      holds = repair_right y s.rec s.img s.file a.holds;
      counted = repair_keeps_true y s.rec (length s.img) a.counted;
    }
stepped y v s a (repair_by plan) =
    record {
      kept = plan_kept y s.rec plan s.img a.kept;
      holds = plan_right y s.rec plan s.img s.file a.holds;
      counted = plan_keeps_true y s.rec plan s.img a.counted;
    }
stepped y v s a (swap target) =
    record {
      kept = swap_kept y s.rec target (length s.img) a.kept;
      holds = swap_right y s.rec target s.img s.file a.holds;
      counted = swap_keeps_true y s.rec target (length s.img) a.counted;
    }
stepped y v s a (read offset size) = a
stepped y v s a (look room group content) = a
stepped y v s a (scribble ink) =
    record { kept = a.kept; holds = scribble_right y s.rec v a.kept.good s.img s.file ink a.holds; counted = a.counted }

pub ran : (y : Layout) → Valid y → (es : List Event) (s : State) → Inside y s → Inside y (run y s es)
unfolding run
ran y v [] s a = a
ran y v (e ∷ es) s a = ran y v es (step y s e) (stepped y v s a e)

-- ---- the file of a run is that of its writes

pub laid : (y : Layout) → Valid y → (es : List Event) (s : State) → Inside y s → (run y s es).file ≡ laid_on y s.file es
unfolding run laid_on step range_refusal list_refusal
laid y v [] s a = refl
laid y v (write offset bytes ok ∷ es) s a =
    laid y v es (step y s (write offset bytes ok)) (stepped y v s a (write offset bytes ok))
    ∙ ap (λ (n : ℕ). laid_on y (grant n (written s.file offset bytes) s.file) es)
    (sound-passes y s.rec (length s.img) (inside-sound y v s a) (range_tests y offset (length bytes)))
laid y v (write_list ranges bytes ok ∷ es) s a =
    laid y v es (step y s (write_list ranges bytes ok)) (stepped y v s a (write_list ranges bytes ok))
    ∙ ap (λ (n : ℕ). laid_on y (grant n (laid_ranges s.file ranges bytes (length ranges)) s.file) es)
    (sound-passes y s.rec (length s.img) (inside-sound y v s a) (list_tests y ranges (length bytes)))
laid y v (fail target ∷ es) s a = laid y v es (step y s (fail target)) (stepped y v s a (fail target))
laid y v (repair ∷ es) s a = laid y v es (step y s repair) (stepped y v s a repair)
laid y v (repair_by plan ∷ es) s a = laid y v es (step y s (repair_by plan)) (stepped y v s a (repair_by plan))
laid y v (swap target ∷ es) s a = laid y v es (step y s (swap target)) (stepped y v s a (swap target))
laid y v (read offset size ∷ es) s a = laid y v es s a
laid y v (look room group content ∷ es) s a = laid y v es s a
laid y v (scribble ink ∷ es) s a = laid y v es (step y s (scribble ink)) (stepped y v s a (scribble ink))

-- ---- the same calls, while others scribble differently

pub record Twins (y : Layout) (s s' : State) : Type 0 where
  pub rec : s'.rec ≡ s.rec
  pub file : s'.file ≡ s.file
  pub agree : Agree y s.rec s.img s'.img

abbrev other : State → List ℕ → State
other s img' = record { rec = s.rec; img = img'; file = s.file }

twin-step : (y : Layout) → Valid y → (s : State) → Inside y s → (img' : List ℕ) → Agree y s.rec s.img img' → (ink : ℕ → ℕ) (e : Event)
    → Twins y (step y s e) (step y (other s img') (reinked ink e))
unfolding step reinked
twin-step y v s i img' a ink (write offset bytes ok) =
    record {
      rec = refl;
      file = ap (λ (n : ℕ). grant (range_refusal y s.rec n offset (length bytes)) (written s.file offset bytes) s.file) a.same_length;
      agree = write_agree y s.rec s.img img' a offset bytes;
    }
twin-step y v s i img' a ink (write_list ranges bytes ok) =
    record {
      rec = refl;
      file = ap (λ (n : ℕ). grant (list_refusal y s.rec n ranges (length bytes)) (laid_ranges s.file ranges bytes (length ranges)) s.file) a.same_length;
      agree = list_agree y s.rec ranges bytes s.img img' a;
    }
twin-step y v s i img' a ink (fail target) =
    record { rec = ap (λ (n : ℕ). fail_record y s.rec n target) a.same_length; file = refl; agree = fail_agree y s.rec s.img img' a target }
twin-step y v s i img' a ink repair =
    record { rec = ap (repair_record y s.rec) a.same_length; file = refl; agree = repair_agree y s.rec s.img img' a }
twin-step y v s i img' a ink (repair_by plan) =
    record { rec = ap (λ (n : ℕ). plan_record y s.rec n plan) a.same_length; file = refl; agree = plan_agree y s.rec plan s.img img' a }
twin-step y v s i img' a ink (swap target) =
    record { rec = ap (λ (n : ℕ). swap_record y s.rec n target) a.same_length; file = refl; agree = swap_agree y s.rec target s.img img' a }
twin-step y v s i img' a ink (read offset size) = record { rec = refl; file = refl; agree = a }
twin-step y v s i img' a ink (look room group content) = record { rec = refl; file = refl; agree = a }
twin-step y v s i img' a ink (scribble old) =
    record { rec = refl; file = refl; agree = scribble_agree y s.rec s.img img' a old ink (inside-sound y v s i) }

same : {y : Layout} (s s' : State) → Twins y s s' → other s s'.img ≡ s'
same s s' t = λ i. record { rec = sym t.rec i; img = s'.img; file = sym t.file i }

pub twins : (y : Layout) → Valid y → (es : List Event) (inks : ℕ → ℕ → ℕ) (s s' : State) → Inside y s → Twins y s s' → Twins y (run y s es) (run y s' (reink inks es))
unfolding run reink
twins y v [] inks s s' i t = t
twins y v (e ∷ es) inks s s' i t =
    twins y v es (λ n. inks (suc n)) (step y s e) (step y s' (reinked (inks 0) e)) (stepped y v s i e)
    (subst (λ (z : State). Twins y (step y s e) (step y z (reinked (inks 0) e))) (same s s' t) (twin-step y v s i s'.img t.agree (inks 0) e))

pub twins_start : (y : Layout) (s : State) → Twins y s s
twins_start y s = record { rec = refl; file = refl; agree = record { same_length = refl; present = λ z g o c hg ho hc m. refl } }
