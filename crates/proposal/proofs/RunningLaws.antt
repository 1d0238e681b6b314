-- Running an accepted plan. On an image that holds a file it leaves what plain repair leaves, whoever drew the plan up; on any image it does so
-- where its sources are the N lowest present contents. Entry after entry, in any order, comes to the whole.
use Rattle.std.specs.Prelude.{◌≡◌, true, false, ℕ, ◌<◌, length}
use Rattle.std.proofs.Math.Path.{refl, sym}
use Rattle.std.proofs.Common.{ap, ◌∙◌, subst, ⊎_elim, arith}
use mathlib.Core.List.{List, []}
use Rattle.std.proofs.lemmas.Bool.{not-false}
use Rattle.lists.specs.Pick.{clash, either_way}
use Rattle.lists.specs.Count.{count, count-not}
use Rattle.lists.specs.Search.{any-true, lowest_is}
use Rattle.lists.specs.Tabulate.{at}
use Rattle.lists.specs.Refusal.{refusal_by, grant_yes}
use Rattle.numbers.specs.declared.Layout.{Layout}
use Rattle.numbers.specs.Layouts.{Valid, all_groups, contents}
use Rattle.place.specs.Bytes.{offset_of}
use Rattle.place.specs.ByteLaws.{offset_lt}
use Rattle.parity.specs.Group.{Solvable}
use Rattle.parity.specs.Restores.{restores}
use Rattle.homes.specs.declared.Record.{Record}
use Rattle.homes.specs.Listed.{listed}
use Rattle.homes.specs.Once.{differ_once, listed_where, count-listed}
use Rattle.homes.specs.Records.{Good}
use Rattle.homes.specs.Missing.{missing}
use Rattle.pool.specs.Contents.{stored, content_byte}
use Rattle.pool.specs.Refusals.{repair_refusal}
use Rattle.pool.specs.StoringLaws.{storing_alike}
use Rattle.pool.specs.Repairing.{mends, mended_image, repair_image, repair_record, repair_count}
use Rattle.pool.specs.Files.{encoded}
use Rattle.pool.specs.Asked.{Sound, pool-asked, sound-passes}
use Rattle.pool.specs.Holds.{Holds, content_holds}
use Rattle.proposal.specs.Plans.{entries, group_named, content_named, source, names, Accepts}
use Rattle.proposal.specs.Accepted.{names-true, names_hold}
use Rattle.proposal.proofs.AcceptedLaws.{plan_accepts}
use Rattle.proposal.specs.Running.{plan_tests, plan_refusal, named_by, unused, planned_byte, planned_image, plan_image, plan_record, plan_count}
use Rattle.proposal.specs.RunningLaws.{named_by_lem, plan_solvable, used-present, PlanAsked}

module _ (y : Layout) (R : Record) (plan img file : List ℕ) (v : Valid y) (k : Accepts y R plan) (h : Holds y R img file) where
  -- what is rebuilt is what encoding the file puts there, from whichever N present contents
  pub planned_holds : (g o c : ℕ) → g < all_groups y → o < y.u → c < contents y → missing y R g c ≡ true → planned_byte y R plan img g o c ≡ encoded y file g o c
  unfolding planned_byte encoded
  planned_holds g o c hg ho hc t =
      let w = named_by_lem y R plan k g c hg hc t in
      let i = named_by y plan g c in
      restores y.n y.k (unused y plan i) (plan_solvable y R plan k v i w.0) (stored y R img g o)
      (λ j. at file (offset_of y g j o))
      (λ j b. h.file_bytes (offset_of y g j o) (subst (λ (m : ℕ). offset_of y g j o < m) (sym h.file_length) (offset_lt y v g j o hg b ho)))
      (λ u b e. h.present g o u hg ho b (subst (λ (q : ℕ). missing y R q u ≡ false) w.1.0 (used-present y R plan k i u w.0 e))) c hc

  pub planned-mended : Good y R → planned_image y R plan img ≡ mended_image y R img
  planned-mended r =
      storing_alike y v R R.k (mends y R) (mends y R) (planned_byte y R plan img) (content_byte y R img) img h.image_length_lem (λ g o c hg ho hc. refl)
      (λ g o c hg ho hc t. planned_holds g o c hg ho hc t ∙ sym (content_holds y R img file v r h g o c hg ho hc))

module _ (y : Layout) (R : Record) (len : ℕ) (plan : List ℕ) where
  pub plan_asked : plan_refusal y R len plan ≡ 0 → PlanAsked y R len plan
  unfolding plan_refusal
  plan_asked z = let p = pool-asked y R len (plan_tests y R plan) refl z in record { sound = p.0; accepts = plan_accepts y R plan p.1.0 }

  -- a plan is accepted only where plain repair is
  pub plan_repair : plan_refusal y R len plan ≡ 0 → repair_refusal y R len ≡ 0
  unfolding repair_refusal refusal_by
  plan_repair z = sound-passes y R len (plan_asked z).sound []

  -- and then it leaves the record, and answers the count, of plain repair
  pub plan_record_lem : plan_refusal y R len plan ≡ 0 → plan_record y R len plan ≡ repair_record y R len
  unfolding plan_record repair_record
  plan_record_lem z = grant_yes (plan_refusal y R len plan) _ R z ∙ sym (grant_yes (repair_refusal y R len) _ R (plan_repair z))

  pub plan_count_lem : plan_refusal y R len plan ≡ 0 → plan_count y R len plan ≡ repair_count y R len
  unfolding plan_count repair_count
  plan_count_lem z = grant_yes (plan_refusal y R len plan) _ 0 z ∙ sym (grant_yes (repair_refusal y R len) _ 0 (plan_repair z))

-- "On any pool that demand 3 can reach, running an accepted plan leaves the same image and record as plain repair, whoever drew it up."
pub plan_image_lem : (y : Layout) (R : Record) (plan img file : List ℕ) → Holds y R img file → plan_refusal y R (length img) plan ≡ 0
    → plan_image y R plan img ≡ repair_image y R img
unfolding plan_image repair_image
plan_image_lem y R plan img file h z =
    let a = plan_asked y R (length img) plan z in
    grant_yes (plan_refusal y R (length img) plan) _ _ z
    ∙ planned-mended y R plan img file a.sound.valid a.accepts h a.sound.good
    ∙ sym (grant_yes (repair_refusal y R (length img)) _ img (plan_repair y R (length img) plan z))
