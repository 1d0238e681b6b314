-- What repair by a plan keeps: demand 3, what changes at all, independence. On every image and for every plan, good or bad.
use Rattle.std.specs.Prelude.{◌≡◌, ◌⊎◌, true, false, ℕ, ◌<◌, length}
use Rattle.std.proofs.Math.Path.{sym, ap, subst}
use Rattle.std.proofs.Common.{◌∙◌, inl, ⊎_elim, arith}
use mathlib.Core.List.{List}
use Rattle.std.proofs.Math.Nat.{le_refl}
use Rattle.lists.specs.Pick.{pick, pick_true, pick-false, either_way, clash, equal_or_not}
use Rattle.lists.specs.Tabulate.{at}
use Rattle.lists.specs.Refusal.{grant_yes, grant_no, grant-either}
use Rattle.numbers.specs.declared.Layout.{Layout}
use Rattle.numbers.specs.Layouts.{Valid, all_groups, contents}
use Rattle.place.specs.Bytes.{spot, target_here}
use Rattle.place.specs.ByteLaws.{target_there}
use Rattle.parity.specs.Local.{rebuilt_cong}
use Rattle.homes.specs.declared.Record.{Record}
use Rattle.homes.specs.Records.{failed}
use Rattle.homes.specs.Missing.{home, missing}
use Rattle.homes.proofs.MissingLaws.{home-lt, home_alive}
use Rattle.pool.specs.Contents.{stored}
use Rattle.pool.specs.Counting.{TrueCount}
use Rattle.pool.specs.Repairing.{mended, repair_record}
use Rattle.pool.specs.StoringLaws.{storing-at, storing-length, storing_changes}
use Rattle.pool.specs.Holds.{Holds}
use Rattle.pool.specs.FailHolds.{Kept}
use Rattle.pool.proofs.RepairHolds.{repair_right, stored_stays}
use Rattle.pool.specs.CountLaws.{repair_clears}
use Rattle.pool.specs.Changes.{Mended}
use Rattle.pool.specs.Blind.{Agree}
use Rattle.pool.specs.Elsewhere.{AgreeElsewhere, agree_of, elsewhere_of}
use Rattle.proposal.specs.Plans.{Accepts}
use Rattle.proposal.specs.Running.{plan_refusal, named_by, unused, planned_byte, planned_image, plan_image, plan_record, plan_count}
use Rattle.proposal.specs.RunningLaws.{named_by_lem, plan_solvable, used-present}
use Rattle.proposal.proofs.RunningLaws.{plan_asked, plan_record_lem, plan_image_lem}

module _ (y : Layout) (R : Record) (plan img : List ℕ) where
  -- ---- accepted or refused

  pub plan_refused : (plan_refusal y R (length img) plan ≡ 0 → ⊥) → plan_image y R plan img ≡ img
  unfolding plan_image
  plan_refused z = grant_no (plan_refusal y R (length img) plan) _ img z

  pub plan_accepted : plan_refusal y R (length img) plan ≡ 0 → plan_image y R plan img ≡ planned_image y R plan img
  unfolding plan_image
  plan_accepted z = grant_yes (plan_refusal y R (length img) plan) _ img z

  pub plan_length : length (plan_image y R plan img) ≡ length img
  plan_length =
      equal_or_not (plan_refusal y R (length img) plan) 0
      (λ z. ap length (plan_accepted z) ∙ storing-length y R _ _ _ img)
      (λ z. ap length (plan_refused z))

  -- "else number 15 and nothing changed": no refusal changes anything
  pub plan_refused_unchanged : (plan_refusal y R (length img) plan ≡ 0 → ⊥)
      → (plan_image y R plan img ≡ img) × (plan_record y R (length img) plan ≡ R) × (plan_count y R (length img) plan ≡ 0)
  unfolding plan_record plan_count
  plan_refused_unchanged z =
      (plan_refused z, grant_no (plan_refusal y R (length img) plan) _ R z, grant_no (plan_refusal y R (length img) plan) _ 0 z)

  -- ---- demand 3

  pub plan_right : (file : List ℕ) → Holds y R img file → Holds y (plan_record y R (length img) plan) (plan_image y R plan img) file
  plan_right file h =
      equal_or_not (plan_refusal y R (length img) plan) 0
      (λ z.
      subst (λ (S : Record). Holds y S (plan_image y R plan img) file) (sym (plan_record_lem y R (length img) plan z))
      (subst (λ (i : List ℕ). Holds y (repair_record y R (length img)) i file) (sym (plan_image_lem y R plan img file h z)) (repair_right y R img file h)))
      (λ z.
      let u = plan_refused_unchanged z in
      subst (λ (S : Record). Holds y S (plan_image y R plan img) file) (sym u.1) (subst (λ (i : List ℕ). Holds y R i file) (sym u.0) h))

  pub plan_kept : Kept y R → Kept y (plan_record y R (length img) plan)
  unfolding plan_record
  plan_kept r =
      grant-either (plan_refusal y R (length img) plan) (mended R) R (λ (S : Record). Kept y S)
      (λ z. record { room = r.room; good = record { few = r.good.few; mended = le_refl R.k; below = r.good.below; once = r.good.once } })
      (λ z. r)

  pub plan_keeps_true : TrueCount y R → TrueCount y (plan_record y R (length img) plan)
  unfolding plan_record
  plan_keeps_true e =
      grant-either (plan_refusal y R (length img) plan) (mended R) R (λ (S : Record). TrueCount y S)
      (λ z. let s = (plan_asked y R (length img) plan z).sound in sym (repair_clears y R s.valid s.good))
      (λ z. e)

  -- ---- "a repair changes only the new homes of units that were missing"

  pub plan_changes : (x : ℕ) → x < length img → (at (plan_image y R plan img) x ≡ at img x) ⊎ Mended y R x
  plan_changes x h =
      equal_or_not (plan_refusal y R (length img) plan) 0
      (λ z.
      let s = (plan_asked y R (length img) plan z).sound in
      subst (λ (i : List ℕ). (at i x ≡ at img x) ⊎ Mended y R x) (sym (plan_accepted z))
      (storing_changes y s.valid R R.k _ _ img s.len_is x h))
      (λ z. inl (ap (λ (i : List ℕ). at i x) (plan_refused z)))

  -- and no byte of a failed target
  pub plan_spares_failed : (x : ℕ) → x < length img → failed R (target_here y x) ≡ true → at (plan_image y R plan img) x ≡ at img x
  plan_spares_failed x h f =
      equal_or_not (plan_refusal y R (length img) plan) 0
      (λ z.
      let s = (plan_asked y R (length img) plan z).sound in
      let few = s.good.few in
      ⊎_elim (λ e. e)
      (λ w. clash (failed R (target_here y x)) f
      (ap (λ (i : ℕ). failed R (target_here y i)) w.is_at
      ∙ ap (failed R) (target_there y s.valid w.g (home y R R.k w.g w.c) w.o w.g-lt (home-lt y s.valid R w.g R.k few w.c w.c_lt) w.o_lt)
      ∙ home_alive y s.valid R w.g R.k few w.c w.c_lt))
      (plan_changes x h))
      (λ z. ap (λ (i : List ℕ). at i x) (plan_refused z))

  -- what stands at a content's home under the whole list afterwards
  pub stored-planned : plan_refusal y R (length img) plan ≡ 0 → (g o c : ℕ) → g < all_groups y → o < y.u → c < contents y
      → stored y (mended R) (plan_image y R plan img) g o c ≡ pick (missing y R g c) (planned_byte y R plan img g o c) (at img (spot y g (home y R R.k g c) o))
  unfolding stored home
  stored-planned z g o c hg ho hc =
      let s = (plan_asked y R (length img) plan z).sound in
      ap (λ (i : List ℕ). at i (spot y g (home y R R.k g c) o)) (plan_accepted z)
      ∙ storing-at y s.valid R R.k _ _ img s.len_is s.good.few g o c hg ho hc

module _ (y : Layout) (R : Record) (plan img img' : List ℕ) where
  -- what is rebuilt depends on the entry's sources alone
  pub planned_local : Valid y → Accepts y R plan → (g o c : ℕ) → g < all_groups y → c < contents y → missing y R g c ≡ true
      → ((u : ℕ) → u < contents y → unused y plan (named_by y plan g c) u ≡ false → stored y R img g o u ≡ stored y R img' g o u)
      → planned_byte y R plan img g o c ≡ planned_byte y R plan img' g o c
  unfolding planned_byte
  planned_local v k g o c hg hc t same =
      rebuilt_cong y.n y.k (unused y plan (named_by y plan g c)) (plan_solvable y R plan k v (named_by y plan g c) (named_by_lem y R plan k g c hg hc t).0)
      (stored y R img g o) (stored y R img' g o) same c hc

  module _ (a : Agree y R img img') where
    too : plan_refusal y R (length img) plan ≡ 0 → plan_refusal y R (length img') plan ≡ 0
    too z = ap (λ (n : ℕ). plan_refusal y R n plan) a.same_length ∙ z

    pub also : (plan_refusal y R (length img) plan ≡ 0 → ⊥) → plan_refusal y R (length img') plan ≡ 0 → ⊥
    also never z = never (ap (λ (n : ℕ). plan_refusal y R n plan) (sym a.same_length) ∙ z)

    planned_agree : plan_refusal y R (length img) plan ≡ 0 → Agree y (mended R) (plan_image y R plan img) (plan_image y R plan img')
    planned_agree z =
        let q = plan_asked y R (length img) plan z in
        let s = q.sound in
        record {
          same_length = plan_length y R plan img' ∙ a.same_length ∙ sym (plan_length y R plan img);
          present = λ s' g o c hg ho hc m'.
              stored-planned y R plan img z g o c hg ho hc
              ∙ ⊎_elim
              (λ (m : missing y R g c ≡ true).
              let w = named_by_lem y R plan q.accepts g c hg hc m in
              pick_true (missing y R g c) _ _ m
              ∙ planned_local s.valid q.accepts g o c hg hc m
              (λ u b e. a.present s g o u hg ho b (subst (λ (h : ℕ). missing y R h u ≡ false) w.1.0 (used-present y R plan q.accepts (named_by y plan g c) u w.0 e)))
              ∙ sym (pick_true (missing y R g c) _ _ m))
              (λ (m : missing y R g c ≡ false).
              pick-false (missing y R g c) _ _ m ∙ stored_stays y R img s g o c m ∙ a.present s g o c hg ho hc m ∙ sym (stored_stays y R img' s g o c m)
              ∙ sym (pick-false (missing y R g c) _ _ m))
              (either_way (missing y R g c))
              ∙ sym (stored-planned y R plan img' (too z) g o c hg ho hc);
        }

    -- images that agree on present contents agree there afterwards
    pub plan_agree : Agree y (plan_record y R (length img) plan) (plan_image y R plan img) (plan_image y R plan img')
    unfolding plan_record
    plan_agree =
        grant-either (plan_refusal y R (length img) plan) (mended R) R (λ (S : Record). Agree y S (plan_image y R plan img) (plan_image y R plan img')) planned_agree
        (λ z.
        subst (λ (i : List ℕ). Agree y R i (plan_image y R plan img')) (sym (plan_refused y R plan img z))
        (subst (λ (i : List ℕ). Agree y R img i) (sym (plan_refused y R plan img' (also z))) a))

  -- images that agree elsewhere, but on failed targets and unused spares, agree elsewhere afterwards
  pub plan_elsewhere : AgreeElsewhere y R img img' → AgreeElsewhere y (plan_record y R (length img) plan) (plan_image y R plan img) (plan_image y R plan img')
  unfolding plan_record
  plan_elsewhere a =
      grant-either (plan_refusal y R (length img) plan) (mended R) R (λ (S : Record). AgreeElsewhere y S (plan_image y R plan img) (plan_image y R plan img'))
      (λ z.
      let s = (plan_asked y R (length img) plan z).sound in
      elsewhere_of y (mended R) (plan_image y R plan img) (plan_image y R plan img')
      (record {
        valid = s.valid;
        len_is = plan_length y R plan img ∙ s.len_is;
        good = record { few = s.good.few; mended = le_refl R.k; below = s.good.below; once = s.good.once };
        within = omega arith;
      })
      (planned_agree (agree_of y R img img' a) z))
      (λ z.
      subst (λ (i : List ℕ). AgreeElsewhere y R i (plan_image y R plan img')) (sym (plan_refused y R plan img z))
      (subst (λ (i : List ℕ). AgreeElsewhere y R img i) (sym (plan_refused y R plan img' (also (agree_of y R img img' a) z))) a))
