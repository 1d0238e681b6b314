-- Document 02, order 7: repair by a proposed plan. "A small checker accepts a plan exactly if each missing content is named once, each of its N sources is
-- a different present content of the same group, and nothing else is named; else number 15 and nothing changed." The repair is an event of demand 3's
-- runs (`Runs`, `Demand3`, `Calls`: `planned`, `plan_as_repair`); here stands what is the plan's own.
use Rattle.std.specs.Prelude.{◌≡◌, refl, ◌⊎◌, false, leb, length}
use Rattle.std.proofs.Math.Path.{sym, ap, subst⁻¹}
use Rattle.std.proofs.Common.{◌∙◌, subst, lt-ltb}
use Rattle.std.proofs.Math.Logic.{⊎_elim}
use Rattle.std.proofs.Math.Bool.{Bool, true, not}
use mathlib.Core.List.{List, [], ◌∷◌}
use Prim.Native.Nat.{ℕ, zero, suc, ◌+◌, ◌*◌, ◌≤◌, ◌<◌}
use native.Mathlib.Omega.{arith}
use Rattle.std.proofs.lemmas.Bool.{not-true}
use Rattle.std.proofs.Math.ListN.{take}
use Rattle.lists.specs.Pick.{bit, pick_true, both_true, both_hold, either_way}
use Rattle.lists.specs.Count.{count_next, count_mono, count-not}
use Rattle.lists.specs.Tabulate.{at}
use Rattle.lists.specs.Refusal.{LowestThatApplies, ◌or_else◌, refusal_by, refusal_lowest, refusal_none, grant, grant_yes, grant_no}
use Rattle.numbers.specs.declared.Layout.{Layout}
use Rattle.numbers.specs.Layouts.{contents, all_contents}
use Rattle.place.specs.Bytes.{spot, target_here}
use Rattle.parity.specs.Group.{content, Solvable, data_of, rebuilt}
use Rattle.parity.specs.Content.{content_cong}
use Rattle.parity.specs.Lowest.{used, rebuilds, determined}
use Rattle.parity.specs.Local.{rebuilt_cong}
use Rattle.homes.specs.declared.Record.{Record}
use Rattle.homes.specs.Listed.{listed, listed_at}
use Rattle.homes.specs.Records.{failed}
use Rattle.homes.specs.Missing.{home, missing}
use Rattle.pool.specs.Contents.{stored}
use Rattle.pool.specs.Counting.{missing_units, TrueCount}
use Rattle.pool.specs.Storing.{owner, storing}
use Rattle.pool.specs.Asked.{Sound, sound-passes}
use Rattle.pool.specs.Auditing.{panel_shows}
use Rattle.pool.specs.Repairing.{mended}
use Rattle.pool.specs.Changes.{Mended}
use Rattle.pool.specs.Elsewhere.{AgreeElsewhere}
use Rattle.pool.specs.Unread.{Alike}
use Rattle.pool.specs.Calls.{Repairs, Panels}
use Rattle.proposal.specs.Plans.{entry_size, entries, group_named, content_named, source, named_once, each_once, source_good, sources_good, names_missing, plan_good, Accepts}
use Rattle.proposal.specs.Pairs.{missing_pair}
use Rattle.proposal.specs.Running.{plan_tests, plan_refusal, unused, planned_byte, plan_image, plan_record, plan_count}
use Rattle.proposal.specs.Drawing.{group_drawn, content_drawn, entry_number, drawn_length, drawn_plan, draw_refusal, draw_count, draw_out}
use Rattle.proposal.specs.Calls.{RepairsBy, ChecksPlan, Draws}
use Rattle.proposal.proofs.AcceptedLaws.{plan_accepts, accepts_good, accepts_count}
use Rattle.proposal.specs.RunningLaws as L
use Rattle.proposal.proofs.RunningLaws as LProofs
use Rattle.proposal.proofs.DrawingLaws as D
use Rattle.proposal.proofs.PlanHolds as H
use Rattle.proposal.proofs.PlanUnread as U
use Rattle.promises.specs.Refusals.{pool_table}
use Rattle.promises.specs.Counts.{recounted, tests_same}
use Rattle.promises.specs.Tight.{same}

-- ---- the checker, of any outcome that its promise allows

module _ (y : Layout) (R : Record) (img plan : List ℕ) where
  abbrev plan_table : List (Bool × ℕ)
  plan_table = pool_table y R (length img) ((plan_good y R plan, 15) ∷ [])

  pub check_plan_lowest : (n : ℕ) → ChecksPlan y R img plan n → LowestThatApplies plan_table n
  unfolding plan_refusal
  check_plan_lowest n p = subst⁻¹ (LowestThatApplies plan_table) p.answer (refusal_lowest 1 plan_table (omega arith) refl)

  -- "accepts a plan exactly if": the facts of an accepted one,
  pub check_accepts : ChecksPlan y R img plan 0 → Sound y R (length img) × Accepts y R plan
  check_accepts p = let a = LProofs.plan_asked y R (length img) plan (sym p.answer) in (a.sound, a.accepts)

  -- and where they hold it is accepted,
  pub accepts_checked : Sound y R (length img) → Accepts y R plan → (n : ℕ) → ChecksPlan y R img plan n → n ≡ 0
  unfolding plan_refusal
  accepts_checked s k n p = p.answer ∙ sound-passes y R (length img) s _ ∙ refusal_none (plan_tests y R plan) (accepts_good y R plan k, tt)

  -- "else number 15"
  pub check_refuses : Sound y R (length img) → (Accepts y R plan → ⊥) → (n : ℕ) → ChecksPlan y R img plan n → n ≡ 15
  unfolding plan_refusal refusal_by ◌or_else◌
  check_refuses s never n p =
      p.answer ∙ sound-passes y R (length img) s (plan_tests y R plan)
      ∙ ⊎_elim
      (λ (t : plan_good y R plan ≡ true). absurd (never (plan_accepts y R plan t)))
      (λ (t : plan_good y R plan ≡ false). ap (λ (b : Bool). refusal_by ((b, 15) ∷ [])) t)
      (either_way (plan_good y R plan))

  pub check_plan_tight : (n n' : ℕ) → ChecksPlan y R img plan n → ChecksPlan y R img plan n' → n ≡ n'
  check_plan_tight n n' p q = same p.answer q.answer

  -- ---- the repair

  module _ (n count : ℕ) (R' : Record) (img' : List ℕ) (p : RepairsBy y R img plan n count R' img') where
    -- it answers what the checker answers
    pub repair_by_checked : ChecksPlan y R img plan n
    repair_by_checked = record { answer = p.answer }

    pub repair_by_lowest : LowestThatApplies plan_table n
    repair_by_lowest = check_plan_lowest n repair_by_checked

    -- "nothing changed", on any refusal
    pub repair_by_refused_unchanged : (n ≡ 0 → ⊥) → (img' ≡ img) × (R' ≡ R) × (count ≡ 0)
    repair_by_refused_unchanged never =
        let u = H.plan_refused_unchanged y R plan img (λ z. never (p.answer ∙ z)) in
        (p.image ∙ u.0, p.rec ∙ u.1, p.pairs ∙ u.2)

    -- "a repair changes only the new homes of units that were missing", and no byte of a failed target
    pub repair_by_changes_only : (x : ℕ) → x < length img → (at img' x ≡ at img x) ⊎ Mended y R x
    repair_by_changes_only x h = subst⁻¹ (λ (l : List ℕ). (at l x ≡ at img x) ⊎ Mended y R x) p.image (H.plan_changes y R plan img x h)

    pub repair_by_leaves : (x : ℕ) → x < length img → failed R (target_here y x) ≡ true → at img' x ≡ at img x
    repair_by_leaves x h f = ap (λ (l : List ℕ). at l x) p.image ∙ H.plan_spares_failed y R plan img x h f

    -- a true count stays true
    pub repair_by_keeps_true : TrueCount y R → TrueCount y R'
    repair_by_keeps_true e = subst⁻¹ (TrueCount y) p.rec (H.plan_keeps_true y R plan img e)

  pub repair_by_tight : (n n' k k' : ℕ) (S S' : Record) (i i' : List ℕ) → RepairsBy y R img plan n k S i → RepairsBy y R img plan n' k' S' i'
      → (n ≡ n') × (k ≡ k') × (S ≡ S') × (i ≡ i')
  repair_by_tight n n' k k' S S' i i' p q =
      (same p.answer q.answer, same p.pairs q.pairs, same p.rec q.rec, same p.image q.image)

  -- on any image, an accepted one: as many contents as it has entries, the list repaired, its count 0, and of each entry the content that it names stands at
  -- its home under the whole list, rebuilt from the entry's sources
  pub record PlanRan (count : ℕ) (R' : Record) (img' : List ℕ) : Type 0 where
    pub each : count ≡ entries y plan
    pub rec_is : R' ≡ mended R
    pub byte_is : (i o : ℕ) → i < entries y plan → o < y.u
        → at img' (spot y (group_named y plan i) (home y R R.k (group_named y plan i) (content_named y plan i)) o)
        ≡ rebuilt y.n y.k (unused y plan i) (stored y R img (group_named y plan i) o) (content_named y plan i)

  pub repair_by_ran : (count : ℕ) (R' : Record) (img' : List ℕ) → RepairsBy y R img plan 0 count R' img' → PlanRan count R' img'
  unfolding plan_count plan_record
  repair_by_ran count R' img' p =
      record {
        each = p.pairs ∙ grant_yes _ (missing_units y R) 0 z ∙ sym (accepts_count y R plan k);
        rec_is = p.rec ∙ grant_yes _ (mended R) R z;
        byte_is = λ i o hi ho.
            let g = group_named y plan i in
            let c = content_named y plan i in
            ap (λ (l : List ℕ). at l (spot y g (home y R R.k g c) o)) p.image
            ∙ at-new-home i o hi ho
            ∙ (unfold planned_byte in ap (λ (e : ℕ). rebuilt y.n y.k (unused y plan e) (stored y R img g o) c) (L.named_by_entry y R plan k i hi));
      }
    where
      z : plan_refusal y R (length img) plan ≡ 0
      z = sym p.answer

      k : Accepts y R plan
      k = (LProofs.plan_asked y R (length img) plan z).accepts

      at-new-home : (i o : ℕ) → i < entries y plan → o < y.u
          → at (plan_image y R plan img) (spot y (group_named y plan i) (home y R R.k (group_named y plan i) (content_named y plan i)) o)
          ≡ planned_byte y R plan img (group_named y plan i) o (content_named y plan i)
      at-new-home i o hi ho =
          unfold stored in unfold home in (H.stored-planned y R plan img z (group_named y plan i) o (content_named y plan i) (k.group_lt i hi) ho (k.content-lt i hi)
          ∙ pick_true (missing y R (group_named y plan i) (content_named y plan i)) _ _ (k.is_missing i hi))

-- the same told by the sources: some data bytes give each of an entry's N sources what is stored of it, and the content that it names is what they encode to,
-- also where other present contents disagree with them
pub record FromSources (y : Layout) (plan : List ℕ) (i : ℕ) (old : ℕ → ℕ) (new : ℕ) : Type 0 where
  pub from : ℕ → ℕ
  pub bytes : (j : ℕ) → j < y.n → from j < 256
  pub agrees : (j : ℕ) → j < y.n → content y.n from (source y plan i j) ≡ old (source y plan i j)
  pub encodes : new ≡ content y.n from (content_named y plan i)

module _ (y : Layout) (R : Record) (img plan : List ℕ) (count' : ℕ) (R' : Record) (img' : List ℕ) (p : RepairsBy y R img plan 0 count' R' img') (i o : ℕ)
    (in_plan : i < entries y plan) (in-unit : o < y.u) where
  asked : L.PlanAsked y R (length img) plan
  asked = LProofs.plan_asked y R (length img) plan (sym p.answer)

  s : Solvable y.n y.k (unused y plan i)
  s = L.plan_solvable y R plan asked.accepts asked.sound.valid i in_plan

  -- what is stored of the entry's group at that unit offset
  abbrev old : ℕ → ℕ
  old = stored y R img (group_named y plan i) o

  -- a source is used, as are N contents in all, so it is one of the N lowest of these
  source-used : (j : ℕ) → j < y.n → used y.n (unused y plan i) (source y plan i j) ≡ true
  unfolding unused
  source-used j h =
      let u = source y plan i j in
      let in_use : ℕ → Bool = λ v. not (not (listed (source y plan i) y.n v)) in
      let on : in_use u ≡ true = ap (λ (b : Bool). not (not b)) (listed_at (source y plan i) y.n j h) in
      let one : bit (in_use u) ≡ 1 = ap bit on in
      both_hold (in_use u) _ on
      (lt-ltb _ y.n (omega (
        arith,
        one,
        count_next in_use u,
        count_mono in_use (u + 1) (contents y) (omega (arith, asked.accepts.source-lt i j in_plan h)),
        L.sources_count y R plan asked.accepts i in_plan,
        count-not (listed (source y plan i) y.n) (contents y),
        count-not (λ v. not (listed (source y plan i) y.n v)) (contents y),
      )))

  -- on an image of bytes there are such data,
  pub repair_by_agrees : ((c : ℕ) → c < contents y → old c < 256)
      → FromSources y plan i old (at img' (spot y (group_named y plan i) (home y R R.k (group_named y plan i) (content_named y plan i)) o))
  repair_by_agrees small =
      let r = rebuilds y.n y.k (unused y plan i) s old small in
      let k = asked.accepts in
      record {
        from = r.from;
        bytes = r.bytes;
        agrees = λ j h. r.agrees (source y plan i j) (k.source-lt i j in_plan h) (source-used j h);
        encodes =
            (repair_by_ran y R img plan count' R' img' p).byte_is i o in_plan in-unit
            ∙ r.filled (content_named y plan i) (k.content-lt i in_plan) (L.missing-unused y R plan k i (content_named y plan i) in_plan (k.is_missing i in_plan));
      }

  -- and no other byte has any
  pub repair_by_determined : (new new' : ℕ) → FromSources y plan i old new → FromSources y plan i old new' → new ≡ new'
  repair_by_determined new new' a b =
      a.encodes
      ∙ content_cong y.n a.from b.from (λ j h. sym (given a.from a.bytes a.agrees j h) ∙ given b.from b.bytes b.agrees j h) (content_named y plan i)
      ∙ sym b.encodes
    where
      given : (d : ℕ → ℕ) → ((j : ℕ) → j < y.n → d j < 256) → ((j : ℕ) → j < y.n → content y.n d (source y plan i j) ≡ old (source y plan i j))
          → (j : ℕ) → j < y.n → data_of y.n y.k (unused y plan i) old j ≡ d j
      given d small agree =
          determined y.n y.k (unused y plan i) s old d small
          (λ u h t.
          let w = L.used-source y R plan asked.accepts i u in_plan (not-true (unused y plan i u) (both_true (not (unused y plan i u)) _ t).0) in
          ap (content y.n d) (sym w.2) ∙ agree w.0 w.1 ∙ ap old w.2)

-- "The row controller wants to choose what repair reads": of two images that agree on the sources that an entry names, the content that it names becomes the
-- same, whatever else differs
pub reads_its_sources_alone : (y : Layout) (R : Record) (plan img img₂ : List ℕ) (count count₂ : ℕ) (R' R₂' : Record) (img' img₂' : List ℕ)
    → RepairsBy y R img plan 0 count R' img' → RepairsBy y R img₂ plan 0 count₂ R₂' img₂' → (i o : ℕ) → i < entries y plan → o < y.u
    → ((j : ℕ) → j < y.n → stored y R img (group_named y plan i) o (source y plan i j) ≡ stored y R img₂ (group_named y plan i) o (source y plan i j))
    → at img' (spot y (group_named y plan i) (home y R R.k (group_named y plan i) (content_named y plan i)) o)
    ≡ at img₂' (spot y (group_named y plan i) (home y R R.k (group_named y plan i) (content_named y plan i)) o)
reads_its_sources_alone y R plan img img₂ count count₂ R' R₂' img' img₂' p q i o hi ho agree =
    let a = LProofs.plan_asked y R (length img) plan (sym p.answer) in
    (repair_by_ran y R img plan count R' img' p).byte_is i o hi ho
    ∙ rebuilt_cong y.n y.k (unused y plan i) (L.plan_solvable y R plan a.accepts a.sound.valid i hi) _ _
    (λ u b t. let w = L.used-source y R plan a.accepts i u hi t in
    ap (stored y R img (group_named y plan i) o) (sym w.2) ∙ agree w.0 w.1 ∙ ap (stored y R img₂ (group_named y plan i) o) w.2)
    (content_named y plan i) (a.accepts.content-lt i hi)
    ∙ sym ((repair_by_ran y R img₂ plan count₂ R₂' img₂' q).byte_is i o hi ho)

-- ---- our planner

-- its plan is refused only where plain repair is, with the same number, and run it is plain repair, on any pool at all
pub drawn_repairs : (y : Layout) (R : Record) (img : List ℕ) (n count : ℕ) (R' : Record) (img' : List ℕ) → RepairsBy y R img (drawn_plan y R) n count R' img'
    → Repairs y R img n count R' img'
drawn_repairs y R img n count R' img' p =
    record {
      answer = p.answer ∙ D.drawn_refusal y R (length img);
      pairs = p.pairs ∙ D.drawn_count y R (length img);
      rec = p.rec ∙ D.drawn_record y R (length img);
      image = p.image ∙ D.drawn_image y R img;
    }

module _ (y : Layout) (R : Record) (img buf : List ℕ) (n count : ℕ) (buf' : List ℕ) (p : Draws y R img buf n count buf') where
  abbrev draw_table : List (Bool × ℕ)
  draw_table = pool_table y R (length img) ((leb (entry_size y * missing_units y R) (length buf), 5) ∷ [])

  pub draw_plan_lowest : LowestThatApplies draw_table n
  unfolding draw_refusal
  draw_plan_lowest = subst⁻¹ (LowestThatApplies draw_table) p.answer (refusal_lowest 1 draw_table (omega arith) refl)

  -- "its buffer too short is 5, unchanged", and unchanged on any refusal
  pub draw_plan_refused_unchanged : (n ≡ 0 → ⊥) → (buf' ≡ buf) × (count ≡ 0)
  unfolding draw_out draw_count
  draw_plan_refused_unchanged never =
      let no : draw_refusal y R (length img) (length buf) ≡ 0 → ⊥ = λ z. never (p.answer ∙ z) in
      (p.numbers ∙ grant_no _ _ buf no, p.written ∙ grant_no _ _ 0 no)

  -- accepted, it wrote N+2 numbers for each unit that awaits repair, and the buffer's others stay
  pub draw_plan_wrote : n ≡ 0 → (count ≡ entry_size y * missing_units y R) × (take count buf' ≡ drawn_plan y R)
  unfolding draw_count
  draw_plan_wrote z =
      let yes : draw_refusal y R (length img) (length buf) ≡ 0 = sym p.answer ∙ z in
      (p.written ∙ grant_yes _ (drawn_length y R) 0 yes, (λ i. take (p.written i) (p.numbers i)) ∙ D.draw_wrote y R (length img) buf yes)

  pub draw_plan_rest_stays : (x : ℕ) → count ≤ x → at buf' x ≡ at buf x
  draw_plan_rest_stays x h =
      ap (λ (l : List ℕ). at l x) p.numbers ∙ D.draw_rest y R (length img) buf x (subst⁻¹ (λ (m : ℕ). m ≤ x) (sym p.written) h)

  -- "Our planner's plans are always accepted": the plan as it stands in the buffer, on the same pool,
  pub drawn_accepted : n ≡ 0 → (m : ℕ) → ChecksPlan y R img (take count buf') m → m ≡ 0
  drawn_accepted z m q =
      q.answer ∙ ap (plan_refusal y R (length img)) (draw_plan_wrote z).1 ∙ D.drawn_refusal y R (length img)
      ∙ D.draw_sound y R (length img) buf (sym p.answer ∙ z)

  -- and on any pool at all, whatever its bytes, repair by it is plain repair
  pub drawn_as_repair : n ≡ 0 → (m pairs : ℕ) (R' : Record) (img' : List ℕ) → RepairsBy y R img (take count buf') m pairs R' img' → Repairs y R img m pairs R' img'
  drawn_as_repair z m pairs R' img' q = drawn_repairs y R img m pairs R' img' (subst (λ (l : List ℕ). RepairsBy y R img l m pairs R' img') (draw_plan_wrote z).1 q)

pub draw_plan_tight : (y : Layout) (R : Record) (img buf : List ℕ) (n n' k k' : ℕ) (b b' : List ℕ) → Draws y R img buf n k b → Draws y R img buf n' k' b'
    → (n ≡ n') × (k ≡ k') × (b ≡ b')
draw_plan_tight y R img buf n n' k k' b b' p q = (same p.answer q.answer, same p.written q.written, same p.numbers q.numbers)

-- how long the buffer must be, a true count's panel tells
pub panel_tells_length : (y : Layout) (R : Record) (img : List ℕ) → TrueCount y R → (waiting dead repaired : ℕ) → Panels y R img 0 waiting dead repaired
    → drawn_length y R ≡ entry_size y * waiting
unfolding panel_shows
panel_tells_length y R img e waiting dead repaired p =
    ap (λ (n : ℕ). entry_size y * n) (sym e ∙ sym (p.waits ∙ grant_yes _ R.waiting 0 (sym p.answer)))

-- ---- what nothing depends on: a failed target's bytes and an unused spare's; the checker and the planner depend on no byte of the image

module _ (y : Layout) (R : Record) (img img' : List ℕ) (agree : AgreeElsewhere y R img img') where
  pub repair_by_independent : (plan : List ℕ)
      → (plan_refusal y R (length img) plan ≡ plan_refusal y R (length img') plan)
      × (plan_count y R (length img) plan ≡ plan_count y R (length img') plan)
      × (plan_record y R (length img) plan ≡ plan_record y R (length img') plan)
      × AgreeElsewhere y (plan_record y R (length img) plan) (plan_image y R plan img) (plan_image y R plan img')
  repair_by_independent plan = (
    ap (λ (n : ℕ). plan_refusal y R n plan) (sym agree.same_length),
    ap (λ (n : ℕ). plan_count y R n plan) (sym agree.same_length),
    ap (λ (n : ℕ). plan_record y R n plan) (sym agree.same_length),
    H.plan_elsewhere y R plan img img' agree,
  )

  pub draw_plan_independent : (buf : List ℕ)
      → (draw_refusal y R (length img) (length buf) ≡ draw_refusal y R (length img') (length buf))
      × (draw_count y R (length img) (length buf) ≡ draw_count y R (length img') (length buf))
      × (draw_out y R (length img) buf ≡ draw_out y R (length img') buf)
  draw_plan_independent buf = (
    ap (λ (n : ℕ). draw_refusal y R n (length buf)) (sym agree.same_length),
    ap (λ (n : ℕ). draw_count y R n (length buf)) (sym agree.same_length),
    ap (λ (n : ℕ). draw_out y R n buf) (sym agree.same_length),
  )

-- nor a record's entries from k on

module _ (y : Layout) (R R' : Record) (alike : Alike R R') (img : List ℕ) where
  pub repair_by_unread : (plan : List ℕ)
      → (plan_refusal y R (length img) plan ≡ plan_refusal y R' (length img) plan)
      × (plan_count y R (length img) plan ≡ plan_count y R' (length img) plan)
      × Alike (plan_record y R (length img) plan) (plan_record y R' (length img) plan)
      × (plan_image y R plan img ≡ plan_image y R' plan img)
  repair_by_unread plan = (
    U.plan_number_unread y R R' alike (length img) plan,
    U.plan_count_unread y R R' alike (length img) plan,
    U.plan_record_unread y R R' alike (length img) plan,
    U.plan_image_unread y R R' alike plan img,
  )

  pub draw_plan_unread : (buf : List ℕ)
      → (draw_refusal y R (length img) (length buf) ≡ draw_refusal y R' (length img) (length buf))
      × (draw_count y R (length img) (length buf) ≡ draw_count y R' (length img) (length buf))
      × (draw_out y R (length img) buf ≡ draw_out y R' (length img) buf)
  draw_plan_unread buf = (
    U.draw_number_unread y R R' alike (length img) (length buf),
    U.draw_count_unread y R R' alike (length img) (length buf),
    U.draw_out_unread y R R' alike (length img) buf,
  )

-- nor, but for number 3 and the record handed back, the record's count (order 6); both counts are within the bound
module _ (y : Layout) (R : Record) (n : ℕ) (fits : R.waiting ≤ all_contents y) (fits' : n ≤ all_contents y) where
  plan_same : (img plan : List ℕ) → plan_refusal y R (length img) plan ≡ plan_refusal y (recounted R n) (length img) plan
  unfolding plan_refusal plan_good each_once named_once sources_good source_good names_missing missing home
  plan_same img plan = tests_same y R n fits fits' (length img) _

  pub repair_by_uncounted : (img plan : List ℕ)
      → (plan_refusal y R (length img) plan ≡ plan_refusal y (recounted R n) (length img) plan)
      × (plan_count y R (length img) plan ≡ plan_count y (recounted R n) (length img) plan)
      × (plan_image y R plan img ≡ plan_image y (recounted R n) plan img)
      × (recounted (plan_record y R (length img) plan) 0 ≡ recounted (plan_record y (recounted R n) (length img) plan) 0)
  unfolding plan_record plan_count plan_image planned_byte storing owner missing_units stored missing home
  repair_by_uncounted img plan = (number, rw number, rw number, by (plan_refusal y R (length img) plan) ∙ rw number (sym (by' (plan_refusal y (recounted R n) (length img) plan))))
    where
      number : plan_refusal y R (length img) plan ≡ plan_refusal y (recounted R n) (length img) plan
      number = plan_same img plan

      by : (m : ℕ) → recounted (grant m (mended R) R) 0 ≡ grant m (mended R) (recounted R 0)
      by zero = refl
      by (suc m) = refl

      by' : (m : ℕ) → recounted (grant m (mended R) (recounted R n)) 0 ≡ grant m (mended R) (recounted R 0)
      by' zero = refl
      by' (suc m) = refl

  pub draw_plan_uncounted : (img buf : List ℕ)
      → (draw_refusal y R (length img) (length buf) ≡ draw_refusal y (recounted R n) (length img) (length buf))
      × (draw_count y R (length img) (length buf) ≡ draw_count y (recounted R n) (length img) (length buf))
      × (draw_out y R (length img) buf ≡ draw_out y (recounted R n) (length img) buf)
  unfolding draw_count draw_out drawn_plan entry_number group_drawn content_drawn missing_pair missing_units missing home
  draw_plan_uncounted img buf = (number, rw number, rw number)
    where
      number : draw_refusal y R (length img) (length buf) ≡ draw_refusal y (recounted R n) (length img) (length buf)
      number = unfold draw_refusal in (tests_same y R n fits fits' (length img) _)
