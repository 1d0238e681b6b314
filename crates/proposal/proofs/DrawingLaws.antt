-- The planner's plan is accepted, its sources are the lowest, and running it is plain repair on any image.
use Rattle.std.specs.Prelude.{◌≡◌, Bool, true, not, ℕ, ◌+◌, ◌*◌, ◌/◌, ◌%◌, ◌<◌, ◌≤◌, eqb, length}
use Rattle.std.proofs.Math.Path.{refl, ap, ap₂}
use Rattle.std.proofs.Common.{sym, ◌∙◌, subst, arith, ne_eqb, leb-true, get_or-append-add, get_or-drop}
use mathlib.Core.List.{List, []}
use Rattle.std.proofs.Math.Nat.{le_dest, div-add-mod, mod-lt, mul-div_cancel_left, add-sub_cancel_left}
use Rattle.std.proofs.lemmas.Bool.{not-true}
use Rattle.std.proofs.Math.ListN.{take}
use Rattle.std.proofs.Math.Seq.{take_at}
use Rattle.lists.specs.Pick.{pick-false, equal_or_not}
use Rattle.lists.specs.Count.{count}
use Rattle.lists.specs.Digits.{div_of, mod_of, digits_below, div_below}
use Rattle.lists.specs.Passing.{over}
use Rattle.lists.specs.Refusal.{refusal_by, or_else_left, or_else_right, refusal_none, grant, grant_yes, grant_no}
use Rattle.lists.specs.Tabulate.{at, length-tabulate, get_d_tabulate}
use Rattle.lists.specs.Those.{length-those, those-lt, those_hold, those-place, those_rank}
use Rattle.numbers.specs.declared.Layout.{Layout}
use Rattle.numbers.specs.Layouts.{Valid, all_groups, contents}
use Rattle.homes.specs.declared.Record.{Record}
use Rattle.homes.specs.Records.{Good}
use Rattle.homes.specs.Missing.{missing}
use Rattle.pool.specs.Counting.{missing_units}
use Rattle.pool.specs.Refusals.{repair_refusal}
use Rattle.pool.specs.Repairing.{mended, repair_image, repair_record, repair_count}
use Rattle.pool.specs.Asked.{Sound, pool_first, pool-asked, sound-passes, repair_asked}
use Rattle.proposal.specs.Plans.{entry_size, entries, number_of, group_named, content_named, source, plan_good, Accepts}
use Rattle.proposal.specs.Pairs.{pair_number, missing_pair, missing_numbers, missing_pair_lem, pairs_counted, some_factor}
use Rattle.proposal.proofs.AcceptedLaws.{accepts_good}
use Rattle.proposal.specs.Running.{plan_tests, plan_refusal, planned_image, plan_image, plan_record, plan_count}
use Rattle.proposal.specs.LowestSources.{LowestSources, enough_present}
use Rattle.proposal.proofs.LowestSourcesLaws.{lowest-mended}
use Rattle.proposal.specs.Drawing.{present_in, draw_tests, group_drawn, content_drawn, entry_number, drawn_length, drawn_plan, draw_refusal, draw_count, draw_out}
use Rattle.proposal.specs.DrawingLaws.{over_behind}

module _ (y : Layout) (R : Record) where
  pub drawn_length_lem : length (drawn_plan y R) ≡ drawn_length y R
  unfolding drawn_plan
  drawn_length_lem = length-tabulate (drawn_length y R) _

  pub drawn_entries : entries y (drawn_plan y R) ≡ missing_units y R
  unfolding entries
  drawn_entries = ap (λ (l : ℕ). l / entry_size y) drawn_length_lem ∙ mul-div_cancel_left (missing_units y R) (omega arith)

  pub drawn_number : (i f : ℕ) → i < missing_units y R → f < entry_size y → number_of y (drawn_plan y R) i f ≡ entry_number y R (group_drawn y R i) (content_drawn y R i) f
  unfolding number_of drawn_plan
  drawn_number i f hi hf =
      get_d_tabulate (drawn_length y R) _ (entry_size y * i + f) 0 (digits_below hi hf)
      ∙ ap₂ (λ (e d : ℕ). entry_number y R (group_drawn y R e) (content_drawn y R e) d) (div_of (entry_size y) i hf) (mod_of (entry_size y) i hf)

  group_is : (i : ℕ) → i < missing_units y R → group_named y (drawn_plan y R) i ≡ group_drawn y R i
  group_is i h = drawn_number i 0 h (omega arith) ∙ unfold entry_number in refl

  content_is : (i : ℕ) → i < missing_units y R → content_named y (drawn_plan y R) i ≡ content_drawn y R i
  content_is i h = drawn_number i 1 h (omega arith) ∙ unfold entry_number in refl

  source-number : (i j : ℕ) → entry_number y R (group_drawn y R i) (content_drawn y R i) (2 + j) ≡ at (present_in y R (group_drawn y R i)) j
  unfolding entry_number
  source-number i j =
      pick-false (eqb (2 + j) 0) _ _ (ne_eqb (2 + j) 0 (λ (q : 2 + j ≡ 0). absurd (omega arith)))
      ∙ pick-false (eqb (2 + j) 1) _ _ (ne_eqb (2 + j) 1 (λ (q : 2 + j ≡ 1). absurd (omega arith)))
      ∙ ap (at (present_in y R (group_drawn y R i))) (add-sub_cancel_left 2 j)

  source_is : (i j : ℕ) → i < missing_units y R → j < y.n → source y (drawn_plan y R) i j ≡ at (present_in y R (group_drawn y R i)) j
  source_is i j h l = drawn_number i (2 + j) h (omega arith) ∙ source-number i j

  -- ---- the missing pair that is number i

  pub numbers_length : length (missing_numbers y R) ≡ missing_units y R
  numbers_length = length-those (missing_pair y R) (contents y * all_groups y) ∙ sym (pairs_counted y R)

  pub drawn_at : (i g c : ℕ) → c < contents y → at (missing_numbers y R) i ≡ pair_number y g c → (group_drawn y R i ≡ g) × (content_drawn y R i ≡ c)
  unfolding group_drawn content_drawn
  drawn_at i g c h e = (
    ap (λ (z : ℕ). z / contents y) e ∙ div_of (contents y) g h,
    ap (λ (z : ℕ). z % contents y) e ∙ mod_of (contents y) g h,
  )

  module _ (i : ℕ) (h : i < missing_units y R) where
    number_in : i < length (missing_numbers y R)
    number_in = omega (arith, numbers_length)

    number_lt : at (missing_numbers y R) i < contents y * all_groups y
    number_lt = those-lt (missing_pair y R) (contents y * all_groups y) i number_in

    number_is : pair_number y (group_drawn y R i) (content_drawn y R i) ≡ at (missing_numbers y R) i
    unfolding group_drawn content_drawn
    number_is = div-add-mod (at (missing_numbers y R) i) (contents y)

    group_drawn_lt : group_drawn y R i < all_groups y
    unfolding group_drawn
    group_drawn_lt =
        div_below (at (missing_numbers y R) i) (contents y) (all_groups y) (some_factor (at (missing_numbers y R) i) (contents y) (all_groups y) number_lt) number_lt

    content_drawn_lt : content_drawn y R i < contents y
    unfolding content_drawn
    content_drawn_lt = mod-lt (at (missing_numbers y R) i) (some_factor (at (missing_numbers y R) i) (contents y) (all_groups y) number_lt)

    drawn_missing : missing y R (group_drawn y R i) (content_drawn y R i) ≡ true
    drawn_missing =
        sym (missing_pair_lem y R (group_drawn y R i) (content_drawn y R i) content_drawn_lt)
        ∙ ap (missing_pair y R) number_is
        ∙ those_hold (missing_pair y R) (contents y * all_groups y) i number_in

    number_rank : count (missing_pair y R) (at (missing_numbers y R) i) ≡ i
    number_rank = those_rank (missing_pair y R) (contents y * all_groups y) i number_in

module _ (y : Layout) (R : Record) (v : Valid y) (r : Good y R) where
  abbrev in_plan : {i : ℕ} → i < entries y (drawn_plan y R) → i < missing_units y R
  in_plan {i} h = subst (λ (m : ℕ). i < m) (drawn_entries y R) h

  source_in : (i j : ℕ) → j < y.n → j < length (present_in y R (group_drawn y R i))
  source_in i j h = omega (arith, enough_present y R v r (group_drawn y R i))

  pub drawn_accepts : Accepts y R (drawn_plan y R)
  drawn_accepts =
      record {
        whole = ap (λ (e : ℕ). entry_size y * e) (drawn_entries y R) ∙ sym (drawn_length_lem y R);
        named = λ g c hg hc t.
            let x = pair_number y g c in
            let p = those-place (missing_pair y R) (contents y * all_groups y) x (digits_below hg hc) (missing_pair_lem y R g c hc ∙ t) in
            let i = count (missing_pair y R) x in
            let h : i < missing_units y R = omega (arith, p.0, numbers_length y R) in
            record {
              by = i;
              by_lt = subst (λ (m : ℕ). i < m) (sym (drawn_entries y R)) h;
              group_is = group_is y R i h ∙ (drawn_at y R i g c hc p.1).0;
              content_is = content_is y R i h ∙ (drawn_at y R i g c hc p.1).1;
            };
        once = λ i l hi hl p q.
            let e : at (missing_numbers y R) i ≡ at (missing_numbers y R) l =
            sym (number_is y R i (in_plan hi))
            ∙ ap₂ (pair_number y) (sym (group_is y R i (in_plan hi)) ∙ p ∙ group_is y R l (in_plan hl))
            (sym (content_is y R i (in_plan hi)) ∙ q ∙ content_is y R l (in_plan hl))
            ∙ number_is y R l (in_plan hl) in
            sym (number_rank y R i (in_plan hi)) ∙ ap (count (missing_pair y R)) e ∙ number_rank y R l (in_plan hl);
        source_differs = λ i j l hi hj hl e.
            let here : ℕ → Bool = λ u. not (missing y R (group_drawn y R i) u) in
            sym (those_rank here (contents y) j (source_in i j hj))
            ∙ ap (count here) (sym (source_is y R i j (in_plan hi) hj) ∙ e ∙ source_is y R i l (in_plan hi) hl)
            ∙ those_rank here (contents y) l (source_in i l hl);
        source-lt = λ i j hi hj.
            subst (λ (u : ℕ). u < contents y) (sym (source_is y R i j (in_plan hi) hj))
            (those-lt (λ u. not (missing y R (group_drawn y R i) u)) (contents y) j (source_in i j hj));
        source-present = λ i j hi hj.
            ap₂ (missing y R) (group_is y R i (in_plan hi)) (source_is y R i j (in_plan hi) hj)
            ∙ not-true _ (those_hold (λ u. not (missing y R (group_drawn y R i) u)) (contents y) j (source_in i j hj));
        group_lt = λ i h. subst (λ (g : ℕ). g < all_groups y) (sym (group_is y R i (in_plan h))) (group_drawn_lt y R i (in_plan h));
        content-lt = λ i h. subst (λ (c : ℕ). c < contents y) (sym (content_is y R i (in_plan h))) (content_drawn_lt y R i (in_plan h));
        is_missing = λ i h. ap₂ (missing y R) (group_is y R i (in_plan h)) (content_is y R i (in_plan h)) ∙ drawn_missing y R i (in_plan h);
      }

  -- "Our planner's plans are always accepted"
  pub drawn_good : plan_good y R (drawn_plan y R) ≡ true
  drawn_good = accepts_good y R (drawn_plan y R) drawn_accepts

  pub drawn_lowest : LowestSources y R (drawn_plan y R)
  drawn_lowest i j hi hj = source_is y R i j (in_plan hi) hj ∙ ap (λ (g : ℕ). at (present_in y R g) j) (sym (group_is y R i (in_plan hi)))

-- it is refused where plain repair is, and with the same number
pub drawn_refusal : (y : Layout) (R : Record) (len : ℕ) → plan_refusal y R len (drawn_plan y R) ≡ repair_refusal y R len
unfolding plan_refusal
drawn_refusal y R len =
    pool_first y R len (plan_tests y R (drawn_plan y R))
    ∙ equal_or_not (repair_refusal y R len) 0
    (λ z.
    let s = repair_asked y R len z in
    or_else_right (repair_refusal y R len) _ z ∙ refusal_none (plan_tests y R (drawn_plan y R)) (drawn_good y R s.valid s.good, tt) ∙ sym z)
    (λ n. or_else_left (repair_refusal y R len) _ n)

pub drawn_image : (y : Layout) (R : Record) (img : List ℕ) → plan_image y R (drawn_plan y R) img ≡ repair_image y R img
unfolding plan_image repair_image
drawn_image y R img =
    ap (λ (n : ℕ). grant n (planned_image y R (drawn_plan y R) img) img) (drawn_refusal y R (length img))
    ∙ equal_or_not (repair_refusal y R (length img)) 0
    (λ z.
    let s = repair_asked y R (length img) z in
    grant_yes (repair_refusal y R (length img)) _ img z
    ∙ lowest-mended y R (drawn_plan y R) s.valid s.good (drawn_accepts y R s.valid s.good) (drawn_lowest y R s.valid s.good) img s.len_is
    ∙ sym (grant_yes (repair_refusal y R (length img)) _ img z))
    (λ n. grant_no (repair_refusal y R (length img)) _ img n ∙ sym (grant_no (repair_refusal y R (length img)) _ img n))

-- it leaves the record of plain repair, and answers its count
pub drawn_record : (y : Layout) (R : Record) (len : ℕ) → plan_record y R len (drawn_plan y R) ≡ repair_record y R len
unfolding plan_record repair_record
drawn_record y R len = ap (λ (n : ℕ). grant n (mended R) R) (drawn_refusal y R len)

pub drawn_count : (y : Layout) (R : Record) (len : ℕ) → plan_count y R len (drawn_plan y R) ≡ repair_count y R len
unfolding plan_count repair_count
drawn_count y R len = ap (λ (n : ℕ). grant n (missing_units y R) 0) (drawn_refusal y R len)

pub draw_asked : (y : Layout) (R : Record) (len room : ℕ) → draw_refusal y R len room ≡ 0 → Sound y R len × (drawn_length y R ≤ room)
unfolding draw_refusal
draw_asked y R len room z = let p = pool-asked y R len (draw_tests y R room) refl z in (p.0, leb-true (drawn_length y R) room p.1.0)

module _ (y : Layout) (R : Record) (len : ℕ) (buf : List ℕ) (z : draw_refusal y R len (length buf) ≡ 0) where
  pub draw_sound : repair_refusal y R len ≡ 0
  unfolding repair_refusal refusal_by
  draw_sound = sound-passes y R len (draw_asked y R len (length buf) z).0 []

  -- the numbers that it wrote are the plan
  pub draw_wrote : take (draw_count y R len (length buf)) (draw_out y R len buf) ≡ drawn_plan y R
  unfolding draw_count draw_out
  draw_wrote =
      ap₂ take (grant_yes (draw_refusal y R len (length buf)) _ _ z) (grant_yes (draw_refusal y R len (length buf)) _ _ z)
      ∙ take_at (drawn_plan y R) _ (drawn_length y R) (drawn_length_lem y R)

-- the buffer's numbers behind the plan stay
pub draw_rest : (y : Layout) (R : Record) (len : ℕ) (buf : List ℕ) (x : ℕ) → draw_count y R len (length buf) ≤ x → at (draw_out y R len buf) x ≡ at buf x
unfolding draw_count draw_out
draw_rest y R len buf x =
    equal_or_not (draw_refusal y R len (length buf)) 0
    (λ (z : draw_refusal y R len (length buf) ≡ 0) (h : grant (draw_refusal y R len (length buf)) (drawn_length y R) 0 ≤ x).
    let past : length (drawn_plan y R) ≤ x = omega (arith, h, drawn_length_lem y R, grant_yes (draw_refusal y R len (length buf)) (drawn_length y R) 0 z) in
    ap (λ (l : List ℕ). at l x) (grant_yes (draw_refusal y R len (length buf)) _ _ z) ∙ over_behind (drawn_plan y R) buf x past)
    (λ (no : draw_refusal y R len (length buf) ≡ 0 → ⊥) (h : grant (draw_refusal y R len (length buf)) (drawn_length y R) 0 ≤ x).
    ap (λ (l : List ℕ). at l x) (grant_no (draw_refusal y R len (length buf)) (over (drawn_plan y R) buf) buf no))
