-- The planner content after content, group after group: what its buffer holds, and that this comes to the plan.
use Rattle.std.specs.Prelude.{◌≡◌, refl, Bool, true, false, not, List, ℕ, ◌+◌, ◌*◌, ◌-◌, ◌<◌, ◌≤◌, eqb, length, drop}
use Rattle.std.proofs.Common.{sym, ap, ◌∙◌, subst, mul-le-mul_left, mul-zero, mul-suc, add-sub_of_le, le_refl, add-one, arith}
use Rattle.std.proofs.Common.{length-append, length-drop, ext_get_or, get_or-append-add, get_or-drop}
use Rattle.std.proofs.Math.Path.{ap₂}
use Rattle.std.proofs.Math.ListN.{get_or-append}
use Rattle.lists.specs.Pick.{pick, bit, below_or_not}
use Rattle.lists.specs.Count.{count, count_next, count_mono, count_same}
use Rattle.lists.specs.Digits.{digits_below}
use Rattle.lists.specs.Passing.{over}
use Rattle.lists.specs.Span.{Span, span_none, span_join, span_to}
use Rattle.lists.specs.Tabulate.{at}
use Rattle.lists.specs.Those.{length-those, those-place, those_same}
use Rattle.parity.specs.Matrix.{flag}
use Rattle.numbers.specs.declared.Layout.{Layout}
use Rattle.numbers.specs.Layouts.{Valid, all_groups, contents}
use Rattle.homes.specs.declared.Record.{Record}
use Rattle.homes.specs.Records.{Good}
use Rattle.homes.specs.Missing.{missing}
use Rattle.pool.specs.Counting.{missing_units}
use Rattle.proposal.specs.Plans.{entry_size, number_of}
use Rattle.proposal.specs.Pairs.{pair_number, missing_pair, missing_pair_lem, pairs_counted}
use Rattle.proposal.specs.Drawing.{group_drawn, content_drawn, entry_number, drawn_length, drawn_plan}
use Rattle.proposal.specs.LowestSources.{enough_present}
use Rattle.proposal.proofs.DrawingLaws.{drawn_length_lem, drawn_number, drawn_at, numbers_length}
use Rattle.proposal_draw.specs.Entry.{present_by, entry_by, entry_from}

-- number z of the plan
abbrev pub plan_number : Layout → Record → ℕ → ℕ
plan_number y R z = at (drawn_plan y R) z

-- how many numbers are written once the pairs whose number is below x are looked at
abbrev pub numbers_below : Layout → Record → ℕ → ℕ
numbers_below y R x = entry_size y * count (missing_pair y R) x

-- the flags are those of group g's missing contents
abbrev pub FlagsAre : Layout → Record → ℕ → List Bool → Type 0
FlagsAre y R g flags = (c : ℕ) → c < contents y → flag flags c ≡ missing y R g c

-- ---- an entry by the flags is the plan's

entry_by_flags : (y : Layout) (R : Record) (g : ℕ) (flags : List Bool) → FlagsAre y R g flags → (c f : ℕ) → entry_by flags (contents y) g c f ≡ entry_number y R g c f
unfolding entry_by entry_number
entry_by_flags y R g flags are c f =
    ap (λ (l : List ℕ). pick (eqb f 0) g (pick (eqb f 1) c (at l (f - 2))))
    (those_same (present_by flags) (λ u. not (missing y R g u)) (contents y) (λ u h. ap not (are u h)))

-- ---- a missing pair and its entry

module _ (y : Layout) (R : Record) (g c : ℕ) (hg : g < all_groups y) (hc : c < contents y) (t : missing y R g c ≡ true) where
  pair_missing : missing_pair y R (pair_number y g c) ≡ true
  pair_missing = missing_pair_lem y R g c hc ∙ t

  -- as many missing pairs stand before it as there are entries before its own
  own-entry : let e = count (missing_pair y R) (pair_number y g c) in (e < missing_units y R) × (group_drawn y R e ≡ g) × (content_drawn y R e ≡ c)
  own-entry =
      let e = count (missing_pair y R) (pair_number y g c) in
      let p = those-place (missing_pair y R) (contents y * all_groups y) (pair_number y g c) (digits_below hg hc) pair_missing in
      let q = drawn_at y R e g c hc p.1 in
      (omega (arith, p.0, numbers_length y R), q.0, q.1)

  -- so there is room for it
  entry_room : numbers_below y R (pair_number y g c) + entry_size y ≤ drawn_length y R
  entry_room =
      omega (arith, mul-le-mul_left (entry_size y) own-entry.0, mul-suc (entry_size y) (count (missing_pair y R) (pair_number y g c)))

  entry-after : numbers_below y R (pair_number y g c) + entry_size y ≡ numbers_below y R (pair_number y g c + 1)
  entry-after =
      let one : bit (missing_pair y R (pair_number y g c)) ≡ 1 = ap bit pair_missing in
      let e = count (missing_pair y R) (pair_number y g c) in
      sym (mul-suc (entry_size y) e)
      ∙ ap (λ (k : ℕ). entry_size y * k) (sym (add-one e) ∙ sym (count_next (missing_pair y R) (pair_number y g c) ∙ ap (λ (b : ℕ). e + b) one))

  plan_entry : (f : ℕ) → f < entry_size y → plan_number y R (numbers_below y R (pair_number y g c) + f) ≡ entry_number y R g c f
  unfolding number_of
  plan_entry f h =
      drawn_number y R (count (missing_pair y R) (pair_number y g c)) f own-entry.0 h
      ∙ ap₂ (λ (a d : ℕ). entry_number y R a d f) own-entry.1 own-entry.2

  entry-number : (flags : List Bool) → FlagsAre y R g flags → (z : ℕ) → numbers_below y R (pair_number y g c) ≤ z → z < numbers_below y R (pair_number y g c) + entry_size y
      → entry_from flags (contents y) g c (numbers_below y R (pair_number y g c)) z ≡ plan_number y R z
  entry-number flags are z h k =
      let a = numbers_below y R (pair_number y g c) in
      entry_by_flags y R g flags are c (z - a)
      ∙ sym (plan_entry (z - a) (omega arith))
      ∙ ap (plan_number y R) (add-sub_of_le h)

-- ---- the loop over a group's contents

-- group g, whose entries begin at place a of a buffer with room for the plan
pub record GroupAt (y : Layout) (R : Record) (g : ℕ) (flags : List Bool) (a : ℕ) (old : List ℕ) : Type 0 where
  pub valid : Valid y
  pub good : Good y R
  pub group : g < all_groups y
  pub flags_are : FlagsAre y R g flags
  pub room : drawn_length y R ≤ length old
  pub begins : a ≡ numbers_below y R (contents y * g)

-- its contents below c are looked at, and their entries end at place next
pub record GroupTo (y : Layout) (R : Record) (g a : ℕ) (old : List ℕ) (c next : ℕ) (out : List ℕ) : Type 0 where
  pub seen : c ≤ contents y
  pub next_is : next ≡ numbers_below y R (pair_number y g c)
  pub past : a ≤ next
  pub written : Span (plan_number y R) a next old out

module _ (y : Layout) (R : Record) (g : ℕ) (flags : List Bool) (a : ℕ) (old : List ℕ) (k : GroupAt y R g flags a old) where
  pub enough_there : y.n ≤ count (present_by flags) (contents y)
  enough_there =
      omega (
        arith,
        enough_present y R k.valid k.good g,
        length-those (λ u. not (missing y R g u)) (contents y),
        count_same (present_by flags) (λ u. not (missing y R g u)) (contents y) (λ u h. ap not (k.flags_are u h)),
      )

  pub group_begin : GroupTo y R g a old 0 a old
  group_begin =
      let z : contents y * g ≡ pair_number y g 0 = omega arith in
      record {
        seen = omega arith;
        next_is = k.begins ∙ ap (numbers_below y R) z;
        past = le_refl a;
        written = span_none (plan_number y R) a old refl;
      }

  module _ (c next : ℕ) (out : List ℕ) (s : GroupTo y R g a old c next out) where
    pub group_end : contents y ≤ c → (next ≡ numbers_below y R (contents y * (g + 1))) × Span (plan_number y R) a next old out
    group_end h =
        let all : pair_number y g c ≡ contents y * (g + 1) =
        ap (pair_number y g) (omega (arith, s.seen)) ∙ sym (ap (λ (x : ℕ). contents y * x) (add-one g) ∙ mul-suc (contents y) g) in
        (s.next_is ∙ ap (numbers_below y R) all, s.written)

    module _ (hc : c < contents y) where
      pair_after : pair_number y g c + 1 ≡ pair_number y g (c + 1)
      pair_after = omega arith

      -- a content that is present
      pub content-present : flag flags c ≡ false → (out' : List ℕ) (next' : ℕ) → out' ≡ out → next' ≡ next → GroupTo y R g a old (c + 1) next' out'
      content-present t out' next' eo en =
          let none : bit (missing_pair y R (pair_number y g c)) ≡ 0 = ap bit (missing_pair_lem y R g c hc ∙ sym (k.flags_are c hc) ∙ t) in
          let same : count (missing_pair y R) (pair_number y g c) ≡ count (missing_pair y R) (pair_number y g c + 1) =
          omega (arith, none, count_next (missing_pair y R) (pair_number y g c)) in
          record {
            seen = omega arith;
            next_is = en ∙ s.next_is ∙ ap (λ (x : ℕ). entry_size y * x) same ∙ ap (numbers_below y R) pair_after;
            past = omega (arith, en, s.past);
            written = subst (λ (l : List ℕ). Span (plan_number y R) a next' old l) (sym eo) (span_to next next' (sym en) s.written);
          }

      -- a content that is missing: there is room for its entry, and then that is written too
      pub content_room : missing y R g c ≡ true → next + entry_size y ≤ length out
      content_room t = omega (arith, k.room, s.written.len, s.next_is, entry_room y R g c k.group hc t)

      pub content-missing : flag flags c ≡ true → (out₁ out' : List ℕ) (next' : ℕ)
          → Span (entry_from flags (contents y) g c next) next (next + entry_size y) out out₁ → out' ≡ out₁ → next' ≡ next + entry_size y
          → GroupTo y R g a old (c + 1) next' out'
      content-missing t out₁ out' next' w eo en =
          record {
            seen = omega arith;
            next_is =
                en ∙ ap (λ (x : ℕ). x + entry_size y) s.next_is ∙ entry-after y R g c k.group hc is_missing ∙ ap (numbers_below y R) pair_after;
            past = omega (arith, en, s.past);
            written =
                subst (λ (l : List ℕ). Span (plan_number y R) a next' old l) (sym eo)
                (span_to (next + entry_size y) next' (sym en)
                (span_join (plan_number y R) (entry_from flags (contents y) g c next) (plan_number y R) a next (next + entry_size y) s.past (omega arith)
                s.written w (λ z h b. refl) entry_at));
          }
        where
          is_missing : missing y R g c ≡ true
          is_missing = sym (k.flags_are c hc) ∙ t

          entry_at : (z : ℕ) → next ≤ z → z < next + entry_size y → entry_from flags (contents y) g c next z ≡ plan_number y R z
          entry_at z h b =
              ap (λ (x : ℕ). entry_from flags (contents y) g c x z) s.next_is
              ∙ entry-number y R g c k.group hc is_missing flags k.flags_are z (omega (arith, s.next_is)) (omega (arith, s.next_is))

-- ---- the loop over the groups

-- the groups below g are looked at, and their entries end at place next
pub record PlanTo (y : Layout) (R : Record) (old : List ℕ) (g next : ℕ) (out : List ℕ) : Type 0 where
  pub seen : g ≤ all_groups y
  pub next_is : next ≡ numbers_below y R (contents y * g)
  pub written : Span (plan_number y R) 0 next old out

all_below : (y : Layout) (R : Record) → numbers_below y R (contents y * all_groups y) ≡ drawn_length y R
all_below y R = ap (λ (k : ℕ). entry_size y * k) (sym (pairs_counted y R))

pub plan_begin : (y : Layout) (R : Record) (old : List ℕ) → PlanTo y R old 0 0 old
unfolding count
plan_begin y R old =
    record {
      seen = omega arith;
      next_is = sym (ap (numbers_below y R) (mul-zero (contents y)) ∙ mul-zero (entry_size y));
      written = span_none (plan_number y R) 0 old refl;
    }

pub plan_turn : (y : Layout) (R : Record) (old : List ℕ) (g next : ℕ) (out : List ℕ) → PlanTo y R old g next out → g < all_groups y → (next' : ℕ) (out' : List ℕ)
    → next' ≡ numbers_below y R (contents y * (g + 1)) → Span (plan_number y R) next next' out out' → PlanTo y R old (g + 1) next' out'
plan_turn y R old g next out s hg next' out' e w =
    let rises : numbers_below y R (contents y * g) ≤ numbers_below y R (contents y * (g + 1)) =
    mul-le-mul_left (entry_size y) (count_mono (missing_pair y R) (contents y * g) (contents y * (g + 1)) (mul-le-mul_left (contents y) (omega arith))) in
    record {
      seen = omega arith;
      next_is = e;
      written =
          span_join (plan_number y R) (plan_number y R) (plan_number y R) 0 next next' (omega arith) (omega (arith, s.next_is, e, rises)) s.written w
          (λ z h k. refl) (λ z h k. refl);
    }

module _ (y : Layout) (R : Record) (old : List ℕ) (g next : ℕ) (out : List ℕ) (s : PlanTo y R old g next out)
    (needed : ℕ) (all-needed : needed ≡ drawn_length y R) where
  -- while numbers are wanted a group is left
  pub group_left : next < needed → g < all_groups y
  group_left more =
      below_or_not g (all_groups y) (λ (l : g < all_groups y). l)
      (λ (l : all_groups y ≤ g).
      let e : g ≡ all_groups y = omega (arith, s.seen) in
      absurd (omega (arith, all-needed, s.next_is, ap (λ (k : ℕ). numbers_below y R (contents y * k)) e, all_below y R)))

  -- once none is wanted the buffer holds the plan
  pub plan_end : needed ≤ length old → needed ≤ next → out ≡ over (drawn_plan y R) old
  plan_end room done =
      ext_get_or 0 out (over (drawn_plan y R) old) lengths
      (λ z h.
      below_or_not z (length (drawn_plan y R))
      (λ (b : z < length (drawn_plan y R)).
      s.written.done z (omega arith) (omega (arith, all)) ∙ sym (get_or-append (drawn_plan y R) _ 0 z b))
      (λ (b : length (drawn_plan y R) ≤ z).
      let d = z - length (drawn_plan y R) in
      let at-d : length (drawn_plan y R) + d ≡ z = add-sub_of_le b in
      s.written.after z (omega (arith, all))
      ∙ sym (ap (at (over (drawn_plan y R) old)) (sym at-d)
      ∙ get_or-append-add (drawn_plan y R) _ d 0 ∙ get_or-drop (length (drawn_plan y R)) old d 0 ∙ ap (at old) at-d)))
    where
      few : next ≤ drawn_length y R
      few =
          omega (
            arith,
            s.next_is,
            all_below y R,
            mul-le-mul_left (entry_size y) (count_mono (missing_pair y R) (contents y * g) (contents y * all_groups y) (mul-le-mul_left (contents y) s.seen)),
          )

      all : next ≡ length (drawn_plan y R)
      all = omega (arith, few, done, all-needed, drawn_length_lem y R)

      lengths : length out ≡ length (over (drawn_plan y R) old)
      lengths =
          omega (
            arith,
            s.written.len,
            room,
            all-needed,
            drawn_length_lem y R,
            length-append (drawn_plan y R) (drop (length (drawn_plan y R)) old),
            length-drop (length (drawn_plan y R)) old,
          )
