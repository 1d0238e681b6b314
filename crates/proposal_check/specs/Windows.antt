-- The checker's test by windows. No call may be lent a scratch for it, since a refusal changes no byte, and a large pool has more groups than a local
-- array has room for marks: so it goes over the plan once for each window of so many groups, with one mark a group, which has a bit for each missing
-- content by its rank. Here: what the pass over one window finds, that the windows join, and what the marks tell.
use Rattle.std.specs.Prelude.{◌≡◌, refl, Bool, List, ℕ, ◌+◌, ◌*◌, ◌/◌, ◌%◌, ◌<◌, ◌≤◌, ltb, length, get_or, set}
use Rattle.std.proofs.Common.{sym, ap₂, ◌∙◌, subst, mod-lt, not-suc-le-zero, add-one, arith, get_or-set_same, get_or-set_other}
use Rattle.std.proofs.Math.Path.{ap}
use Rattle.std.proofs.Math.Bool.{true, false, not}
use Rattle.std.proofs.Math.Nat.{div-add-mod}
use borrow.Author.Tests.{eqb-true, eqb-false, eq-eqb, ne_eqb, ltb-true, lt-ltb, le-ltb, not-true}
use Rattle.std.proofs.Math.Dec.{eqb}
use Rattle.std.proofs.Math.ListN.{length-set}
use Rattle.lists.specs.Pick.{pick, both, bit, pick_true, pick-false, both_true, both_hold, same_truth, clash, not-both_ways, equal_or_not}
use Rattle.lists.specs.Count.{count, count_next, count_mono}
use Rattle.lists.specs.Search.{any, all, any_same, all-at, all_true}
use Rattle.lists.specs.Those.{those, those-place}
use Rattle.lists.specs.Digits.{div_of, mod_of, div_below}
use Rattle.numbers.specs.declared.Layout.{Layout}
use Rattle.numbers.specs.Layouts.{Valid, all_groups, contents}
use Rattle.homes.specs.declared.Record.{Record}
use Rattle.homes.specs.Records.{Good}
use Rattle.homes.specs.Missing.{missing}
use Rattle.homes.proofs.MissingLaws.{few-missing}
use Rattle.proposal.specs.Plans.{entries, group_named, content_named}
use Rattle.proposal.specs.Accepted.{named_below, names-true, names_hold, entry_good}
use Rattle.proposal.proofs.AcceptedLaws.{EntryFacts, entry_facts}
use Rattle.proposal_check.specs.Checked.{names_anew, entries_good}
use Rattle.proposal_check.specs.Marks.{weight_of, mark_with, mark_bit, mark_more}

-- entry i names a group of window w: one of the `size` groups from size·w on
abbrev pub in_window : Layout → List ℕ → ℕ → ℕ → ℕ → Bool
in_window y plan size w i = eqb (group_named y plan i / size) w

-- what the pass over window w asks of entry i: a group of the pool; and in the window, all that the checker asks of an entry
unfoldable pub passes : Layout → Record → List ℕ → ℕ → ℕ → ℕ → Bool
passes y R plan size w i =
    both (ltb (group_named y plan i) (all_groups y)) (pick (in_window y plan size w i) (both (entry_good y R plan i) (names_anew y plan i)) true)

unfoldable pub window_good : Layout → Record → List ℕ → ℕ → ℕ → Bool
window_good y R plan size w = all (passes y R plan size w) (entries y plan)

-- ---- the windows join

pick-on : (t a : Bool) → (t ≡ true → a ≡ true) → pick t a true ≡ true
pick-on true a h = h refl
pick-on false a h = refl

module _ (y : Layout) (R : Record) (plan : List ℕ) (size : ℕ) where
  in_each : (i : ℕ) → entry_good y R plan i ≡ true → names_anew y plan i ≡ true → (w : ℕ) → passes y R plan size w i ≡ true
  unfolding passes
  in_each i e a w =
      both_hold (ltb (group_named y plan i) (all_groups y)) _ (lt-ltb _ _ (entry_facts y R plan i e).group_lt)
      (pick-on (in_window y plan size w i) _ (λ t. both_hold (entry_good y R plan i) _ e a))

  -- a window that is not good, and all entries are not
  pub window_fails : (w : ℕ) → window_good y R plan size w ≡ false → entries_good y R plan ≡ false
  unfolding window_good entries_good
  window_fails w f =
      not-both_ways _
      (λ t. let b = both_true (all (entry_good y R plan) (entries y plan)) _ t in
      clash (all (passes y R plan size w) (entries y plan))
      (all_true (passes y R plan size w) (entries y plan)
      (λ i h. in_each i (all-at (entry_good y R plan) (entries y plan) b.0 i h) (all-at (names_anew y plan) (entries y plan) b.1 i h) w)) f)

  -- each entry is looked at in the window of its group, and two entries that name one content are in the same: so good windows that have all groups
  -- are all that is asked
  module _ (windows : ℕ) (some : 0 < size) (one : 0 < windows) (cover : all_groups y ≤ size * windows)
      (good : (w : ℕ) → w < windows → window_good y R plan size w ≡ true) where
    in_some : (i : ℕ) → i < entries y plan → (entry_good y R plan i ≡ true) × (names_anew y plan i ≡ true)
    unfolding window_good passes
    in_some i h =
        let at : (w : ℕ) → w < windows → passes y R plan size w i ≡ true = λ w b. all-at (passes y R plan size w) (entries y plan) (good w b) i h in
        let g = group_named y plan i in
        let l : g < all_groups y = ltb-true g (all_groups y) (both_true (ltb g (all_groups y)) _ (at 0 one)).0 in
        let w = (both_true (ltb g (all_groups y)) _ (at (g / size) (div_below g size windows some (omega arith)))).1 in
        both_true (entry_good y R plan i) _ (sym (pick_true (eqb (g / size) (g / size)) _ true (eq-eqb (g / size) (g / size) refl)) ∙ w)

    pub windows_join : entries_good y R plan ≡ true
    unfolding entries_good
    windows_join =
        both_hold (all (entry_good y R plan) (entries y plan)) _
        (all_true (entry_good y R plan) (entries y plan) (λ i h. (in_some i h).0)) (all_true (names_anew y plan) (entries y plan) (λ i h. (in_some i h).1))

-- ---- marks

-- the rank of the content that entry i names: how many missing contents of its group lie below it
abbrev pub rank_named : Layout → Record → List ℕ → ℕ → ℕ
rank_named y R plan i = count (missing y R (group_named y plan i)) (content_named y plan i)

-- one of the first e entries names the missing content of rank r of group g
unfoldable pub marked : Layout → Record → List ℕ → ℕ → ℕ → ℕ → Bool
marked y R plan e g r = any (λ i. both (eqb (group_named y plan i) g) (eqb (rank_named y R plan i) r)) e

-- the pass over window w after e entries: all of them pass, and mark h has the bits of group size·w + h
pub record Passed (y : Layout) (R : Record) (plan : List ℕ) (size w e : ℕ) (marks : List ℕ) : Type 0 where
  pub room : length marks ≡ size
  pub marks_are : (h : ℕ) → h < size → get_or marks h 0 ≡ mark_with (marked y R plan e (size * w + h))
  pub all_pass : (i : ℕ) → i < e → passes y R plan size w i ≡ true

-- ranks are below 3, and tell missing contents apart
pub rank_lt : (y : Layout) (R : Record) → Valid y → Good y R → (g c : ℕ) → c < contents y → missing y R g c ≡ true → count (missing y R g) c < 3
rank_lt y R v r g c h t =
    let one : bit (missing y R g c) ≡ 1 = ap bit t in
    omega (arith, one, count_next (missing y R g) c, count_mono (missing y R g) (c + 1) (contents y) (omega arith), few-missing y v R g r, v.few_parity)

rank_apart : (f : ℕ → Bool) (n c d : ℕ) → c < n → d < n → f c ≡ true → f d ≡ true → count f c ≡ count f d → c ≡ d
rank_apart f n c d hc hd tc td e =
    sym (those-place f n c hc tc).1 ∙ ap (λ (i : ℕ). get_or (those f n) i 0) e ∙ (those-place f n d hd td).1

marked_next : (y : Layout) (R : Record) (plan : List ℕ) (e g r : ℕ)
    → marked y R plan (e + 1) g r ≡ pick (both (eqb (group_named y plan e) g) (eqb (rank_named y R plan e) r)) true (marked y R plan e g r)
unfolding marked any
marked_next y R plan e g r = ap (any (λ i. both (eqb (group_named y plan i) g) (eqb (rank_named y R plan i) r))) (add-one e)

mark_same : (f g : ℕ → Bool) → ((r : ℕ) → f r ≡ g r) → mark_with f ≡ mark_with g
unfolding mark_with
mark_same f g e = (λ i. bit (e 0 i) + 2 * bit (e 1 i) + 4 * bit (e 2 i))

module _ (y : Layout) (R : Record) (plan : List ℕ) (size w : ℕ) where
  -- before the first entry: no mark is set
  pub passed_begin : (marks : List ℕ) → length marks ≡ size → ((x : ℕ) → x < size → get_or marks x 0 ≡ 0) → Passed y R plan size w 0 marks
  unfolding marked any mark_with
  passed_begin marks len none =
      record { room = len; marks_are = λ h a. none h a; all_pass = λ i b. absurd (not-suc-le-zero b) }

  pub passed_end : (e : ℕ) (marks : List ℕ) → Passed y R plan size w e marks → entries y plan ≤ e → window_good y R plan size w ≡ true
  unfolding window_good
  passed_end e marks p q = all_true (passes y R plan size w) (entries y plan) (λ i b. p.all_pass i (omega arith))

  -- an entry that fails, fails the window
  passed_never : (e : ℕ) → e < entries y plan → passes y R plan size w e ≡ false → window_good y R plan size w ≡ false
  unfolding window_good
  passed_never e h f = not-both_ways _ (λ t. clash (passes y R plan size w e) (all-at (passes y R plan size w) (entries y plan) t e h) f)

  -- one that names no group of the pool
  pub outside_fails : (e : ℕ) → e < entries y plan → all_groups y ≤ group_named y plan e → window_good y R plan size w ≡ false
  unfolding passes
  outside_fails e h l =
      passed_never e h (pick-false (ltb (group_named y plan e) (all_groups y)) _ false (le-ltb (group_named y plan e) (all_groups y) l))

  -- one of the window that is not good
  pub entry_fails : (e : ℕ) → e < entries y plan → in_window y plan size w e ≡ true → entry_good y R plan e ≡ false → window_good y R plan size w ≡ false
  unfolding passes
  entry_fails e h within f =
      passed_never e h
      (not-both_ways _
      (λ q.
      let a = (both_true (ltb (group_named y plan e) (all_groups y)) _ q).1 in
      clash (entry_good y R plan e) (both_true (entry_good y R plan e) _ (sym (pick_true (in_window y plan size w e) _ true within) ∙ a)).0 f))

  module _ (e : ℕ) (marks : List ℕ) (p : Passed y R plan size w e marks) where
    next_pass : passes y R plan size w e ≡ true → (i : ℕ) → i < e + 1 → passes y R plan size w i ≡ true
    next_pass t i b = equal_or_not i e (λ (q : i ≡ e). ap (passes y R plan size w) q ∙ t) (λ (n : i ≡ e → ⊥). p.all_pass i (omega arith))

    -- the mark of a group that the entry does not name
    other : (g : ℕ) → (group_named y plan e ≡ g → ⊥) → mark_with (marked y R plan e g) ≡ mark_with (marked y R plan (e + 1) g)
    other g ne =
        mark_same (marked y R plan e g) (marked y R plan (e + 1) g)
        (λ r. sym (marked_next y R plan e g r
        ∙ pick-false (both (eqb (group_named y plan e) g) (eqb (rank_named y R plan e) r)) true _
        (ap (λ (t : Bool). both t (eqb (rank_named y R plan e) r)) (ne_eqb (group_named y plan e) g ne))))

    -- an entry of another window: nothing changes
    pub passed_by : group_named y plan e < all_groups y → in_window y plan size w e ≡ false → Passed y R plan size w (e + 1) marks
    unfolding passes
    passed_by l out =
        record {
          room = p.room;
          marks_are = λ h a.
              p.marks_are h a
              ∙ other (size * w + h) (λ q. eqb-false (group_named y plan e / size) w out (ap (λ (x : ℕ). x / size) q ∙ div_of size w a));
          all_pass = next_pass
              (both_hold (ltb (group_named y plan e) (all_groups y)) _ (lt-ltb _ _ l) (pick-false (in_window y plan size w e) _ true out));
        }

    module _ (v : Valid y) (r : Good y R) (some : 0 < size) (within : in_window y plan size w e ≡ true) (good : entry_good y R plan e ≡ true) where
      facts : EntryFacts y R plan e
      facts = entry_facts y R plan e good

      here : size * w + group_named y plan e % size ≡ group_named y plan e
      here =
          ap (λ (x : ℕ). size * x + group_named y plan e % size) (sym (eqb-true (group_named y plan e / size) w within))
          ∙ div-add-mod (group_named y plan e) size

      pub rank_small : rank_named y R plan e < 3
      rank_small = rank_lt y R v r _ _ facts.content-lt facts.is_missing

      mark_in : group_named y plan e % size < length marks
      mark_in = subst (λ (m : ℕ). group_named y plan e % size < m) (sym p.room) (mod-lt (group_named y plan e) some)

      mark_is : get_or marks (group_named y plan e % size) 0 ≡ mark_with (marked y R plan e (group_named y plan e))
      mark_is =
          p.marks_are (group_named y plan e % size) (mod-lt (group_named y plan e) some) ∙ ap (λ (g : ℕ). mark_with (marked y R plan e g)) here

      -- an entry before it of the same group is good too
      same_group : (i : ℕ) → i < e → group_named y plan i ≡ group_named y plan e → EntryFacts y R plan i
      unfolding passes
      same_group i b q =
          let t = (both_true (ltb (group_named y plan i) (all_groups y)) _ (p.all_pass i b)).1 in
          let u : in_window y plan size w i ≡ true = ap (λ (x : ℕ). eqb (x / size) w) q ∙ within in
          entry_facts y R plan i (both_true (entry_good y R plan i) _ (sym (pick_true (in_window y plan size w i) _ true u) ∙ t)).0

      -- that its rank is marked tells whether its content is named before
      mark_tells : marked y R plan e (group_named y plan e) (rank_named y R plan e) ≡ named_below y plan e (group_named y plan e) (content_named y plan e)
      unfolding marked named_below
      mark_tells =
          any_same _ _ e
          (λ i b. same_truth _ _
          (λ t.
          let d = both_true (eqb (group_named y plan i) (group_named y plan e)) _ t in
          let q = eqb-true _ _ d.0 in
          let f = same_group i b q in
          names_hold y plan i _ _ q
          (rank_apart (missing y R (group_named y plan e)) (contents y) _ _ f.content-lt facts.content-lt
          (ap (λ (g : ℕ). missing y R g (content_named y plan i)) (sym q) ∙ f.is_missing) facts.is_missing
          (ap (λ (g : ℕ). count (missing y R g) (content_named y plan i)) (sym q) ∙ eqb-true _ _ d.1)))
          (λ t. let n = names-true y plan i _ _ t in
          both_hold (eqb (group_named y plan i) (group_named y plan e)) _ (eq-eqb _ _ n.0)
          (eq-eqb _ _ (ap₂ (λ (g c : ℕ). count (missing y R g) c) n.0 n.1))))

      bit_is : (get_or marks (group_named y plan e % size) 0 / weight_of (rank_named y R plan e)) % 2
          ≡ bit (named_below y plan e (group_named y plan e) (content_named y plan e))
      bit_is =
          ap (λ (m : ℕ). (m / weight_of (rank_named y R plan e)) % 2) mark_is
          ∙ mark_bit (marked y R plan e (group_named y plan e)) (rank_named y R plan e) rank_small
          ∙ ap bit mark_tells

      -- where the bit is set the window fails,
      pub mark_found : e < entries y plan → (get_or marks (group_named y plan e % size) 0 / weight_of (rank_named y R plan e)) % 2 ≡ 1
          → window_good y R plan size w ≡ false
      unfolding passes names_anew
      mark_found h t =
          passed_never e h
          (not-both_ways _
          (λ q.
          let a = (both_true (ltb (group_named y plan e) (all_groups y)) _ q).1 in
          let b = (both_true (entry_good y R plan e) _ (sym (pick_true (in_window y plan size w e) _ true within) ∙ a)).1 in
          let z : bit (named_below y plan e (group_named y plan e) (content_named y plan e)) ≡ 0 = ap bit (not-true (named_below y plan e (group_named y plan e) (content_named y plan e)) b) in
          omega (arith, z, t, bit_is)))

      off : (b : Bool) → (bit b ≡ 1 → ⊥) → b ≡ false
      off true h = absurd (h refl)
      off false h = refl

      -- else its weight is added
      pub passed_in : ((get_or marks (group_named y plan e % size) 0 / weight_of (rank_named y R plan e)) % 2 ≡ 1 → ⊥)
          → Passed y R plan size w (e + 1)
          (set marks (group_named y plan e % size) (get_or marks (group_named y plan e % size) 0 + weight_of (rank_named y R plan e)))
      unfolding passes names_anew
      passed_in no-bit =
          record {
            room = length-set marks _ _ ∙ p.room;
            marks_are = λ h a. marks_next h a;
            all_pass = next_pass
                (both_hold (ltb (group_named y plan e) (all_groups y)) _ (lt-ltb _ _ facts.group_lt)
                (pick_true (in_window y plan size w e) _ true within ∙ both_hold (entry_good y R plan e) _ good (ap not anew)));
          }
        where
          anew : named_below y plan e (group_named y plan e) (content_named y plan e) ≡ false
          anew = off _ (λ q. no-bit (bit_is ∙ q))

          more : ℕ
          more = get_or marks (group_named y plan e % size) 0 + weight_of (rank_named y R plan e)

          -- the group's own mark
          grown : more ≡ mark_with (marked y R plan (e + 1) (group_named y plan e))
          grown =
              ap (λ (m : ℕ). m + weight_of (rank_named y R plan e)) mark_is
              ∙ mark_more (marked y R plan e (group_named y plan e)) (marked y R plan (e + 1) (group_named y plan e)) (rank_named y R plan e) rank_small
              (mark_tells ∙ anew)
              (λ q. marked_next y R plan e (group_named y plan e) q
              ∙ ap (λ (t : Bool). pick (both t (eqb (rank_named y R plan e) q)) true (marked y R plan e (group_named y plan e) q))
              (eq-eqb (group_named y plan e) (group_named y plan e) refl))

          marks_next : (h : ℕ) → h < size
              → get_or (set marks (group_named y plan e % size) more) h 0 ≡ mark_with (marked y R plan (e + 1) (size * w + h))
          marks_next h a =
              equal_or_not h (group_named y plan e % size)
              (λ (q : h ≡ group_named y plan e % size).
              ap (λ (x : ℕ). get_or (set marks (group_named y plan e % size) more) x 0) q
              ∙ get_or-set_same marks (group_named y plan e % size) more 0 mark_in
              ∙ grown
              ∙ ap (λ (g : ℕ). mark_with (marked y R plan (e + 1) g)) (sym (ap (λ (x : ℕ). size * w + x) q ∙ here)))
              (λ (ne : h ≡ group_named y plan e % size → ⊥).
              get_or-set_other marks (group_named y plan e % size) h more 0 ne
              ∙ p.marks_are h a
              ∙ other (size * w + h) (λ (q : group_named y plan e ≡ size * w + h). ne (sym (ap (λ (x : ℕ). x % size) q ∙ mod_of size w a))))
