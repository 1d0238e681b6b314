-- What the checker computes in place of "each missing content is named once": no entry names what one before it names, and there are as many entries
-- as units await repair. Entries that are good and different are so many just where every missing content is among those named.
use Rattle.std.specs.Prelude.{◌≡◌, Bool, true, List, ℕ, ◌*◌, ◌/◌, ◌%◌, ◌<◌, eqb, length}
use Rattle.std.proofs.Math.Path.{sym, ap}
use Rattle.std.proofs.Common.{ap₂, ◌∙◌, arith, eqb-true, eq-eqb, ne_eqb}
use Rattle.std.proofs.Math.Bool.{false, not}
use Rattle.std.proofs.Math.Nat.{div-add-mod}
use Rattle.std.proofs.lemmas.Bool.{not-true}
use Rattle.lists.specs.Pick.{both, pick_true, pick-false, both_true, both_hold, both_off, same_truth, clash, not-both_ways}
use Rattle.lists.specs.Count.{count_tight}
use Rattle.lists.specs.Search.{all, any-true, any_false, all-at, all_true}
use Rattle.lists.specs.Digits.{digits_below}
use Rattle.numbers.specs.declared.Layout.{Layout}
use Rattle.numbers.specs.Layouts.{all_groups, contents}
use Rattle.homes.specs.declared.Record.{Record}
use Rattle.homes.specs.Listed.{listed, unlisted_of}
use Rattle.homes.specs.Once.{Once, once_differ, listed_where}
use Rattle.homes.specs.Missing.{missing}
use Rattle.pool.specs.Counting.{missing_units}
use Rattle.proposal.specs.Plans.{entry_size, entries, group_named, content_named, names, plan_good, Named, Accepts}
use Rattle.proposal.specs.Pairs.{pair_number, missing_pair, missing_pair_lem, pairs_counted, pair_apart}
use Rattle.proposal.specs.Accepted.{named_below, names-true, names_hold, pair_of, entry_good}
use Rattle.proposal.proofs.AcceptedLaws.{EntryFacts, entry_facts, entry-good}
use Rattle.proposal.proofs.AcceptedLaws.{accepts_of, facts_of, plan_accepts, accepts_good, as_many, listed-missing, accepts_count}

-- entry i names what no entry before it names
unfoldable pub names_anew : Layout → List ℕ → ℕ → Bool
names_anew y plan i = not (named_below y plan i (group_named y plan i) (content_named y plan i))

-- each entry is good by itself, and none repeats another
unfoldable pub entries_good : Layout → Record → List ℕ → Bool
entries_good y R plan = both (all (entry_good y R plan) (entries y plan)) (all (names_anew y plan) (entries y plan))

-- whole entries, as many as units await repair, and all good
unfoldable pub checked : Layout → Record → List ℕ → Bool
checked y R plan =
    both (eqb (entry_size y * entries y plan) (length plan)) (both (eqb (entries y plan) (missing_units y R)) (entries_good y R plan))

-- a length that the entries' size divides is that of whole entries
pub plan_whole : (y : Layout) (plan : List ℕ) → length plan % entry_size y ≡ 0 → entry_size y * entries y plan ≡ length plan
unfolding entries
plan_whole y plan z = omega (arith, z, div-add-mod (length plan) (entry_size y))

-- ---- it is the test of the document's words

module _ (y : Layout) (R : Record) (plan : List ℕ) where
  -- as many entries as units await repair: every missing content is named
  all_named : ((i : ℕ) → i < entries y plan → EntryFacts y R plan i) → Once (pair_of y plan) (entries y plan) → entries y plan ≡ missing_units y R
      → (g c : ℕ) → g < all_groups y → c < contents y → missing y R g c ≡ true → Named y plan g c
  all_named facts once e g c hg hc t =
      let l = count_tight (listed (pair_of y plan) (entries y plan)) (missing_pair y R) (contents y * all_groups y) (listed-missing y R plan facts once)
      (as_many y R plan facts once ∙ e ∙ pairs_counted y R) (pair_number y g c) (digits_below hg hc) (missing_pair_lem y R g c hc ∙ t) in
      let w = listed_where (pair_of y plan) (entries y plan) (pair_number y g c) l in
      let p = pair_apart y _ g _ c (facts _ w.0).content-lt hc w.1 in
      record { by = _; by_lt = w.0; group_is = p.0; content_is = p.1 }

  checked_accepts : checked y R plan ≡ true → Accepts y R plan
  unfolding checked entries_good names_anew named_below
  checked_accepts t =
      accepts_of y R plan (eqb-true _ _ a.0) facts
      (all_named facts pairs_once (eqb-true (entries y plan) (missing_units y R) b.0))
      (λ i l hi hl p q. once_differ (pair_of y plan) (entries y plan) pairs_once i l hi hl (ap₂ (pair_number y) p q))
    where
      a : (eqb (entry_size y * entries y plan) (length plan) ≡ true) × (both (eqb (entries y plan) (missing_units y R)) (entries_good y R plan) ≡ true)
      a = both_true (eqb (entry_size y * entries y plan) (length plan)) _ t

      b : (eqb (entries y plan) (missing_units y R) ≡ true) × (both (all (entry_good y R plan) (entries y plan)) (all (names_anew y plan) (entries y plan)) ≡ true)
      b = both_true (eqb (entries y plan) (missing_units y R)) _ a.1

      d : (all (entry_good y R plan) (entries y plan) ≡ true) × (all (names_anew y plan) (entries y plan) ≡ true)
      d = both_true (all (entry_good y R plan) (entries y plan)) _ b.1

      facts : (i : ℕ) → i < entries y plan → EntryFacts y R plan i
      facts i h = entry_facts y R plan i (all-at (entry_good y R plan) (entries y plan) d.0 i h)

      pairs_once : Once (pair_of y plan) (entries y plan)
      pairs_once i h =
          unlisted_of (pair_of y plan) i (pair_of y plan i)
          (λ l k e.
          let p = pair_apart y _ _ _ _ (facts l (omega arith)).content-lt (facts i h).content-lt e in
          clash (named_below y plan i (group_named y plan i) (content_named y plan i))
          (any-true (λ l. names y plan l (group_named y plan i) (content_named y plan i)) i l k (names_hold y plan l _ _ p.0 p.1))
          (not-true (named_below y plan i (group_named y plan i) (content_named y plan i)) (all-at (names_anew y plan) (entries y plan) d.1 i h)))

  accepts_checked : Accepts y R plan → checked y R plan ≡ true
  unfolding checked entries_good names_anew named_below
  accepts_checked k =
      both_hold (eqb (entry_size y * entries y plan) (length plan)) _ (eq-eqb _ _ k.whole)
      (both_hold (eqb (entries y plan) (missing_units y R)) _ (eq-eqb (entries y plan) (missing_units y R) (accepts_count y R plan k))
      (both_hold (all (entry_good y R plan) (entries y plan)) _
      (all_true (entry_good y R plan) (entries y plan) (λ i h. entry-good y R plan i (facts_of y R plan k i h)))
      (all_true (names_anew y plan) (entries y plan)
      (λ i h. ap not (any_false (λ l. names y plan l (group_named y plan i) (content_named y plan i)) i
      (λ l b. not-both_ways (names y plan l (group_named y plan i) (content_named y plan i))
      (λ t. let p = names-true y plan l _ _ t in
      let e : l ≡ i = k.once l i (omega arith) h p.0 p.1 in absurd (omega arith))))))))

  -- so it may be computed
  pub checked-good : checked y R plan ≡ plan_good y R plan
  checked-good =
      same_truth _ _ (λ t. accepts_good y R plan (checked_accepts t)) (λ t. accepts_checked (plan_accepts y R plan t))

  -- ---- test by test

  -- what is left over of the last entry
  pub plan_broken : (length plan % entry_size y ≡ 0 → ⊥) → plan_good y R plan ≡ false
  unfolding checked entries
  plan_broken ne =
      sym checked-good
      ∙ pick-false (eqb (entry_size y * entries y plan) (length plan)) _ false
      (ne_eqb (entry_size y * entries y plan) (length plan) (λ q. ne (omega (arith, q, div-add-mod (length plan) (entry_size y)))))

  -- the entries are so many as are awaited, or not
  module _ (waiting : ℕ) (counted : waiting ≡ missing_units y R) where
    pub plan_uneven : (length plan / entry_size y ≡ waiting → ⊥) → plan_good y R plan ≡ false
    unfolding checked entries
    plan_uneven ne =
        sym checked-good
        ∙ ap (both (eqb (entry_size y * entries y plan) (length plan)))
        (pick-false (eqb (entries y plan) (missing_units y R)) _ false (ne_eqb (entries y plan) (missing_units y R) (λ q. ne (q ∙ sym counted))))
        ∙ both_off (eqb (entry_size y * entries y plan) (length plan))

    -- the rest is the entries'
    pub plan_even : length plan % entry_size y ≡ 0 → length plan / entry_size y ≡ waiting → (b : Bool) → b ≡ entries_good y R plan → b ≡ plan_good y R plan
    unfolding checked entries
    plan_even z even b e =
        e
        ∙ sym (pick_true (eqb (entries y plan) (missing_units y R)) (entries_good y R plan) false (eq-eqb (entries y plan) (missing_units y R) (even ∙ counted)))
        ∙ sym (pick_true (eqb (entry_size y * entries y plan) (length plan)) _ false (eq-eqb (entry_size y * entries y plan) (length plan) (plan_whole y plan z)))
        ∙ checked-good
