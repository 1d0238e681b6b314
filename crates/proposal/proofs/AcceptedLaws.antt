-- "accepts a plan exactly if": the test says what `Accepts` says, and an accepted plan has as many entries as units await repair.
use Rattle.std.specs.Prelude.{◌≡◌, true, false, List, eqb, ltb, length}
use Rattle.std.proofs.Math.Path.{sym, ap}
use Rattle.std.proofs.Common.{ap₂, ◌∙◌, mod-lt, arith}
use Rattle.std.proofs.Math.Bool.{Bool, not}
use Prim.Native.Nat.{ℕ, ◌*◌, ◌/◌, ◌%◌, ◌<◌}
use Rattle.std.proofs.Math.Nat.{div-add-mod}
use borrow.Author.Tests.{eqb-true, eq-eqb, ltb-true, lt-ltb, not-true}
use Rattle.lists.specs.Pick.{pick, both, pick_true, both_true, both_hold, same_truth}
use Rattle.lists.specs.Count.{count, count_same, count_none, count_single, single_count}
use Rattle.lists.specs.Search.{any, all, any_none, all-at, all_true, lowest_is, lowest}
use Rattle.lists.specs.Digits.{digits_below, div_below}
use Rattle.numbers.specs.declared.Layout.{Layout}
use Rattle.numbers.specs.Layouts.{all_groups, contents}
use Rattle.homes.specs.declared.Record.{Record}
use Rattle.homes.specs.Listed.{listed, listed_at}
use Rattle.homes.specs.Once.{Once, once_differ, differ_once, listed_where, count-listed}
use Rattle.homes.specs.Missing.{missing}
use Rattle.pool.specs.Counting.{missing_units}
use Rattle.proposal.specs.Plans.{entry_size, entries, group_named, content_named, source, names, named_once, each_once, source_good, sources_good, names_missing, plan_good, Named, Accepts}
use Rattle.proposal.specs.Pairs.{pair_number, missing_pair, missing_pair_lem, pairs_counted, pair_apart, some_factor}
use Rattle.proposal.specs.Accepted.{names-true, names_hold, pair_of, entry_good}

module _ (y : Layout) (R : Record) (plan : List ℕ) where
  pub record EntryFacts (i : ℕ) : Type 0 where
    pub group_lt : group_named y plan i < all_groups y
    pub content-lt : content_named y plan i < contents y
    pub is_missing : missing y R (group_named y plan i) (content_named y plan i) ≡ true
    pub source-lt : (j : ℕ) → j < y.n → source y plan i j < contents y
    pub source-present : (j : ℕ) → j < y.n → missing y R (group_named y plan i) (source y plan i j) ≡ false
    pub source_once : Once (source y plan i) y.n

  pub entry_facts : (i : ℕ) → entry_good y R plan i ≡ true → EntryFacts i
  unfolding entry_good names_missing sources_good source_good
  entry_facts i t =
      record {
        group_lt = ltb-true (group_named y plan i) (all_groups y) m.0;
        content-lt = ltb-true (content_named y plan i) (contents y) d.0;
        is_missing = d.1;
        source-lt = λ j h. ltb-true (source y plan i j) (contents y) (each j h).0;
        source-present = λ j h. not-true (missing y R (group_named y plan i) (source y plan i j)) (rest j h).0;
        source_once = λ j h. not-true (listed (source y plan i) j (source y plan i j)) (rest j h).1;
      }
    where
      b : (names_missing y R plan i ≡ true) × (all (source_good y R plan i) y.n ≡ true)
      b = both_true (names_missing y R plan i) _ t

      m : (ltb (group_named y plan i) (all_groups y) ≡ true)
          × (both (ltb (content_named y plan i) (contents y)) (missing y R (group_named y plan i) (content_named y plan i)) ≡ true)
      m = both_true (ltb (group_named y plan i) (all_groups y)) _ b.0

      d : (ltb (content_named y plan i) (contents y) ≡ true) × (missing y R (group_named y plan i) (content_named y plan i) ≡ true)
      d = both_true (ltb (content_named y plan i) (contents y)) _ m.1

      each : (j : ℕ) → j < y.n → (ltb (source y plan i j) (contents y) ≡ true)
          × (both (not (missing y R (group_named y plan i) (source y plan i j))) (not (listed (source y plan i) j (source y plan i j))) ≡ true)
      each j h = both_true (ltb (source y plan i j) (contents y)) _ (all-at (source_good y R plan i) y.n b.1 j h)

      rest : (j : ℕ) → j < y.n → (not (missing y R (group_named y plan i) (source y plan i j)) ≡ true) × (not (listed (source y plan i) j (source y plan i j)) ≡ true)
      rest j h = both_true (not (missing y R (group_named y plan i) (source y plan i j))) _ (each j h).1

  pub entry-good : (i : ℕ) → EntryFacts i → entry_good y R plan i ≡ true
  unfolding entry_good names_missing sources_good source_good
  entry-good i f =
      both_hold (names_missing y R plan i) _
      (both_hold (ltb (group_named y plan i) (all_groups y)) _ (lt-ltb (group_named y plan i) (all_groups y) f.group_lt)
      (both_hold (ltb (content_named y plan i) (contents y)) _ (lt-ltb (content_named y plan i) (contents y) f.content-lt) f.is_missing))
      (all_true (source_good y R plan i) y.n
      (λ j h.
      both_hold (ltb (source y plan i j) (contents y)) _ (lt-ltb (source y plan i j) (contents y) (f.source-lt j h))
      (both_hold (not (missing y R (group_named y plan i) (source y plan i j))) _ (ap not (f.source-present j h)) (ap not (f.source_once j h)))))

  -- the facts of every entry, and each missing content named by one: all that `Accepts` says
  pub accepts_of : entry_size y * entries y plan ≡ length plan → ((i : ℕ) → i < entries y plan → EntryFacts i)
      → ((g c : ℕ) → g < all_groups y → c < contents y → missing y R g c ≡ true → Named y plan g c)
      → ((i l : ℕ) → i < entries y plan → l < entries y plan → group_named y plan i ≡ group_named y plan l → content_named y plan i ≡ content_named y plan l → i ≡ l)
      → Accepts y R plan
  accepts_of whole facts named once =
      record {
        whole = whole;
        named = named;
        once = once;
        source_differs = λ i j l hi hj hl e. once_differ (source y plan i) y.n (facts i hi).source_once j l hj hl e;
        source-lt = λ i j h. (facts i h).source-lt j;
        source-present = λ i j h. (facts i h).source-present j;
        group_lt = λ i h. (facts i h).group_lt;
        content-lt = λ i h. (facts i h).content-lt;
        is_missing = λ i h. (facts i h).is_missing;
      }

  pub facts_of : Accepts y R plan → (i : ℕ) → i < entries y plan → EntryFacts i
  facts_of k i h =
      record {
        group_lt = k.group_lt i h;
        content-lt = k.content-lt i h;
        is_missing = k.is_missing i h;
        source-lt = λ j. k.source-lt i j h;
        source-present = λ j. k.source-present i j h;
        source_once = differ_once (source y plan i) y.n (λ j l. k.source_differs i j l h);
      }

  -- ---- "accepts a plan exactly if": what the test tells

  pick_at : (t a : Bool) → t ≡ true → pick t a true ≡ true → a ≡ true
  pick_at t a e h = sym (pick_true t a true e) ∙ h

  pick-on : (t a : Bool) → (t ≡ true → a ≡ true) → pick t a true ≡ true
  pick-on true a h = h (λ i. true)
  pick-on false a h = λ i. true

  once_at : each_once y R plan ≡ true → (g c : ℕ) → g < all_groups y → c < contents y → missing y R g c ≡ true
      → count (λ i. names y plan i g c) (entries y plan) ≡ 1
  unfolding each_once named_once
  once_at t g c hg hc m =
      eqb-true _ 1
      (pick_at (missing y R g c) _ m
      (all-at (named_once y R plan g) (contents y) (all-at (λ h. all (named_once y R plan h) (contents y)) (all_groups y) t g hg) c hc))

  pub plan_accepts : plan_good y R plan ≡ true → Accepts y R plan
  unfolding plan_good
  plan_accepts t =
      accepts_of (eqb-true _ _ a.0) facts
      (λ g c hg hc m.
      let f : ℕ → Bool = λ i. names y plan i g c in
      let one = once_at b.0 g c hg hc m in
      let w = lowest_is f (entries y plan) (some f (entries y plan) one) in
      let n = names-true y plan _ g c w.1 in
      record { by = lowest f (entries y plan); by_lt = w.0; group_is = n.0; content_is = n.1 })
      (λ i l hi hl p q.
      let e = facts i hi in
      count_single (λ j. names y plan j (group_named y plan i) (content_named y plan i)) (entries y plan)
      (once_at b.0 _ _ e.group_lt e.content-lt e.is_missing) i l hi hl
      (names_hold y plan i _ _ (λ z. group_named y plan i) (λ z. content_named y plan i)) (names_hold y plan l _ _ (sym p) (sym q)))
    where
      a : (eqb (entry_size y * entries y plan) (length plan) ≡ true)
          × (both (each_once y R plan) (both (all (sources_good y R plan) (entries y plan)) (all (names_missing y R plan) (entries y plan))) ≡ true)
      a = both_true (eqb (entry_size y * entries y plan) (length plan)) _ t

      b : (each_once y R plan ≡ true) × (both (all (sources_good y R plan) (entries y plan)) (all (names_missing y R plan) (entries y plan)) ≡ true)
      b = both_true (each_once y R plan) _ a.1

      d : (all (sources_good y R plan) (entries y plan) ≡ true) × (all (names_missing y R plan) (entries y plan) ≡ true)
      d = both_true (all (sources_good y R plan) (entries y plan)) _ b.1

      facts : (i : ℕ) → i < entries y plan → EntryFacts i
      facts i h =
          entry_facts i
          (unfold entry_good in (both_hold (names_missing y R plan i) _ (all-at (names_missing y R plan) (entries y plan) d.1 i h)
          (all-at (sources_good y R plan) (entries y plan) d.0 i h)))

      some : (f : ℕ → Bool) (n : ℕ) → count f n ≡ 1 → any f n ≡ true
      some f n e =
          by (any f n) (λ q. let z = count_none f n (any_none f n q) in absurd (omega (arith, e, z)))
        where
          by : (s : Bool) → (s ≡ false → ⊥) → s ≡ true
          by true h = λ i. true
          by false h = absurd (h (λ i. false))

  -- and what it asks
  pub accepts_good : Accepts y R plan → plan_good y R plan ≡ true
  unfolding plan_good each_once named_once
  accepts_good k =
      both_hold (eqb (entry_size y * entries y plan) (length plan)) _ (eq-eqb _ _ k.whole)
      (both_hold (all (λ g. all (named_once y R plan g) (contents y)) (all_groups y)) _
      (all_true (λ g. all (named_once y R plan g) (contents y)) (all_groups y)
      (λ g hg. all_true (named_once y R plan g) (contents y)
      (λ c hc. pick-on (missing y R g c) _
      (λ m.
      let w = k.named g c hg hc m in
      eq-eqb _ 1
      (single_count (λ i. names y plan i g c) (entries y plan) w.by w.by_lt (names_hold y plan w.by g c w.group_is w.content_is)
      (λ l h q. let n = names-true y plan l g c q in k.once l w.by h w.by_lt (n.0 ∙ sym w.group_is) (n.1 ∙ sym w.content_is)))))))
      (both_hold (all (sources_good y R plan) (entries y plan)) _
      (all_true (sources_good y R plan) (entries y plan) (λ i h. (parts i h).1))
      (all_true (names_missing y R plan) (entries y plan) (λ i h. (parts i h).0))))
    where
      parts : (i : ℕ) → i < entries y plan → (names_missing y R plan i ≡ true) × (sources_good y R plan i ≡ true)
      parts i h = both_true (names_missing y R plan i) _ (unfold entry_good in (entry-good i (facts_of k i h)))

  -- ---- the number of entries

  module _ (facts : (i : ℕ) → i < entries y plan → EntryFacts i) (once : Once (pair_of y plan) (entries y plan)) where
    -- different entries list as many pairs
    pub as_many : count (listed (pair_of y plan) (entries y plan)) (contents y * all_groups y) ≡ entries y plan
    as_many =
        count-listed (pair_of y plan) (entries y plan) (contents y * all_groups y) (λ i h. digits_below (facts i h).group_lt (facts i h).content-lt) once

    -- and what is listed is missing
    pub listed-missing : (x : ℕ) → x < contents y * all_groups y → listed (pair_of y plan) (entries y plan) x ≡ true → missing_pair y R x ≡ true
    listed-missing x h t =
        let w = listed_where (pair_of y plan) (entries y plan) x t in
        let f = facts _ w.0 in
        ap (missing_pair y R) (sym w.1) ∙ missing_pair_lem y R _ _ f.content-lt ∙ f.is_missing

  -- an accepted plan has as many as units await repair
  pub accepts_count : Accepts y R plan → entries y plan ≡ missing_units y R
  accepts_count k =
      sym (as_many (facts_of k) once)
      ∙ count_same (listed (pair_of y plan) (entries y plan)) (missing_pair y R) (contents y * all_groups y)
      (λ x h. same_truth _ _ (listed-missing (facts_of k) once x h) (back x h))
      ∙ sym (pairs_counted y R)
    where
      once : Once (pair_of y plan) (entries y plan)
      once =
          differ_once (pair_of y plan) (entries y plan)
          (λ i l hi hl e. let p = pair_apart y _ _ _ _ (k.content-lt i hi) (k.content-lt l hl) e in k.once i l hi hl p.0 p.1)

      back : (x : ℕ) → x < contents y * all_groups y → missing_pair y R x ≡ true → listed (pair_of y plan) (entries y plan) x ≡ true
      back x h t =
          let p = some_factor x (contents y) (all_groups y) h in
          let e : pair_number y (x / contents y) (x % contents y) ≡ x = div-add-mod x (contents y) in
          let w = k.named (x / contents y) (x % contents y) (div_below x (contents y) (all_groups y) p h) (mod-lt x p) (unfold missing_pair in t) in
          ap (listed (pair_of y plan) (entries y plan)) (sym (ap₂ (pair_number y) w.group_is w.content_is ∙ e))
          ∙ listed_at (pair_of y plan) (entries y plan) w.by w.by_lt
