-- One entry of a plan as the code looks at it: its numbers from a place of the plan on, and the flags of its group's missing contents.
use Rattle.std.specs.Prelude.{◌≡◌, refl, Bool, not, List, ◌++◌, ℕ, ◌+◌, ◌*◌, ◌<◌, ◌≤◌, eqb, ltb, length, set, drop, Option, Some, None}
use Rattle.std.proofs.Math.Path.{sym, ap, ap₂}
use Rattle.std.proofs.Common.{◌∙◌, subst, ⊎_elim, not-suc-le-zero, mul-suc, add-one, length-drop, get_or-drop, arith, eq-eqb, ne_eqb, ltb-true, lt-ltb, le-ltb}
use Rattle.std.proofs.Math.Bool.{true, false}
use Rattle.std.proofs.Math.ListN.{length-set, get_or-append}
use Rattle.std.proofs.Math.Seq.{get_or-set_same, get_or-set_other, drop-drop, drop_at}
use Rattle.std.proofs.lemmas.Option.{none-some}
use Rattle.lists.specs.Pick.{pick, both, pick_true, pick-false, both_true, both_hold, both_off, clash, either_way, not-both_ways, equal_or_not}
use Rattle.lists.specs.Count.{count, count_same, count_mono}
use Rattle.lists.specs.Search.{any, all, all-at, all_true, all_same}
use Rattle.lists.specs.Tabulate.{at}
use Rattle.lists.specs.Those.{those, length-those}
use Rattle.numbers.specs.declared.Layout.{Layout}
use Rattle.numbers.specs.Layouts.{Valid, all_groups, contents}
use Rattle.parity.specs.Matrix.{flag}
use Rattle.homes.specs.declared.Record.{Record}
use Rattle.homes.specs.Records.{Good}
use Rattle.homes.specs.Listed.{listed_next, listed, listed_same}
use Rattle.homes.specs.Missing.{missing}
use Rattle.homes.proofs.MissingLaws.{few-missing}
use Rattle.proposal.specs.Plans.{entry_size, group_named, content_named, source, number_of, source_good, sources_good, names_missing}
use Rattle.proposal.specs.Accepted.{entry_good}
use Rattle.proposal_check.specs.Windows.{rank_named}

-- ---- an entry of a plan

-- entry e, as its numbers lie in the plan
pub record IsEntry (y : Layout) (plan : List ℕ) (e : ℕ) (entry : List ℕ) : Type 0 where
  pub long : length entry ≡ entry_size y
  pub numbers : (f : ℕ) → f < entry_size y → at entry f ≡ number_of y plan e f

-- what is left of a plan from entry e on begins with it, and the rest is what is left from the next on
module _ (y : Layout) (plan : List ℕ) (e : ℕ) (left entry rest : List ℕ) (here : left ≡ drop (entry_size y * e) plan) (cut : left ≡ entry ++ rest)
    (long : length entry ≡ entry_size y) where
  pub entry_cut : IsEntry y plan e entry
  unfolding number_of
  entry_cut =
      record {
        long = long;
        numbers = λ f h.
            sym (get_or-append entry rest 0 f (omega (arith, long)))
            ∙ ap (λ (l : List ℕ). at l f) (sym cut ∙ here)
            ∙ get_or-drop (entry_size y * e) plan f 0;
      }

  pub rest_here : rest ≡ drop (entry_size y * (e + 1)) plan
  rest_here =
      sym (drop_at entry rest (entry_size y) long)
      ∙ ap (drop (entry_size y)) (sym cut ∙ here)
      ∙ drop-drop (entry_size y) (entry_size y * e) plan
      ∙ ap (λ (n : ℕ). drop n plan) (omega (arith, mul-suc (entry_size y) e, ap (λ (x : ℕ). entry_size y * x) (add-one e)))

-- ---- the sources

-- it is below m, no flag is set at it, and none of those before it is the same
unfoldable pub source_good_by : List Bool → ℕ → List ℕ → ℕ → Bool
source_good_by flags m sources j =
    both (ltb (at sources j) m)
    (both (not (flag flags (at sources j))) (not (listed (at sources) j (at sources j))))

-- the first j are so, and what is taken are these and the flags
pub record Taken (flags : List Bool) (m : ℕ) (sources : List ℕ) (j : ℕ) (taken : List Bool) : Type 0 where
  pub room : length taken ≡ 19
  pub taken_are : (u : ℕ) → u < 19 → flag taken u ≡ pick (listed (at sources) j u) true (flag flags u)
  pub all-good : (i : ℕ) → i < j → source_good_by flags m sources i ≡ true

module _ (flags : List Bool) (m : ℕ) (sources : List ℕ) where
  pub taken_begin : length flags ≡ 19 → Taken flags m sources 0 flags
  unfolding listed any
  taken_begin len = record { room = len; taken_are = λ u b. refl; all-good = λ i b. absurd (not-suc-le-zero b) }

  pub taken_end : (j n : ℕ) (taken : List Bool) → Taken flags m sources j taken → n ≤ j → all (source_good_by flags m sources) n ≡ true
  taken_end j n taken k h = all_true (source_good_by flags m sources) n (λ i b. k.all-good i (omega arith))

  fails : (j n : ℕ) → j < n → source_good_by flags m sources j ≡ false → all (source_good_by flags m sources) n ≡ false
  fails j n h f = not-both_ways _ (λ t. clash (source_good_by flags m sources j) (all-at (source_good_by flags m sources) n t j h) f)

  -- a number that is too large
  pub source_above : (j n : ℕ) → j < n → m ≤ at sources j → all (source_good_by flags m sources) n ≡ false
  unfolding source_good_by
  source_above j n h l = fails j n h (pick-false (ltb (at sources j) m) _ false (le-ltb (at sources j) m l))

  module _ (j : ℕ) (taken : List Bool) (k : Taken flags m sources j taken) (small : at sources j < 19) where
    abbrev x : ℕ
    x = at sources j

    told : flag taken x ≡ pick (listed (at sources) j x) true (flag flags x)
    told = k.taken_are x small

    either : (a b c : Bool) → c ≡ pick a true b → c ≡ true → both (not b) (not a) ≡ false
    either true true c e t = refl
    either true false c e t = refl
    either false true c e t = refl
    either false false c e t = clash c t e

    neither : (a b c : Bool) → c ≡ pick a true b → c ≡ false → both (not b) (not a) ≡ true
    neither true b c e t = clash c e t
    neither false true c e t = clash c e t
    neither false false c e t = refl

    -- one that is taken
    pub source_taken : (n : ℕ) → j < n → flag taken x ≡ true → all (source_good_by flags m sources) n ≡ false
    unfolding source_good_by
    source_taken n h t =
        fails j n h (ap (both (ltb x m)) (either (listed (at sources) j x) (flag flags x) (flag taken x) told t) ∙ both_off (ltb x m))

    -- one that is not, and is now
    pub taken_next : x < m → flag taken x ≡ false → Taken flags m sources (j + 1) (set taken x true)
    unfolding source_good_by
    taken_next below t =
        record {
          room = length-set taken x true ∙ k.room;
          taken_are = λ u b.
              equal_or_not u x
              (λ (q : u ≡ x).
              ap (flag (set taken x true)) q
              ∙ get_or-set_same taken x true false (subst (λ (l : ℕ). x < l) (sym k.room) small)
              ∙ sym (ap (λ (s : Bool). pick s true (flag flags u))
              (listed_next (at sources) j u ∙ pick_true (eqb x u) true _ (eq-eqb x u (sym q)))))
              (λ (ne : u ≡ x → ⊥).
              get_or-set_other taken x u true false ne
              ∙ k.taken_are u b
              ∙ sym (ap (λ (s : Bool). pick s true (flag flags u))
              (listed_next (at sources) j u ∙ pick-false (eqb x u) true _ (ne_eqb x u (λ q. ne (sym q))))));
          all-good = λ i b.
              equal_or_not i j
              (λ (q : i ≡ j).
              ap (source_good_by flags m sources) q
              ∙ both_hold (ltb x m) _ (lt-ltb x m below) (neither (listed (at sources) j x) (flag flags x) (flag taken x) told t))
              (λ (ne : i ≡ j → ⊥). k.all-good i (omega arith));
        }

-- ---- the entry

-- what the code answers of entry e: the rank of the content that it names, and none where it is not good
unfoldable pub rank_if_good : Layout → Record → List ℕ → ℕ → Option ℕ
rank_if_good y R plan e = pick (entry_good y R plan e) (Some (rank_named y R plan e)) None

module _ (y : Layout) (R : Record) (plan : List ℕ) (e : ℕ) (entry : List ℕ) (is : IsEntry y plan e entry) where
  pub group_here_lem : at entry 0 ≡ group_named y plan e
  group_here_lem = is.numbers 0 (omega arith)

  pub content-here : at entry 1 ≡ content_named y plan e
  content-here = is.numbers 1 (omega arith)

  source-here : (j : ℕ) → j < y.n → at (drop 2 entry) j ≡ source y plan e j
  source-here j h = get_or-drop 2 entry j 0 ∙ is.numbers (2 + j) (omega arith)

  pub sources_long : length (drop 2 entry) ≡ y.n
  sources_long = omega (arith, length-drop 2 entry, is.long)

  module _ (flags : List Bool) (are : (c : ℕ) → c < contents y → flag flags c ≡ missing y R (at entry 0) c) where
    are_here : (c : ℕ) → c < contents y → flag flags c ≡ missing y R (group_named y plan e) c
    are_here c b = are c b ∙ ap (λ (g : ℕ). missing y R g c) group_here_lem

    both_under : (a b c : Bool) → (a ≡ true → b ≡ c) → both a b ≡ both a c
    both_under true b c h = h refl
    both_under false b c h = refl

    -- its sources as the code tests them
    source_same : (j : ℕ) → j < y.n → source_good_by flags (contents y) (drop 2 entry) j ≡ source_good y R plan e j
    unfolding source_good_by source_good
    source_same j h =
        ap (λ (z : ℕ). both (ltb z (contents y)) (both (not (flag flags z)) (not (listed (at (drop 2 entry)) j z)))) (source-here j h)
        ∙ both_under (ltb (source y plan e j) (contents y)) _ _
        (λ t. ap₂ (λ (a b : Bool). both (not a) (not b)) (are_here (source y plan e j) (ltb-true (source y plan e j) (contents y) t))
        (listed_same (at (drop 2 entry)) (source y plan e) j (source y plan e j) (λ i b. source-here i (omega arith))))

    sources_same : all (source_good_by flags (contents y) (drop 2 entry)) (length (drop 2 entry)) ≡ sources_good y R plan e
    unfolding sources_good
    sources_same =
        ap (all (source_good_by flags (contents y) (drop 2 entry))) sources_long ∙ all_same _ _ y.n (λ j b. source_same j b)

    tail_same : (tail : List ℕ) → tail ≡ drop 2 entry → all (source_good_by flags (contents y) tail) (length tail) ≡ sources_good y R plan e
    tail_same tail is-tail = ap (λ (l : List ℕ). all (source_good_by flags (contents y) l) (length l)) is-tail ∙ sources_same

    -- where it is not good there is no rank
    not_good : entry_good y R plan e ≡ false → None ≡ rank_if_good y R plan e
    unfolding rank_if_good
    not_good f = sym (pick-false (entry_good y R plan e) _ None f)

    pub content_above : contents y ≤ at entry 1 → None ≡ rank_if_good y R plan e
    unfolding entry_good names_missing
    content_above l =
        not_good
        (not-both_ways _
        (λ t.
        let m = (both_true (names_missing y R plan e) _ t).0 in
        let d = (both_true (ltb (group_named y plan e) (all_groups y)) _ m).1 in
        clash (ltb (content_named y plan e) (contents y)) (both_true (ltb (content_named y plan e) (contents y)) _ d).0
        (le-ltb (content_named y plan e) (contents y) (subst (λ (z : ℕ). contents y ≤ z) content-here l))))

    pub content-present : at entry 1 < contents y → flag flags (at entry 1) ≡ false → None ≡ rank_if_good y R plan e
    unfolding entry_good names_missing
    content-present l f =
        not_good
        (not-both_ways _
        (λ t.
        let m = (both_true (names_missing y R plan e) _ t).0 in
        let d = (both_true (ltb (group_named y plan e) (all_groups y)) _ m).1 in
        clash (missing y R (group_named y plan e) (content_named y plan e)) (both_true (ltb (content_named y plan e) (contents y)) _ d).1
        (ap (missing y R (group_named y plan e)) (sym content-here) ∙ sym (are_here (at entry 1) l) ∙ f)))

    pub sources_bad : (b : Bool) (tail : List ℕ) → tail ≡ drop 2 entry → b ≡ all (source_good_by flags (contents y) tail) (length tail) → b ≡ false
        → None ≡ rank_if_good y R plan e
    unfolding entry_good
    sources_bad b tail is-tail q f =
        not_good
        (not-both_ways _
        (λ t. clash (sources_good y R plan e) (both_true (names_missing y R plan e) _ t).1 (sym (q ∙ tail_same tail is-tail) ∙ f)))

    -- as many flags are set below a content as contents are missing there
    rank_of : (c : ℕ) → c < contents y → count (flag flags) c ≡ count (missing y R (at entry 0)) c
    rank_of c b = count_same (flag flags) (missing y R (at entry 0)) c (λ k h. are k (omega arith))

    pub rank_here : at entry 0 < all_groups y → at entry 1 < contents y → flag flags (at entry 1) ≡ true
        → (b : Bool) (tail : List ℕ) → tail ≡ drop 2 entry → b ≡ all (source_good_by flags (contents y) tail) (length tail) → b ≡ true
        → (n : ℕ) → n ≡ length (those (flag flags) (at entry 1)) → Some n ≡ rank_if_good y R plan e
    unfolding rank_if_good entry_good names_missing
    rank_here hg hc t b tail is-tail z s n q =
        ap (λ (x : ℕ). Some x)
        (q
        ∙ length-those (flag flags) (at entry 1)
        ∙ rank_of (at entry 1) hc
        ∙ ap₂ (λ (g c : ℕ). count (missing y R g) c) group_here_lem content-here)
        ∙ sym (pick_true (entry_good y R plan e) (Some (rank_named y R plan e)) None
        (both_hold (names_missing y R plan e) _
        (both_hold (ltb (group_named y plan e) (all_groups y)) _
        (lt-ltb (group_named y plan e) (all_groups y) (subst (λ (z : ℕ). z < all_groups y) group_here_lem hg))
        (both_hold (ltb (content_named y plan e) (contents y)) _
        (lt-ltb (content_named y plan e) (contents y) (subst (λ (z : ℕ). z < contents y) content-here hc))
        (ap (missing y R (group_named y plan e)) (sym content-here) ∙ sym (are_here (at entry 1) hc) ∙ t)))
        (sym (z ∙ tail_same tail is-tail) ∙ s)))

-- a rank is that of a content that a good entry names
pub rank_good : (y : Layout) (R : Record) (plan : List ℕ) (e rank : ℕ) → Some rank ≡ rank_if_good y R plan e
    → (entry_good y R plan e ≡ true) × (rank ≡ rank_named y R plan e)
unfolding rank_if_good
rank_good y R plan e rank q =
    ⊎_elim
    (λ (t : entry_good y R plan e ≡ true).
    let z : Some rank ≡ Some (rank_named y R plan e) = q ∙ pick_true (entry_good y R plan e) (Some (rank_named y R plan e)) None t in
    let same : rank ≡ rank_named y R plan e = cc in
    (t, same))
    (λ (f : entry_good y R plan e ≡ false).
    absurd (none-some rank (sym (q ∙ pick-false (entry_good y R plan e) (Some (rank_named y R plan e)) None f))))
    (either_way (entry_good y R plan e))

-- and no rank tells that the entry is not good
pub rank_bad : (y : Layout) (R : Record) (plan : List ℕ) (e : ℕ) → None ≡ rank_if_good y R plan e → entry_good y R plan e ≡ false
unfolding rank_if_good
rank_bad y R plan e q =
    not-both_ways (entry_good y R plan e)
    (λ t. none-some (rank_named y R plan e) (q ∙ pick_true (entry_good y R plan e) (Some (rank_named y R plan e)) None t))

-- few flags are set below a content
pub few_below : (y : Layout) (R : Record) → Valid y → Good y R → (g : ℕ) (flags : List Bool) → ((c : ℕ) → c < contents y → flag flags c ≡ missing y R g c)
    → (c : ℕ) → c < contents y → length (those (flag flags) c) ≤ 3
few_below y R v r g flags are c h =
    omega (
      arith,
      length-those (flag flags) c,
      count_same (flag flags) (missing y R g) c (λ k b. are k (omega arith)),
      count_mono (missing y R g) c (contents y) (omega arith),
      few-missing y v R g r,
      v.few_parity,
    )
