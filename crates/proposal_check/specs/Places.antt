-- The entries of a plan by the places at which their numbers begin, a place being how many of the plan's numbers stand before it.
use Rattle.std.specs.Prelude.{◌≡◌, refl, Bool, not, List, ℕ, suc, ◌+◌, ◌*◌, ◌/◌, ◌<◌, ◌≤◌, ltb, length}
use Rattle.std.proofs.Math.Path.{sym, ap, ap₂}
use Rattle.std.proofs.Common.{◌∙◌, le_of_suc-le-suc, add-zero, add_assoc, mul-suc, mul-le-mul_left, arith, eq-eqb, ltb-true}
use Rattle.std.proofs.Math.Bool.{true, false}
use Rattle.std.proofs.Math.Nat.{lt_of_mul-lt-mul_left}
use Rattle.lists.specs.Pick.{pick, both, pick_true, not-both_ways}
use Rattle.lists.specs.Tabulate.{at}
use Rattle.numbers.specs.declared.Layout.{Layout}
use Rattle.numbers.specs.declared.Shape.{Shape}
use Rattle.numbers.specs.Layouts.{Valid, contents}
use Rattle.parity.specs.Matrix.{flag}
use Rattle.homes.specs.declared.Record.{Record}
use Rattle.homes.specs.Records.{Good}
use Rattle.homes.specs.Listed.{listed, listed_same}
use Rattle.homes.specs.Missing.{missing}
use Rattle.proposal.specs.Plans.{entry_size, entries, group_named, content_named, source, number_of, source_good}
use Rattle.proposal.specs.Accepted.{entry_good}
use Rattle.proposal.proofs.AcceptedLaws.{entry_facts}
use Rattle.proposal_check.specs.Windows.{in_window, window_good, rank_named, rank_lt, Passed, passed_end, entry_fails}
use Rattle.proposal_check.specs.Steps.{Asked}

-- ---- the sources

-- number j of those that begin at place `from` of a plan
abbrev pub number_from : List ℕ → ℕ → ℕ → ℕ
number_from plan from j = at plan (from + j)

-- it is below m, no flag is set at it, and none of those before it is the same
unfoldable pub source_good_from : List Bool → ℕ → List ℕ → ℕ → ℕ → Bool
source_good_from flags m plan from j =
    both (ltb (number_from plan from j) m)
    (both (not (flag flags (number_from plan from j))) (not (listed (number_from plan from) j (number_from plan from j))))

-- ---- the entry

-- as a number: the rank of the content that entry e names, and 3 where it is not good
unfoldable pub rank_or3 : Layout → Record → List ℕ → ℕ → ℕ
rank_or3 y R plan e = pick (entry_good y R plan e) (rank_named y R plan e) 3

module _ (y : Layout) (R : Record) (plan : List ℕ) (e from : ℕ) (here : from ≡ entry_size y * e) where
  pub group_here_lem : at plan from ≡ group_named y plan e
  unfolding number_of
  group_here_lem = ap (at plan) (here ∙ sym (add-zero (entry_size y * e)))

  source-here : (j : ℕ) → number_from plan (from + 2) j ≡ source y plan e j
  unfolding number_of
  source-here j = ap (at plan) (add_assoc from 2 j ∙ ap (λ (z : ℕ). z + (2 + j)) here)

  module _ (flags : List Bool) (are : (c : ℕ) → c < contents y → flag flags c ≡ missing y R (at plan from) c) where
    are_here : (c : ℕ) → c < contents y → flag flags c ≡ missing y R (group_named y plan e) c
    are_here c b = are c b ∙ ap (λ (g : ℕ). missing y R g c) group_here_lem

    both_under : (a b c : Bool) → (a ≡ true → b ≡ c) → both a b ≡ both a c
    both_under true b c h = h refl
    both_under false b c h = refl

    -- its sources as the code tests them
    source_same : (j : ℕ) → source_good_from flags (contents y) plan (from + 2) j ≡ source_good y R plan e j
    unfolding source_good_from source_good
    source_same j =
        ap (λ (z : ℕ). both (ltb z (contents y)) (both (not (flag flags z)) (not (listed (number_from plan (from + 2)) j z)))) (source-here j)
        ∙ both_under (ltb (source y plan e j) (contents y)) _ _
        (λ t. ap₂ (λ (a b : Bool). both (not a) (not b)) (are_here (source y plan e j) (ltb-true (source y plan e j) (contents y) t))
        (listed_same (number_from plan (from + 2)) (source y plan e) j (source y plan e j) (λ i b. source-here i)))

-- and 3 tells that the entry is not good
pub rank_bad : (y : Layout) (R : Record) → Valid y → Good y R → (plan : List ℕ) (e rank : ℕ) → rank ≡ rank_or3 y R plan e → rank ≡ 3 → entry_good y R plan e ≡ false
unfolding rank_or3
rank_bad y R v r plan e rank q three =
    not-both_ways (entry_good y R plan e)
    (λ t.
    let f = entry_facts y R plan e t in
    let z : 3 ≡ rank_named y R plan e = sym three ∙ q ∙ pick_true (entry_good y R plan e) (rank_named y R plan e) 3 t in
    omega (arith, z, rank_lt y R v r (group_named y plan e) (content_named y plan e) f.content-lt f.is_missing))

-- ---- the pass over a window

-- before the entry that begins at place `from` of the plan: the entries before it have passed
pub record Passing (y : Layout) (R : Record) (plan : List ℕ) (w from : ℕ) (marks : List ℕ) : Type 0 where
  pub done : ℕ
  pub here : from ≡ entry_size y * done
  pub passed : Passed y R plan 65536 w done marks

module _ (y : Layout) (s : Shape) (R : Record) (groups : ℕ) (plan : List ℕ) (w : ℕ) (a : Asked y s R groups plan w) where
  module _ (from : ℕ) (marks : List ℕ) (p : Passing y R plan w from marks) where
    pub pass_end : length plan ≤ from → window_good y R plan 65536 w ≡ true
    pass_end h = passed_end y R plan 65536 w p.done marks p.passed (le_of_suc-le-suc all_done)
      where
        all_done : entries y plan < suc p.done
        all_done = lt_of_mul-lt-mul_left (entry_size y) {m = entries y plan} {n = suc p.done} (omega (arith, h, a.whole, p.here, mul-suc (entry_size y) p.done))

    module _ (more : from < length plan) where
      entry_lt : p.done < entries y plan
      entry_lt = lt_of_mul-lt-mul_left (entry_size y) {m = p.done} {n = entries y plan} (omega (arith, more, a.whole, p.here))

      -- the entry is whole
      pub entry_room : from + entry_size y ≤ length plan
      entry_room = omega (arith, mul-le-mul_left (entry_size y) entry_lt, mul-suc (entry_size y) p.done, a.whole, p.here)

      named : at plan from ≡ group_named y plan p.done
      named = group_here_lem y R plan p.done from p.here

      -- one of this window, of which the code has worked out the rank
      module _ (t : at plan from / 65536 ≡ w) (rank : ℕ) (told : (e : ℕ) → from ≡ entry_size y * e → rank ≡ rank_or3 y R plan e) where
        inside : in_window y plan 65536 w p.done ≡ true
        inside = eq-eqb (group_named y plan p.done / 65536) w (ap (λ (g : ℕ). g / 65536) (sym named) ∙ t)

        -- it is not good
        pub pass_bad : rank ≡ 3 → window_good y R plan 65536 w ≡ false
        pass_bad e =
            entry_fails y R plan 65536 w p.done entry_lt inside
            (rank_bad y R a.valid a.good plan p.done rank (told p.done p.here) e)
