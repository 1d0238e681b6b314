-- "accepts a plan exactly if": the test says what `Accepts` says, and an accepted plan has as many entries as units await repair.
use Rattle.std.specs.Prelude.{◌≡◌, true, false, List, eqb, ltb, length}
use Rattle.std.proofs.Math.Path.{sym, ap}
use Rattle.std.proofs.Common.{ap₂, ◌∙◌, mod-lt, arith}
use Rattle.std.proofs.Math.Bool.{Bool, not}
use Prim.Native.Nat.{ℕ, ◌*◌, ◌/◌, ◌%◌, ◌<◌}
use Rattle.std.proofs.Math.Nat.{div-add-mod}
use borrow.Author.Tests.{eqb-true, eq-eqb, ltb-true, lt-ltb, not-true}
use Rattle.lists.specs.Pick.{pick, both, pick_true, both_true, both_hold, same_truth}
use Rattle.lists.specs.Count.{count, count_same, count_none, count_single, single_count}
use Rattle.lists.specs.Search.{any, all, any_none, all-at, all_true, lowest_is, lowest}
use Rattle.lists.specs.Digits.{digits_below, div_below}
use Rattle.numbers.specs.declared.Layout.{Layout}
use Rattle.numbers.specs.Layouts.{all_groups, contents}
use Rattle.homes.specs.declared.Record.{Record}
use Rattle.homes.specs.Listed.{listed, listed_at}
use Rattle.homes.specs.Once.{Once, once_differ, differ_once, listed_where, count-listed}
use Rattle.homes.specs.Missing.{missing}
use Rattle.pool.specs.Counting.{missing_units}
use Rattle.proposal.specs.Plans.{entry_size, entries, group_named, content_named, source, names, named_once, each_once, source_good, sources_good, names_missing, plan_good, Named, Accepts}
use Rattle.proposal.specs.Pairs.{pair_number, missing_pair, missing_pair_lem, pairs_counted, pair_apart, some_factor}

-- ---- an entry names one content

-- one of the first e entries names content c of group g
unfoldable pub named_below : Layout → List ℕ → ℕ → ℕ → ℕ → Bool
named_below y plan e g c = any (λ i. names y plan i g c) e

pub names-true : (y : Layout) (plan : List ℕ) (i g c : ℕ) → names y plan i g c ≡ true → (group_named y plan i ≡ g) × (content_named y plan i ≡ c)
unfolding names
names-true y plan i g c t =
    let b = both_true (eqb (group_named y plan i) g) _ t in
    (eqb-true (group_named y plan i) g b.0, eqb-true (content_named y plan i) c b.1)

pub names_hold : (y : Layout) (plan : List ℕ) (i g c : ℕ) → group_named y plan i ≡ g → content_named y plan i ≡ c → names y plan i g c ≡ true
unfolding names
names_hold y plan i g c p q =
    both_hold (eqb (group_named y plan i) g) _ (eq-eqb (group_named y plan i) g p) (eq-eqb (content_named y plan i) c q)

-- the number of the pair that an entry names
abbrev pub pair_of : Layout → List ℕ → ℕ → ℕ
pair_of y plan i = pair_number y (group_named y plan i) (content_named y plan i)

-- ---- one entry

-- what the test asks of an entry by itself
unfoldable pub entry_good : Layout → Record → List ℕ → ℕ → Bool
entry_good y R plan i = both (names_missing y R plan i) (sources_good y R plan i)
