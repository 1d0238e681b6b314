-- "The record holds an ordered list of k failed targets (room for 3), and q: the first q have been repaired."
use Rattle.std.specs.Prelude.{◌≡◌, Bool, false, not, [], ◌∷◌, ℕ, ◌≤◌, ◌<◌, leb, ltb}
use Rattle.lists.specs.Pick.{both}
use Rattle.lists.specs.Search.{all}
use Rattle.lists.specs.Tabulate.{at}
use Rattle.lists.specs.Refusal.{refusal_by}
use Rattle.numbers.specs.declared.Layout.{Layout}
use Rattle.numbers.specs.Layouts.{all_contents}
use Rattle.homes.specs.declared.Record.{Record}
use Rattle.homes.specs.Listed.{listed}

abbrev pub entry : Record → ℕ → ℕ
entry R i = at R.failed i

-- t is one of the k failed targets
abbrev pub failed : Record → ℕ → Bool
failed R t = listed (entry R) R.k t

-- entry i is a target, and stands at no place before
abbrev pub entry_good : Layout → Record → ℕ → Bool
entry_good y R i = both (ltb (entry R i) y.p) (not (listed (entry R) i (entry R i)))

-- refusal number 3: "failure record bad: k > K, q > k, an entry among the first k that is ≥ P or occurs twice"; as the test that it is not bad
unfoldable pub record_good : Layout → Record → Bool
record_good y R = both (leb R.k y.k) (both (leb R.q R.k) (all (entry_good y R) R.k))

-- by the list alone, and with "A count above T·C·(N+K) .. is 3"
unfoldable pub failures_refusal : Layout → Record → ℕ
failures_refusal y R = refusal_by ((record_good y R, 3) ∷ [])

unfoldable pub record_refusal : Layout → Record → ℕ
record_refusal y R = refusal_by ((record_good y R, 3) ∷ (leb R.waiting (all_contents y), 3) ∷ [])

-- the same as facts
pub record Good (y : Layout) (R : Record) : Type 0 where
  pub few : R.k ≤ y.k
  pub mended : R.q ≤ R.k
  pub below : (i : ℕ) → i < R.k → entry R i < y.p
  pub once : (i : ℕ) → i < R.k → listed (entry R) i (entry R i) ≡ false
