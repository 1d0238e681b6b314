-- A group that misses nothing: no content has one missing below it, each slot reads its own unit, and there are no rows to speak of.
use Rattle.std.specs.Prelude.{◌≡◌, [], ◌∷◌, ℕ, ◌+◌, ◌≤◌, ◌<◌, length, get_or, replicate}
use Rattle.std.proofs.Math.Path.{sym}
use Rattle.std.proofs.Common.{◌∙◌, le_trans, arith}
use Rattle.std.proofs.Math.Bool.{false}
use Rattle.std.proofs.lemmas.List.{get_or-replicate}
use Rattle.lists.specs.Count.{count, count_none}
use Rattle.lists.specs.Pick.{pick-false}
use Rattle.lists.specs.Tabulate.{tabulate, get_d_tabulate}
use Rattle.lists.specs.Those.{those, length-those}
use Rattle.parity.specs.Group.{Solvable}
use Rattle.parity.specs.Matrix.{flag}
use Rattle.parity.specs.Rows.{slot}

-- nothing is missing below m
none : (m : ℕ) → m ≤ 19 → count (flag (replicate 19 false)) m ≡ 0
none m h = count_none (flag (replicate 19 false)) m (λ i b. get_or-replicate 19 i false false (omega arith))

module _ (n k : ℕ) (hn : n ≤ 16) (hk : k ≤ 3) where
  pub whole_solvable : Solvable n k (flag (replicate 19 false))
  whole_solvable = record { data_max = hn; parity_max = hk; few = omega (arith, none (n + k) (omega arith)) }

  pub whole_ranks : (c : ℕ) → c < n + k → get_or (replicate 19 0) c 0 ≡ count (flag (replicate 19 false)) c
  whole_ranks c h = get_or-replicate 19 c 0 0 (omega arith) ∙ sym (none c (omega arith))

  pub whole_slots : (j : ℕ) → j < n → get_or (0 ∷ 1 ∷ 2 ∷ 3 ∷ 4 ∷ 5 ∷ 6 ∷ 7 ∷ 8 ∷ 9 ∷ 10 ∷ 11 ∷ 12 ∷ 13 ∷ 14 ∷ 15 ∷ []) j 0 ≡ slot n k (flag (replicate 19 false)) j
  unfolding tabulate slot
  whole_slots j h =
      get_d_tabulate 16 (λ (i : ℕ). i) j 0 (le_trans h hn) ∙ sym (pick-false (flag (replicate 19 false) j) _ j (get_or-replicate 19 j false false (omega arith)))

  pub whole-rows : (q : ℕ) → q < length (those (flag (replicate 19 false)) (n + k)) → ⊥
  whole-rows q h = omega (arith, h, length-those (flag (replicate 19 false)) (n + k), none (n + k) (omega arith))

  pub whole-gone : 0 ≡ count (flag (replicate 19 false)) (n + k)
  whole-gone = sym (none (n + k) (omega arith))
