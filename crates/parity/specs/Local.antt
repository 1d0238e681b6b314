-- What is rebuilt reads units that are there alone.
use Rattle.std.specs.Prelude.{◌≡◌, Bool, true, false, ℕ, ◌+◌, ◌<◌}
use Rattle.std.proofs.Common.{sym, ◌∙◌, arith}
use Rattle.std.proofs.Math.Path.{ap}
use Rattle.std.proofs.Math.Bool.{not}
use Rattle.std.proofs.Math.Logic.{⊎_elim}
use Rattle.std.proofs.Math.Nat.{le_trans}
use Rattle.std.proofs.Math.ListN.{get_or}
use borrow.Author.Tests.{not-true}
use Rattle.lists.specs.Pick.{pick_true, pick-false, either_way}
use Rattle.lists.specs.Count.{count}
use Rattle.lists.specs.Those.{those-lt, those_hold, those-place}
use Rattle.field.specs.Byte.{mul}
use Rattle.field.specs.Sum.{sum_cong}
use Rattle.parity.specs.Group.{Solvable, there, rebuilt}
use Rattle.parity.specs.Restores.{enough, lost_most}
use Rattle.parity.specs.Rows.{slot, row_of, row_gives}

module _ (n k : ℕ) (miss : ℕ → Bool) (s : Solvable n k miss) where
  -- a slot's unit is there
  pub slot-there : (j : ℕ) → j < n → (miss (slot n k miss j) ≡ false) × (slot n k miss j < n + k)
  unfolding slot
  slot-there j h =
      ⊎_elim
      (λ (t : miss j ≡ true).
      let r = le_trans (those-place miss n j h t).0 (enough n k miss s) in
      let i = get_or (there n k miss) (count miss j) 0 in
      let e = pick_true (miss j) (n + i) j t in (
        ap miss e ∙ not-true (miss (n + i)) (those_hold (λ i. not (miss (n + i))) k (count miss j) r),
        omega (arith, e, those-lt (λ i. not (miss (n + i))) k (count miss j) r),
      ))
      (λ (t : miss j ≡ false).
      let e = pick-false (miss j) (n + get_or (there n k miss) (count miss j) 0) j t in
      (ap miss e ∙ t, omega (arith, e, h)))
      (either_way (miss j))

  pub rebuilt-there : (old : ℕ → ℕ) (u : ℕ) → miss u ≡ false → rebuilt n k miss old u ≡ old u
  unfolding rebuilt
  rebuilt-there old u t = pick-false (miss u) _ (old u) t

  -- groups that agree on the units that are there are rebuilt alike
  pub rebuilt_cong : (a b : ℕ → ℕ) → ((u : ℕ) → u < n + k → miss u ≡ false → a u ≡ b u) → (u : ℕ) → u < n + k → rebuilt n k miss a u ≡ rebuilt n k miss b u
  rebuilt_cong a b e u h =
      ⊎_elim
      (λ (t : miss u ≡ true).
      row_gives n k miss (lost_most n k miss s) a u t
      ∙ sum_cong n _ _ (λ j l. ap (mul (row_of n k miss u j)) (e (slot n k miss j) (slot-there j l).1 (slot-there j l).0))
      ∙ sym (row_gives n k miss (lost_most n k miss s) b u t))
      (λ (t : miss u ≡ false). rebuilt-there a u t ∙ e u h t ∙ sym (rebuilt-there b u t)) (either_way (miss u))
