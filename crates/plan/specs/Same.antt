-- Which units are missing counts below the number of contents only: flags that agree there rebuild alike.
use Rattle.std.specs.Prelude.{◌≡◌, refl, Bool, not, ℕ, zero, suc, ◌+◌, ◌<◌, ltb, length, get_or}
use Rattle.std.proofs.Math.Path.{ap, ap₂}
use Rattle.std.proofs.Common.{◌∙◌, le_trans, le_refl, le-add_right, arith}
use mathlib.Core.List.{List, [], ◌∷◌, ◌++◌}
use Rattle.std.proofs.Math.Nat.{le-suc}
use Rattle.lists.specs.Pick.{pick}
use Rattle.lists.specs.Count.{count, count_same}
use Rattle.lists.specs.Those.{those}
use Rattle.field.specs.Byte.{◌⊕◌, mul}
use Rattle.field.specs.Sum.{sum_cong}
use Rattle.systems.specs.Coef.{coef}
use Rattle.systems.specs.Cramer.{sol, row}
use Rattle.systems.specs.System.{sys}
use Rattle.parity.specs.Group.{lost, there, equations, left, known, data_of, rebuilt}
use Rattle.parity.specs.Content.{content_cong}

pub those_same : (f g : ℕ → Bool) (n : ℕ) → ((k : ℕ) → k < n → f k ≡ g k) → those f n ≡ those g n
unfolding those
those_same f g zero e = refl
those_same f g (suc n) e =
    ap₂ (λ (t : Bool) (l : List ℕ). pick t (l ++ n ∷ []) l) (e n (le_refl (suc n))) (those_same f g n (λ k h. e k (le_trans h (le-suc n))))

module _ (n k : ℕ) (miss other : ℕ → Bool) (e : (c : ℕ) → c < n + k → miss c ≡ other c) (old : ℕ → ℕ) where
  below : (j : ℕ) → j < n → miss j ≡ other j
  below j h = e j (le_trans h (le-add_right n k))

  lost_same : lost n miss ≡ lost n other
  lost_same = those_same miss other n below

  there_same : there n k miss ≡ there n k other
  there_same = those_same (λ i. not (miss (n + i))) (λ i. not (other (n + i))) k (λ i h. ap not (e (n + i) (omega arith)))

  left_same : (i : ℕ) → left n miss old i ≡ left n other old i
  unfolding left
  left_same i = ap (old (n + i) ⊕◌) (sum_cong n _ _ (λ j h. ap (λ (t : Bool). pick t 0 (mul (coef i j) (old j))) (below j h)))

  known_same : (r : ℕ) → known n k miss old r ≡ known n k other old r
  unfolding known
  known_same r =
      ap₂ (λ (l : List ℕ) (x : ℕ). pick (ltb r (length l)) x 0) lost_same
      (ap (λ (l : List ℕ). left n miss old (get_or l r 0)) there_same ∙ left_same (get_or (there n k other) r 0))

  solved_same : (m : ℕ → ℕ → ℕ) (c : ℕ) → sol m (known n k miss old) c ≡ sol m (known n k other old) c
  unfolding sol row
  solved_same m c =
      ap₂ ◌⊕◌ (ap (mul _) (known_same 0)) (ap₂ ◌⊕◌ (ap (mul _) (known_same 1)) (ap (mul _) (known_same 2)))

  data_same : (j : ℕ) → j < n → data_of n k miss old j ≡ data_of n k other old j
  unfolding data_of
  data_same j h =
      ap₂ (λ (t : Bool) (x : ℕ). pick t x (old j)) (below j h)
      (solved_same (equations n k miss) (count miss j)
      ∙ ap₂ (λ (is ks : List ℕ). sol (sys is ks) (known n k other old) (count miss j)) there_same lost_same
      ∙ ap (sol (equations n k other) (known n k other old)) (count_same miss other j (λ i l. below i (omega arith))))

  pub missing_same : (c : ℕ) → c < n + k → rebuilt n k miss old c ≡ rebuilt n k other old c
  unfolding rebuilt
  missing_same c h =
      ap₂ (λ (t : Bool) (x : ℕ). pick t x (old c)) (e c h) (content_cong n (data_of n k miss old) (data_of n k other old) data_same c)
