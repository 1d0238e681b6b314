-- The lost data unit that is filled last. Parity unit 0 is the plain sum of the data; so where it is there, the unit is the plain sum of it and
-- the other data units, and its row is ones where it alone is missing.
use Rattle.std.specs.Prelude.{◌≡◌, Bool, true, false, List, ◌∷◌, ℕ, zero, suc, ◌+◌, ◌<◌, ◌≤◌, eqb, ltb, replicate}
use Rattle.std.proofs.Math.Path.{sym, ap, ap₂}
use Rattle.std.proofs.Common.{◌∙◌, add-zero, le_trans, le_of_suc-le-suc, le-add_right, not-suc-le-zero, eq-or-lt_of_le, lit<, lit≤, lt-ltb, le-ltb, eq-eqb, ne_eqb}
use Rattle.std.proofs.Math.Bool.{not}
use Rattle.std.proofs.Math.Logic.{⊎_elim}
use native.Mathlib.Omega.{arith}
use Rattle.std.proofs.Math.ListN.{length, get_or, get_or-replicate}
use Rattle.lists.specs.Pick.{pick, pick_true, pick-false, either_way}
use Rattle.lists.specs.Count.{count}
use Rattle.lists.specs.Those.{length-those, those-lt, those_hold, those-place, those_rank}
use Rattle.field.specs.Byte.{◌⊕◌, mul}
use Rattle.field.specs.Laws.{mul-one}
use Rattle.field.proofs.Laws.{one-mul}
use Rattle.field.proofs.RingLaws.{ring}
use Rattle.field.specs.Sum.{sum_to, sum_cong}
use Rattle.systems.specs.Coef.{coef}
use Rattle.systems.proofs.CoefLaws.{coef-row}
use Rattle.systems.specs.Matrix.{ent}
use Rattle.systems.specs.System.{inverse-one}
use Rattle.parity.specs.Group.{parity_of, Solvable, lost, gone, there, data_of, rebuilt}
use Rattle.parity.specs.Content.{content_data}
use Rattle.parity.specs.Restores.{Fits, data_fits}
use Rattle.parity.specs.Local.{rebuilt-there}
use Rattle.parity.specs.Rows.{weight, data_row, row_of}
use Rattle.parity.specs.Matrix.{RowsFor}
use Rattle.parity.specs.Made.{gone_data}

-- parity 0 is the plain sum: its coefficients are ones
pub parity_plain : (n : ℕ) → n ≤ 16 → (d : ℕ → ℕ) → ((j : ℕ) → j < n → d j < 256) → parity_of n d 0 ≡ sum_to n d
unfolding parity_of
parity_plain n n16 d b =
    sum_cong n (λ j. mul (coef 0 j) (d j)) d (λ j h. ap (λ (c : ℕ). mul c (d j)) (coef-row j (le_trans h n16)) ∙ one-mul (d j) (b j h))

-- ---- o in place of one term of a sum

put_here : (s a o : ℕ) → s ⊕ o ≡ (s ⊕ a) ⊕ (a ⊕ o)
put_here s a o = simp ring

put_before : (s a o b : ℕ) → (s ⊕ (a ⊕ o)) ⊕ b ≡ (s ⊕ b) ⊕ (a ⊕ o)
put_before s a o b = simp ring

sum_put : (n u o : ℕ) (f : ℕ → ℕ) → u < n → sum_to n (λ j. pick (eqb j u) o (f j)) ≡ sum_to n f ⊕ (f u ⊕ o)
unfolding sum_to
sum_put zero u o f h = absurd (not-suc-le-zero h)
sum_put (suc n) u o f h =
    ⊎_elim
    (λ (e : u ≡ n).
    ap₂ ◌⊕◌ (sum_cong n _ f (λ j l. pick-false (eqb j u) o (f j) (ne_eqb j u (omega arith)))) (pick_true (eqb n u) o (f n) (eq-eqb n u (sym e)))
    ∙ put_here (sum_to n f) (f u) o ∙ ap (λ (v : ℕ). (sum_to n f ⊕ f v) ⊕ (f u ⊕ o)) e)
    (λ (l : u < n).
    ap₂ ◌⊕◌ (sum_put n u o f l) (pick-false (eqb n u) o (f n) (ne_eqb n u (omega arith))) ∙ put_before (sum_to n f) (f u) o (f n))
    (eq-or-lt_of_le (le_of_suc-le-suc h))

put_back : (s a o : ℕ) → s ≡ o → s ⊕ (a ⊕ o) ≡ a
put_back s a o e = ap (◌⊕ (a ⊕ o)) e ∙ cancel a o
  where
    cancel : (a o : ℕ) → o ⊕ (a ⊕ o) ≡ a
    cancel a o = simp ring

-- ---- the unit

-- where parity unit 0 is there, the first equation is its own
module _ (n k : ℕ) (miss : ℕ → Bool) (s : Solvable n k miss) (u : ℕ) (h : u < n) (t : miss u ≡ true) (t₀ : miss n ≡ false) where
  first : get_or (there n k miss) 0 0 ≡ 0
  unfolding count
  first =
      (those-place (λ i. not (miss (n + i))) k 0
      (omega (arith, (those-place miss (n + k) u (le_trans h (le-add_right n k)) t).0, length-those miss (n + k), s.few)) (ap not (ap miss (add-zero n) ∙ t₀))).1

module _ (n k : ℕ) (miss : ℕ → Bool) (s : Solvable n k miss) (old : ℕ → ℕ) (ob : (u : ℕ) → u < n + k → old u < 256) where
  fits : Fits n k miss s old (data_of n k miss old)
  fits = data_fits n k miss s old ob

  -- below n the rebuilt group is its data
  rebuilt_data : (j : ℕ) → j < n → rebuilt n k miss old j ≡ data_of n k miss old j
  unfolding rebuilt
  rebuilt_data j h =
      ⊎_elim (λ (t : miss j ≡ true). pick_true (miss j) _ (old j) t ∙ content_data n (data_of n k miss old) j h)
      (λ (t : miss j ≡ false). rebuilt-there n k miss s old j t ∙ sym (fits.same j h t)) (either_way (miss j))

  module _ (u : ℕ) (h : u < n) (t : miss u ≡ true) (t₀ : miss n ≡ false) where
    -- that equation is right
    plain_sum : sum_to n (data_of n k miss old) ≡ old n
    plain_sum =
        sym (parity_plain n s.data_max (data_of n k miss old) fits.bytes)
        ∙ sym (ap (parity_of n (data_of n k miss old)) at_first)
        ∙ fits.right 0 (omega (arith, (those-place miss n u h t).0))
        ∙ ap (λ (i : ℕ). old (n + i)) at_first ∙ ap old (add-zero n)
      where
        at_first : get_or (there n k miss) 0 0 ≡ 0
        at_first = first n k miss s u h t t₀

    -- the unit is the sum with parity unit 0 in its own place
    pub closing : rebuilt n k miss old u ≡ sum_to n (λ j. pick (eqb j u) (old n) (rebuilt n k miss old j))
    closing =
        sym (sum_cong n _ _ (λ j l. ap (pick (eqb j u) (old n)) (rebuilt_data j l))
        ∙ sum_put n u (old n) (data_of n k miss old) h
        ∙ put_back _ (data_of n k miss old u) (old n) plain_sum
        ∙ sym (rebuilt_data u h))

-- ---- its row, where it alone is missing

module _ (n k : ℕ) (miss : ℕ → Bool) (s : Solvable n k miss) (one : length (lost n miss) ≡ 1) (t₀ : miss n ≡ false) where
  alone : get_or (there n k miss) 0 0 ≡ 0
  alone = first n k miss s (get_or (lost n miss) 0 0) (those-lt miss n 0 (omega arith)) (those_hold miss n 0 (omega arith)) t₀

  first_weight : weight n k miss 0 0 ≡ 1
  unfolding weight
  first_weight =
      pick_true (ltb 0 (length (lost n miss))) _ 0 (lt-ltb 0 (length (lost n miss)) (omega arith))
      ∙ inverse-one (there n k miss) (lost n miss) one
      (ap (λ (i : ℕ). coef i (get_or (lost n miss) 0 0)) alone ∙ coef-row (get_or (lost n miss) 0 0) (le_trans (those-lt miss n 0 (omega arith)) s.data_max))

  other-weight : (r : ℕ) → 1 ≤ r → weight n k miss 0 r ≡ 0
  unfolding weight
  other-weight r h = pick-false (ltb r (length (lost n miss))) _ 0 (le-ltb r (length (lost n miss)) (omega arith))

  row_of_ones : (j : ℕ) → j < n → data_row n k miss 0 j ≡ 1
  unfolding data_row
  row_of_ones j h =
      ⊎_elim
      (λ (t : miss j ≡ true).
      let z : count miss j ≡ 0 = omega (arith, (those-place miss n j h t).0) in
      pick_true (miss j) _ _ t ∙ ap (weight n k miss 0) z ∙ first_weight)
      (λ (t : miss j ≡ false).
      pick-false (miss j) _ _ t
      ∙ ap₂ ◌⊕◌ (ap₂ mul first_weight (ap (λ (i : ℕ). coef i j) alone ∙ coef-row j (le_trans h s.data_max)))
      (ap₂ ◌⊕◌ (ap (λ (w : ℕ). mul w (coef (get_or (there n k miss) 1 0) j)) (other-weight 1 (lit≤ tt)))
      (ap (λ (w : ℕ). mul w (coef (get_or (there n k miss) 2 0) j)) (other-weight 2 (lit≤ tt))))
      ∙ only (coef (get_or (there n k miss) 1 0) j) (coef (get_or (there n k miss) 2 0) j))
      (either_way (miss j))
    where
      only : (a b : ℕ) → mul 1 1 ⊕ (mul 0 a ⊕ mul 0 b) ≡ 1
      only a b = simp (mul-one 1 (lit< tt), ring)

  pub plain_rows : length (gone n k miss) ≡ 1 → (others : List (List ℕ)) → RowsFor n k miss (replicate 16 1 ∷ others)
  unfolding row_of
  plain_rows e others q h j l =
      let z : q ≡ 0 = omega arith in
      let h₀ : 0 < length (gone n k miss) = omega arith in
      let u = get_or (gone n k miss) 0 0 in
      ap (λ (x : ℕ). ent (replicate 16 1 ∷ others) x j) z
      ∙ get_or-replicate 16 j 1 0 (le_trans l s.data_max)
      ∙ sym (ap (λ (x : ℕ). row_of n k miss (get_or (gone n k miss) x 0) j) z
      ∙ pick_true (ltb u n) _ _ (lt-ltb u n (gone_data n k miss s 0 h₀ (omega arith)))
      ∙ ap (λ (c : ℕ). data_row n k miss c j) (those_rank miss (n + k) 0 h₀)
      ∙ row_of_ones j l)
