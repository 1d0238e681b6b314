-- A missing unit as a sum of multiples of n units that are there, with coefficients that do not depend on the bytes: slot j reads data unit j,
-- or where that is missing the parity unit that stands in for it, and each missing unit has a row of coefficients over the slots.
use Rattle.std.specs.Prelude.{◌≡◌, Bool, ltb}
use Rattle.std.proofs.Math.Path.{refl, sym, ap, ap₂}
use Rattle.std.proofs.Common.{◌∙◌}
use Rattle.std.proofs.Math.Bool.{true, false}
use Prim.Native.Nat.{ℕ, ◌+◌, ◌-◌, ◌<◌, ◌≤◌}
use Rattle.std.proofs.Math.ListN.{length, get_or}
use borrow.Author.Tests.{ltb-true, lt-ltb, le-ltb}
use Rattle.lists.specs.Pick.{pick, pick_true, pick-false, below_or_not}
use Rattle.lists.specs.Count.{count}
use Rattle.lists.specs.Those.{those_hold, those_rank}
use Rattle.field.specs.Byte.{◌⊕◌, mul}
use Rattle.field.specs.Laws.{mul-zero}
use Rattle.field.proofs.Laws.{zero-mul}
use Rattle.field.specs.Ring.{mul_⊕}
use Rattle.field.proofs.RingLaws.{ring}
use Rattle.field.specs.Sum.{sum_to, sum3, sum_cong, sum-mul, sum-zero}
use Rattle.field.proofs.SumLaws.{sum-add}
use Rattle.systems.specs.Coef.{coef}
use Rattle.systems.specs.Cramer.{inverse, row, sol}
use Rattle.parity.specs.Group.{parity_of, lost, there, equations, left, known, data_of, rebuilt}
use Rattle.parity.specs.Content.{content_data, content_beyond, sum_split, short_sum}

-- the unit that slot j reads
unfoldable pub slot : ℕ → ℕ → (ℕ → Bool) → ℕ → ℕ
slot n k miss j = pick (miss j) (n + get_or (there n k miss) (count miss j) 0) j

-- what equation r counts for in the missing data unit that is number c
unfoldable pub weight : ℕ → ℕ → (ℕ → Bool) → ℕ → ℕ → ℕ
weight n k miss c r = pick (ltb r (length (lost n miss))) (inverse (equations n k miss) c r) 0

-- the coefficient of slot j in the missing data unit that is number c
unfoldable pub data_row : ℕ → ℕ → (ℕ → Bool) → ℕ → ℕ → ℕ
data_row n k miss c j = pick (miss j) (weight n k miss c (count miss j)) (sum3 (λ r. mul (weight n k miss c r) (coef (get_or (there n k miss) r 0) j)))

-- the coefficient of slot j in parity unit i: its own, and what the missing data bring
unfoldable pub parity_row : ℕ → ℕ → (ℕ → Bool) → ℕ → ℕ → ℕ
parity_row n k miss i j =
    pick (miss j) 0 (coef i j) ⊕ sum3 (λ r. mul (coef i (get_or (lost n miss) r 0)) (pick (ltb r (length (lost n miss))) (data_row n k miss r j) 0))

-- the coefficient of slot j in the missing unit u
unfoldable pub row_of : ℕ → ℕ → (ℕ → Bool) → ℕ → ℕ → ℕ
row_of n k miss u j = pick (ltb u n) (data_row n k miss (count miss u) j) (parity_row n k miss (u - n) j)

-- ---- sums of three sums

sum3-sum : (n : ℕ) (f : ℕ → ℕ → ℕ) → sum3 (λ r. sum_to n (f r)) ≡ sum_to n (λ j. sum3 (λ r. f r j))
sum3-sum n f = ap (λ (x : ℕ). sum_to n (f 0) ⊕ x) (sym (sum-add n (f 1) (f 2))) ∙ sym (sum-add n (f 0) (λ j. f 1 j ⊕ f 2 j))

sum3-add : (a b c d e f : ℕ) → (a ⊕ b) ⊕ ((c ⊕ d) ⊕ (e ⊕ f)) ≡ (a ⊕ (c ⊕ e)) ⊕ (b ⊕ (d ⊕ f))
sum3-add a b c d e f = simp ring

factor : (a b c p q r o : ℕ) → mul a (mul p o) ⊕ (mul b (mul q o) ⊕ mul c (mul r o)) ≡ mul (mul a p ⊕ (mul b q ⊕ mul c r)) o
factor a b c p q r o = simp ring

none_3 : (a b c : ℕ) → mul a 0 ⊕ (mul b 0 ⊕ mul c 0) ≡ 0
none_3 a b c = simp ring

swap : (a b : ℕ) → a ⊕ b ≡ b ⊕ a
swap a b = simp ring

-- ---- a missing data unit

-- a weight of padding is 0, so its equation may be left out
guarded : (t : Bool) (v w : ℕ) → mul v (pick t w 0) ≡ mul (pick t v 0) w
guarded true v w = refl
guarded false v w = mul-zero v ∙ sym (zero-mul w)

module _ (n k : ℕ) (miss : ℕ → Bool) (few : length (lost n miss) ≤ 3) (old : ℕ → ℕ) where
  -- slot j of a present data unit adds what the equations add of it
  there-part : (c j : ℕ)
      → sum3 (λ r. mul (weight n k miss c r) (pick (miss j) 0 (mul (coef (get_or (there n k miss) r 0) j) (old j))))
      ≡ pick (miss j) 0 (mul (data_row n k miss c j) (old (slot n k miss j)))
  unfolding data_row slot
  there-part c j = go (miss j)
    where
      w : ℕ → ℕ
      w = weight n k miss c

      go : (t : Bool) → sum3 (λ r. mul (w r) (pick t 0 (mul (coef (get_or (there n k miss) r 0) j) (old j))))
          ≡ pick t 0 (mul (pick t (w (count miss j)) (sum3 (λ r. mul (w r) (coef (get_or (there n k miss) r 0) j)))) (old (pick t (n + get_or (there n k miss) (count miss j) 0) j)))
      go true = none_3 (w 0) (w 1) (w 2)
      go false =
          factor (w 0) (w 1) (w 2) (coef (get_or (there n k miss) 0 0) j) (coef (get_or (there n k miss) 1 0) j) (coef (get_or (there n k miss) 2 0) j) (old j)

  -- the slot of the missing data unit number r has the parity unit of equation r
  lost-part : (c r : ℕ) → mul (weight n k miss c r) (old (n + get_or (there n k miss) r 0))
      ≡ pick (ltb r (length (lost n miss))) (mul (data_row n k miss c (get_or (lost n miss) r 0)) (old (slot n k miss (get_or (lost n miss) r 0)))) 0
  unfolding data_row slot
  lost-part c r =
      below_or_not r (length (lost n miss))
      (λ (h : r < length (lost n miss)).
      let p = those_rank miss n r h in
      let y = those_hold miss n r h in
      sym (pick_true (ltb r (length (lost n miss))) _ 0 (lt-ltb r (length (lost n miss)) h)
      ∙ ap₂ (λ (a b : ℕ). mul a (old b))
      (pick_true (miss (get_or (lost n miss) r 0)) _ _ y ∙ ap (weight n k miss c) p)
      (pick_true (miss (get_or (lost n miss) r 0)) _ _ y ∙ ap (λ (x : ℕ). n + get_or (there n k miss) x 0) p)))
      (λ (h : length (lost n miss) ≤ r). unfold weight in
      (let e = le-ltb r (length (lost n miss)) h in
      ap (λ (w : ℕ). mul w (old (n + get_or (there n k miss) r 0))) (pick-false (ltb r (length (lost n miss))) _ 0 e)
      ∙ zero-mul (old (n + get_or (there n k miss) r 0)) ∙ sym (pick-false (ltb r (length (lost n miss))) _ 0 e)))

  -- equation r, split into its parity unit and its data units
  one : (c r : ℕ) → mul (inverse (equations n k miss) c r) (known n k miss old r)
      ≡ mul (weight n k miss c r) (old (n + get_or (there n k miss) r 0))
      ⊕ sum_to n (λ j. mul (weight n k miss c r) (pick (miss j) 0 (mul (coef (get_or (there n k miss) r 0) j) (old j))))
  unfolding known left weight
  one c r =
      guarded (ltb r (length (lost n miss))) (inverse (equations n k miss) c r) _
      ∙ mul_⊕ (pick (ltb r (length (lost n miss))) (inverse (equations n k miss) c r) 0) (old (n + get_or (there n k miss) r 0)) _
      ∙ ap (λ (x : ℕ). mul (pick (ltb r (length (lost n miss))) (inverse (equations n k miss) c r) 0) (old (n + get_or (there n k miss) r 0)) ⊕ x)
      (sum-mul n (pick (ltb r (length (lost n miss))) (inverse (equations n k miss) c r) 0) _)

  row_solves : (c : ℕ) → sol (equations n k miss) (known n k miss old) c ≡ sum_to n (λ j. mul (data_row n k miss c j) (old (slot n k miss j)))
  unfolding sol row
  row_solves c =
      ap₂ ◌⊕◌ (one c 0) (ap₂ ◌⊕◌ (one c 1) (one c 2))
      ∙ sum3-add _ _ _ _ _ _
      ∙ ap₂ ◌⊕◌ (ap₂ ◌⊕◌ (lost-part c 0) (ap₂ ◌⊕◌ (lost-part c 1) (lost-part c 2)))
      (sum3-sum n (λ r j. mul (weight n k miss c r) (pick (miss j) 0 (mul (coef (get_or (there n k miss) r 0) j) (old j))))
      ∙ sum_cong n _ _ (λ j h. there-part c j))
      ∙ ap (λ (x : ℕ). x ⊕ sum_to n (λ j. pick (miss j) 0 (g j))) (sym (short_sum g (lost n miss) few))
      ∙ swap _ _
      ∙ sym (sum_split miss g n)
    where
      g : ℕ → ℕ
      g j = mul (data_row n k miss c j) (old (slot n k miss j))

  lost_datum : (u : ℕ) → miss u ≡ true → data_of n k miss old u ≡ sol (equations n k miss) (known n k miss old) (count miss u)
  unfolding data_of
  lost_datum u t = pick_true (miss u) _ (old u) t

  -- ---- a missing parity unit

  -- the missing data unit number r
  lost-row : (r : ℕ) → r < length (lost n miss) → data_of n k miss old (get_or (lost n miss) r 0) ≡ sum_to n (λ j. mul (data_row n k miss r j) (old (slot n k miss j)))
  lost-row r h =
      lost_datum (get_or (lost n miss) r 0) (those_hold miss n r h)
      ∙ ap (sol (equations n k miss) (known n k miss old)) (those_rank miss n r h)
      ∙ row_solves r

  slot-there : (i j : ℕ) → pick (miss j) 0 (mul (coef i j) (data_of n k miss old j)) ≡ mul (pick (miss j) 0 (coef i j)) (old (slot n k miss j))
  unfolding data_of slot
  slot-there i j = go (miss j) _ (n + get_or (there n k miss) (count miss j) 0)
    where
      go : (t : Bool) (y b : ℕ) → pick t 0 (mul (coef i j) (pick t y (old j))) ≡ mul (pick t 0 (coef i j)) (old (pick t b j))
      go true y b = sym (zero-mul (old b))
      go false y b = refl

  third : (i r : ℕ) → pick (ltb r (length (lost n miss))) (mul (coef i (get_or (lost n miss) r 0)) (data_of n k miss old (get_or (lost n miss) r 0))) 0
      ≡ sum_to n (λ j. mul (coef i (get_or (lost n miss) r 0)) (mul (pick (ltb r (length (lost n miss))) (data_row n k miss r j) 0) (old (slot n k miss j))))
  third i r = go (ltb r (length (lost n miss))) (coef i (get_or (lost n miss) r 0)) (λ t. lost-row r (ltb-true r (length (lost n miss)) t))
    where
      go : (t : Bool) (a : ℕ) → (t ≡ true → data_of n k miss old (get_or (lost n miss) r 0) ≡ sum_to n (λ j. mul (data_row n k miss r j) (old (slot n k miss j))))
          → pick t (mul a (data_of n k miss old (get_or (lost n miss) r 0))) 0 ≡ sum_to n (λ j. mul a (mul (pick t (data_row n k miss r j) 0) (old (slot n k miss j))))
      go true a e = ap (mul a) (e refl) ∙ sum-mul n a (λ j. mul (data_row n k miss r j) (old (slot n k miss j)))
      go false a e =
          sym (sum-zero n (λ j. mul a (mul 0 (old (slot n k miss j)))) (λ j. ap (mul a) (zero-mul (old (slot n k miss j))) ∙ mul-zero a))

  gather : (a p q r x y z o : ℕ) → mul a o ⊕ (mul p (mul x o) ⊕ (mul q (mul y o) ⊕ mul r (mul z o))) ≡ mul (a ⊕ (mul p x ⊕ (mul q y ⊕ mul r z))) o
  gather a p q r x y z o = simp ring

  parity_solves : (i : ℕ) → parity_of n (data_of n k miss old) i ≡ sum_to n (λ j. mul (parity_row n k miss i j) (old (slot n k miss j)))
  unfolding parity_of parity_row
  parity_solves i =
      sum_split miss (λ j. mul (coef i j) (data_of n k miss old j)) n
      ∙ ap₂ ◌⊕◌ (sum_cong n _ _ (λ j h. slot-there i j))
      (short_sum (λ j. mul (coef i j) (data_of n k miss old j)) (lost n miss) few ∙ ap₂ ◌⊕◌ (third i 0) (ap₂ ◌⊕◌ (third i 1) (third i 2))
      ∙ sum3-sum n (λ r j. mul (coef i (get_or (lost n miss) r 0)) (mul (pick (ltb r (length (lost n miss))) (data_row n k miss r j) 0) (old (slot n k miss j)))))
      ∙ sym (sum-add n _ _)
      ∙ sum_cong n _ _ (λ j h. gather (pick (miss j) 0 (coef i j)) (coef i (get_or (lost n miss) 0 0)) (coef i (get_or (lost n miss) 1 0)) (coef i (get_or (lost n miss) 2 0))
      (pick (ltb 0 (length (lost n miss))) (data_row n k miss 0 j) 0) (pick (ltb 1 (length (lost n miss))) (data_row n k miss 1 j) 0)
      (pick (ltb 2 (length (lost n miss))) (data_row n k miss 2 j) 0) (old (slot n k miss j)))

  -- ---- a missing unit is the sum over the slots

  pub row_gives : (u : ℕ) → miss u ≡ true → rebuilt n k miss old u ≡ sum_to n (λ j. mul (row_of n k miss u j) (old (slot n k miss j)))
  unfolding rebuilt row_of
  row_gives u t =
      pick_true (miss u) _ (old u) t
      ∙ below_or_not u n
      (λ (h : u < n).
      content_data n (data_of n k miss old) u h ∙ lost_datum u t ∙ row_solves (count miss u)
      ∙ sum_cong n _ _ (λ j l. ap (λ (x : ℕ). mul x (old (slot n k miss j))) (sym (pick_true (ltb u n) _ _ (lt-ltb u n h)))))
      (λ (h : n ≤ u).
      content_beyond n (data_of n k miss old) u h ∙ parity_solves (u - n)
      ∙ sum_cong n _ _ (λ j l. ap (λ (x : ℕ). mul x (old (slot n k miss j))) (sym (pick-false (ltb u n) _ _ (le-ltb u n h)))))
