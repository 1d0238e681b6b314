-- Which units are missing, by the lowest of them and their number: where the lowest is parity no data is lost, and each row is the parity unit's own;
-- where it is data and the only one, its row is a plain sum's (Closing.antt).
use Rattle.std.specs.Prelude.{◌≡◌, refl, Bool, true, false, List, ℕ, ◌+◌, ◌-◌, ◌<◌, ◌≤◌, ltb, length}
use Rattle.std.proofs.Math.Path.{sym, ap}
use Rattle.std.proofs.Common.{◌∙◌, ⊎_elim, arith, lit<, le-ltb}
use Rattle.std.proofs.Math.Nat.{le_trans}
use Rattle.std.proofs.Math.ListN.{get_or}
use Rattle.lists.specs.Pick.{pick, bit, pick-false, either_way, below_or_not}
use Rattle.lists.specs.Count.{count_next, count_mono, count-zero}
use Rattle.lists.specs.Those.{length-those}
use Rattle.field.specs.Byte.{◌⊕◌, mul}
use Rattle.field.proofs.RingLaws.{ring}
use Rattle.field.specs.Sum.{sum3}
use Rattle.systems.specs.Coef.{coef}
use Rattle.systems.specs.Matrix.{ent}
use Rattle.parity.specs.Group.{Solvable, lost, gone}
use Rattle.parity.specs.Rows.{data_row, parity_row, row_of}
use Rattle.parity.specs.Matrix.{Holds, RowsFor}
use Rattle.parity.specs.Made.{held_at, gone_most, gone_data, gone_parity, parity_unit}

-- nothing is added
alone : (x a b c : ℕ) → x ⊕ (mul a 0 ⊕ (mul b 0 ⊕ mul c 0)) ≡ x
alone x a b c = simp ring

module _ (n k : ℕ) (miss : ℕ → Bool) (s : Solvable n k miss) where
  fewer : length (lost n miss) ≤ length (gone n k miss)
  fewer = omega (arith, length-those miss n, length-those miss (n + k), count_mono miss n (n + k) (omega arith))

  none-lost : n ≤ get_or (gone n k miss) 0 0 → length (lost n miss) ≡ 0
  none-lost h =
      below_or_not 0 (length (lost n miss))
      (λ (b : 0 < length (lost n miss)). absurd (omega (arith, h, gone_data n k miss s 0 (omega (arith, b, fewer)) b)))
      (λ (b : length (lost n miss) ≤ 0). omega (arith, b))

  -- with no data lost, parity unit i is its own sum
  own-coef : length (lost n miss) ≡ 0 → (i j : ℕ) → j < n → coef i j ≡ parity_row n k miss i j
  unfolding parity_row
  own-coef e i j l =
      sym
      (ap (λ (z : ℕ). pick (miss j) 0 (coef i j) ⊕ sum3 (λ r. mul (coef i (get_or (lost n miss) r 0)) (pick (ltb r z) (data_row n k miss r j) 0))) e
      ∙ alone (pick (miss j) 0 (coef i j)) _ _ _
      ∙ pick-false (miss j) 0 (coef i j) (count-zero miss n (sym (length-those miss n) ∙ e) j l))

  module _ {units : List ℕ} {total : ℕ} (h : Holds (gone n k miss) units total) where
    first_is : get_or units 0 0 ≡ get_or (gone n k miss) 0 0
    first_is = held_at h 0 (lit< tt)

    module _ (le : n ≤ get_or units 0 0) where
      none : length (lost n miss) ≡ 0
      none = none-lost (omega (arith, le, first_is))

      pub own_units : (q : ℕ) → q < 3 → q < total → (n ≤ get_or units q 0) × (get_or units q 0 < n + 3)
      own_units q b l = parity_unit n k miss s h (record { count_is = refl; at_is = refl }) q b (omega (arith, none)) l

      pub own-rows : (x : List (List ℕ)) → ((q : ℕ) → q < 3 → q < total → (j : ℕ) → j < 16 → ent x q j ≡ coef (get_or units q 0 - n) j) → RowsFor n k miss x
      unfolding row_of
      own-rows x e q l j b =
          let q3 = le_trans l (gone_most n k miss s) in
          let u = get_or (gone n k miss) q 0 in
          e q q3 (omega (arith, l, h.count_is)) j (le_trans b s.data_max)
          ∙ ap (λ (z : ℕ). coef (z - n) j) (held_at h q q3)
          ∙ own-coef none (u - n) j b
          ∙ sym (pick-false (ltb u n) _ _ (le-ltb u n (gone_parity n k miss s q l (omega (arith, none)))))

    -- one unit is missing, and it is data: then parity unit 0 is there
    module _ (some : get_or units 0 0 < n) (one : total ≡ 1) where
      pub one-gone : length (gone n k miss) ≡ 1
      one-gone = sym h.count_is ∙ one

      pub one-lost : length (lost n miss) ≡ 1
      one-lost =
          below_or_not 0 (length (lost n miss))
          (λ (b : 0 < length (lost n miss)). omega (arith, b, fewer, one-gone))
          (λ (b : length (lost n miss) ≤ 0). absurd (omega (arith, some, first_is, gone_parity n k miss s 0 (omega (arith, one-gone)) b)))

      pub parity_there : miss n ≡ false
      parity_there =
          let all = length-those miss (n + k) in
          let below = count_mono miss (n + 1) (n + k) (omega (arith, one-gone, all, s.few)) in
          ⊎_elim
          (λ (t : miss n ≡ true). absurd (omega (arith, ap bit t, count_next miss n, one-lost, length-those miss n, one-gone, all, below)))
          (λ (t : miss n ≡ false). t) (either_way (miss n))
