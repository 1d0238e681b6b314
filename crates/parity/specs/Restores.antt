-- Data that fit the units that are used are the data that are rebuilt; and those fit. So of a group that was encoded, what is there gives back
-- the rest.
use Rattle.std.specs.Prelude.{◌≡◌, refl, Bool, true, false, not, List, ℕ, ◌+◌, ◌<◌, ◌≤◌, ltb, eqb}
use Rattle.std.proofs.Math.Path.{sym, ap, ap₂, subst⁻¹}
use Rattle.std.proofs.Common.{◌∙◌, subst, le_trans, le-add_right, arith, lit<}
use Rattle.std.proofs.Math.ListN.{length, get_or}
use borrow.Author.Tests.{ltb-true, ltb-false, lt-ltb, le-ltb, eqb-true, ne_eqb, not-true}
use Rattle.lists.specs.Pick.{pick, pick_true, pick-false, both, below_or_not, clash}
use Rattle.lists.specs.Count.{count, count_add, count-not}
use Rattle.lists.specs.Those.{length-those, those-lt, those_asc, those_hold, those-place, those_rank}
use Rattle.field.specs.Byte.{◌⊕◌, mul}
use Rattle.field.specs.Laws.{mul-zero}
use Rattle.field.proofs.Laws.{zero-mul, mul-lt}
use Rattle.field.specs.Ring.{zero_⊕, ⊕-lt}
use Rattle.field.proofs.RingLaws.{ring}
use Rattle.field.specs.Sum.{sum_to, sum_cong, sum_lt}
use Rattle.systems.specs.Coef.{coef}
use Rattle.systems.specs.Cramer.{row, det, sol, sol_unique, sol_solves, sol-lt}
use Rattle.systems.specs.System.{system_entry, sys}
use Rattle.systems.proofs.SystemLaws.{regular}
use Rattle.parity.specs.Group.{parity_of, content, Solvable, lost, there, equations, left, known, data_of, rebuilt}
use Rattle.parity.specs.Content.{content_data, content_parity, content_cong, sum_over, sum_split, short_sum}

-- ---- choices

pick_case : (x : Bool) (a b c : ℕ) → (x ≡ true → a ≡ c) → (x ≡ false → b ≡ c) → pick x a b ≡ c
pick_case true a b c p q = p refl
pick_case false a b c p q = q refl

pick_keeps : (P : ℕ → Type 0) (x : Bool) (a b : ℕ) → P a → P b → P (pick x a b)
pick_keeps P true a b p q = p
pick_keeps P false a b p q = q

move : (s l o : ℕ) → s ⊕ l ≡ o → l ≡ o ⊕ s
move s l o e = swap s l ∙ ap (◌⊕ s) e
  where
    swap : (s l : ℕ) → l ≡ (s ⊕ l) ⊕ s
    swap s l = simp ring

back : (s o : ℕ) → s ⊕ (o ⊕ s) ≡ o
back s o = simp ring

-- ---- the equations, row by row

-- the unknowns: the lost data, and zeros
unknown : List ℕ → (ℕ → ℕ) → ℕ → ℕ
unknown ks d c = pick (ltb c (length ks)) (d (get_or ks c 0)) 0

in_term : (x y : Bool) (a e v : ℕ) → x ≡ true → mul (pick (both x y) a e) (pick y v 0) ≡ pick y (mul a v) 0
in_term true true a e v t = refl
in_term true false a e v t = mul-zero e
in_term false y a e v t = clash false t refl

row_in : (is ks : List ℕ) (d : ℕ → ℕ) → length ks ≤ 3 → (r : ℕ) → r < length ks
    → row (sys is ks) (unknown ks d) r ≡ sum_over (λ j. mul (coef (get_or is r 0) j) (d j)) ks
unfolding row system_entry unknown
row_in is ks d h r l =
    ap₂ ◌⊕◌ (at 0) (ap₂ ◌⊕◌ (at 1) (at 2)) ∙ sym (short_sum (λ j. mul (coef (get_or is r 0) j) (d j)) ks h)
  where
    at : (c : ℕ) → mul (sys is ks r c) (unknown ks d c) ≡ pick (ltb c (length ks)) (mul (coef (get_or is r 0) (get_or ks c 0)) (d (get_or ks c 0))) 0
    at c = in_term (ltb r (length ks)) (ltb c (length ks)) (coef (get_or is r 0) (get_or ks c 0)) (pick (eqb r c) 1 0) (d (get_or ks c 0)) (lt-ltb r (length ks) l)

out_term : (x y z : Bool) (a v : ℕ) → x ≡ false → (z ≡ true → y ≡ false) → mul (pick (both x y) a (pick z 1 0)) (pick y v 0) ≡ 0
out_term true y z a v t q = clash true refl t
out_term false true true a v t q = clash true refl (q refl)
out_term false false true a v t q = mul-zero 1
out_term false y false a v t q = zero-mul (pick y v 0)

row_out : (is ks : List ℕ) (d : ℕ → ℕ) (r : ℕ) → length ks ≤ r → row (sys is ks) (unknown ks d) r ≡ 0
unfolding row system_entry unknown
row_out is ks d r l = ap₂ ◌⊕◌ (at 0) (ap₂ ◌⊕◌ (at 1) (at 2)) ∙ zero_⊕ (0 ⊕ 0) ∙ zero_⊕ 0
  where
    at : (c : ℕ) → mul (sys is ks r c) (unknown ks d c) ≡ 0
    at c =
        out_term (ltb r (length ks)) (ltb c (length ks)) (eqb r c) (coef (get_or is r 0) (get_or ks c 0)) (d (get_or ks c 0)) (le-ltb r (length ks) l)
        (λ t. le-ltb c (length ks) (subst (λ (u : ℕ). length ks ≤ u) (eqb-true r c t) l))

col_term : (x y z : Bool) (a v w : ℕ) → x ≡ true → (y ≡ true → v ≡ w) → (y ≡ false → z ≡ false)
    → pick y (mul a v) 0 ≡ mul (pick (both x y) a (pick z 1 0)) w
col_term false y z a v w t p q = clash false t refl
col_term true true z a v w t p q = ap (mul a) (p refl)
col_term true false true a v w t p q = clash true refl (q refl)
col_term true false false a v w t p q = sym (zero-mul w)

-- ---- the theorem

module _ (n k : ℕ) (miss : ℕ → Bool) (s : Solvable n k miss) where
  pub enough : length (lost n miss) ≤ length (there n k miss)
  enough = omega (arith, s.few, length-those miss n, length-those (λ i. not (miss (n + i))) k, count_add miss n k, count-not (λ i. miss (n + i)) k)

  at_most : length (there n k miss) ≤ 3
  at_most = omega (arith, s.parity_max, length-those (λ i. not (miss (n + i))) k, count-not (λ i. miss (n + i)) k)

  pub lost_most : length (lost n miss) ≤ 3
  lost_most = le_trans enough at_most

  solvable : 0 < det (equations n k miss)
  solvable =
      regular (there n k miss) (lost n miss)
      (record {
        bound = λ c h. le_trans (those-lt (λ i. not (miss (n + i))) k c h) s.parity_max;
        rises = those_asc (λ i. not (miss (n + i))) k;
      })
      (record { bound = λ c h. le_trans (those-lt miss n c h) s.data_max; rises = those_asc miss n }) enough

  -- the r-th parity unit that is there
  pub there-lt : (r : ℕ) → r < length (lost n miss) → n + get_or (there n k miss) r 0 < n + k
  there-lt r h = omega (arith, those-lt (λ i. not (miss (n + i))) k r (le_trans h enough))

  pub there_in : (r : ℕ) → r < length (lost n miss) → miss (n + get_or (there n k miss) r 0) ≡ false
  there_in r h = not-true (miss (n + get_or (there n k miss) r 0)) (those_hold (λ i. not (miss (n + i))) k r (le_trans h enough))

  module _ (old : ℕ → ℕ) where
    -- data that fit: bytes, as they stand where they are there, and right for the first parity units that are there, as many as are lost
    pub record Fits (d : ℕ → ℕ) : Type 0 where
      pub bytes : (j : ℕ) → j < n → d j < 256
      pub same : (j : ℕ) → j < n → miss j ≡ false → d j ≡ old j
      pub right : (r : ℕ) → r < length (lost n miss) → parity_of n d (get_or (there n k miss) r 0) ≡ old (n + get_or (there n k miss) r 0)

    know : (d : ℕ → ℕ) → ((j : ℕ) → j < n → miss j ≡ false → d j ≡ old j) → (i : ℕ)
        → sum_to n (λ j. pick (miss j) 0 (mul (coef i j) (d j))) ≡ sum_to n (λ j. pick (miss j) 0 (mul (coef i j) (old j)))
    know d q i = sum_cong n _ _ (λ j h. part (miss j) (mul (coef i j) (d j)) (mul (coef i j) (old j)) (λ t. ap (mul (coef i j)) (q j h t)))
      where
        part : (x : Bool) (a b : ℕ) → (x ≡ false → a ≡ b) → pick x 0 a ≡ pick x 0 b
        part true a b e = refl
        part false a b e = e refl

    module _ (d : ℕ → ℕ) (f : Fits d) where
      lost-sum : (r : ℕ) → r < length (lost n miss)
          → sum_over (λ j. mul (coef (get_or (there n k miss) r 0) j) (d j)) (lost n miss) ≡ left n miss old (get_or (there n k miss) r 0)
      unfolding left parity_of
      lost-sum r h =
          let i = get_or (there n k miss) r 0 in
          move _ _ _ (sym (sum_split miss (λ j. mul (coef i j) (d j)) n) ∙ f.right r h) ∙ ap (old (n + i) ⊕◌) (know d f.same i)

      rows_fit : (r : ℕ) → r < 3 → row (equations n k miss) (unknown (lost n miss) d) r ≡ known n k miss old r
      unfolding known
      rows_fit r h =
          below_or_not r (length (lost n miss))
          (λ (l : r < length (lost n miss)). row_in (there n k miss) (lost n miss) d lost_most r l ∙ lost-sum r l
          ∙ sym (pick_true (ltb r (length (lost n miss))) _ 0 (lt-ltb r (length (lost n miss)) l)))
          (λ (l : length (lost n miss) ≤ r). row_out (there n k miss) (lost n miss) d r l
          ∙ sym (pick-false (ltb r (length (lost n miss))) _ 0 (le-ltb r (length (lost n miss)) l)))

      at_place : (j : ℕ) → j < n → miss j ≡ true → unknown (lost n miss) d (count miss j) ≡ d j
      unfolding unknown
      at_place j h t =
          let q = those-place miss n j h t in
          pick_true (ltb (count miss j) (length (lost n miss))) _ 0 (lt-ltb (count miss j) (length (lost n miss)) q.0) ∙ ap d q.1

      -- data that fit are the data that are rebuilt
      pub fits_unique : (j : ℕ) → j < n → data_of n k miss old j ≡ d j
      unfolding data_of
      fits_unique j h =
          pick_case (miss j) _ (old j) (d j)
          (λ t. sol_unique (equations n k miss) (unknown (lost n miss) d) (known n k miss old) solvable rows_fit (count miss j)
          (le_trans (those-place miss n j h t).0 lost_most) (subst⁻¹ (λ (x : ℕ). x < 256) (at_place j h t) (f.bytes j h))
          ∙ at_place j h t)
          (λ t. sym (f.same j h t))

    -- of a group that was encoded, what is there gives back the rest
    pub restores : (d : ℕ → ℕ) → ((j : ℕ) → j < n → d j < 256) → ((u : ℕ) → u < n + k → miss u ≡ false → old u ≡ content n d u)
        → (u : ℕ) → u < n + k → rebuilt n k miss old u ≡ content n d u
    unfolding rebuilt
    restores d b e u h =
        pick_case (miss u) _ (old u) (content n d u) (λ t. content_cong n (data_of n k miss old) d (fits_unique d fits) u) (e u h)
      where
        fits : Fits d
        fits =
            record {
              bytes = b;
              same = λ j l t. sym (e j (le_trans l (le-add_right n k)) t ∙ content_data n d j l);
              right = λ r l. sym (e (n + get_or (there n k miss) r 0) (there-lt r l) (there_in r l) ∙ content_parity n d (get_or (there n k miss) r 0));
            }

    -- on any group of bytes, the data that are rebuilt fit: they are right for the units that are used
    module _ (ob : (u : ℕ) → u < n + k → old u < 256) where
      abbrev x : ℕ → ℕ
      x = sol (equations n k miss) (known n k miss old)

      at-lost : (c : ℕ) → c < length (lost n miss) → data_of n k miss old (get_or (lost n miss) c 0) ≡ x c
      unfolding data_of
      at-lost c h = pick_true (miss (get_or (lost n miss) c 0)) _ _ (those_hold miss n c h) ∙ ap x (those_rank miss n c h)

      data_lt : (j : ℕ) → j < n → data_of n k miss old j < 256
      unfolding data_of
      data_lt j h =
          pick_keeps (λ (v : ℕ). v < 256) (miss j) (x (count miss j)) (old j)
          (sol-lt (equations n k miss) (known n k miss old) (count miss j)) (ob j (le_trans h (le-add_right n k)))

      data_same : (j : ℕ) → j < n → miss j ≡ false → data_of n k miss old j ≡ old j
      unfolding data_of
      data_same j h t = pick-false (miss j) _ (old j) t

      column : (r c : ℕ) → r < length (lost n miss)
          → pick (ltb c (length (lost n miss))) (mul (coef (get_or (there n k miss) r 0) (get_or (lost n miss) c 0)) (data_of n k miss old (get_or (lost n miss) c 0))) 0
          ≡ mul (equations n k miss r c) (x c)
      unfolding system_entry
      column r c h =
          col_term (ltb r (length (lost n miss))) (ltb c (length (lost n miss))) (eqb r c) (coef (get_or (there n k miss) r 0) (get_or (lost n miss) c 0))
          (data_of n k miss old (get_or (lost n miss) c 0)) (x c) (lt-ltb r (length (lost n miss)) h)
          (λ t. at-lost c (ltb-true c (length (lost n miss)) t))
          (λ t. let g = ltb-false c (length (lost n miss)) t in ne_eqb r c (λ (q : r ≡ c). absurd (omega arith)))

      left_lt : (r : ℕ) → r < length (lost n miss) → left n miss old (get_or (there n k miss) r 0) < 256
      unfolding left
      left_lt r h =
          ⊕-lt _ _ (ob (n + get_or (there n k miss) r 0) (there-lt r h))
          (sum_lt n _ (λ j. pick_keeps (λ (v : ℕ). v < 256) (miss j) 0 (mul (coef (get_or (there n k miss) r 0) j) (old j)) (lit< tt) (mul-lt _ _)))

      known_is : (r : ℕ) → r < length (lost n miss) → known n k miss old r ≡ left n miss old (get_or (there n k miss) r 0)
      unfolding known
      known_is r h = pick_true (ltb r (length (lost n miss))) _ 0 (lt-ltb r (length (lost n miss)) h)

      left_is : (r : ℕ) → r < length (lost n miss)
          → sum_over (λ j. mul (coef (get_or (there n k miss) r 0) j) (data_of n k miss old j)) (lost n miss) ≡ left n miss old (get_or (there n k miss) r 0)
      unfolding row
      left_is r h =
          short_sum (λ j. mul (coef (get_or (there n k miss) r 0) j) (data_of n k miss old j)) (lost n miss) lost_most
          ∙ ap₂ ◌⊕◌ (column r 0 h) (ap₂ ◌⊕◌ (column r 1 h) (column r 2 h))
          ∙ sol_solves (equations n k miss) (known n k miss old) solvable r (le_trans h lost_most)
          (subst⁻¹ (λ (v : ℕ). v < 256) (known_is r h) (left_lt r h))
          ∙ known_is r h

      right_is : (r : ℕ) → r < length (lost n miss)
          → parity_of n (data_of n k miss old) (get_or (there n k miss) r 0) ≡ old (n + get_or (there n k miss) r 0)
      unfolding parity_of left
      right_is r h =
          let i = get_or (there n k miss) r 0 in
          sum_split miss (λ j. mul (coef i j) (data_of n k miss old j)) n
          ∙ ap₂ ◌⊕◌ (know (data_of n k miss old) data_same i) (left_is r h) ∙ back _ (old (n + i))

      pub data_fits : Fits (data_of n k miss old)
      data_fits = record { bytes = data_lt; same = data_same; right = right_is }
