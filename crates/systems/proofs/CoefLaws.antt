-- "a(i,j) = ((32⊕j)·((32+i)⊕0)) / (((32+i)⊕j)·32), products and quotients in the field. So row 0 and column 0 are ones." As a rule and as a
-- table, and one computed test: the table is the rule's, its first row and column are ones, and every square part of it with one, two or
-- three rows is nonsingular.
use Rattle.std.specs.Prelude.{◌≡◌, refl, true, ℕ, ◌<◌, eqb, ltb}
use Rattle.std.proofs.Common.{◌∙◌, lt_trans, lit<, eqb-true, ltb-true}
use Rattle.lists.specs.Pick.{both, both_true}
use Rattle.lists.specs.Search.{all, all-at}
use Rattle.field.specs.Byte.{◌⊕◌, double, scale, mul_digits, mul, inv, power_digits, div}
use Rattle.systems.specs.Coef.{coef, table, entry, det2, det3, single, singles, doubles, triples, edges, test}

passed : test ≡ true
unfolding all test singles doubles triples edges single det2 det3 entry table coef ◌⊕◌ mul mul_digits double scale inv power_digits div
passed = refl

parts : (singles ≡ true) × (both doubles (both triples edges) ≡ true)
unfolding test
parts = both_true singles (both doubles (both triples edges)) passed

square_parts : (doubles ≡ true) × (both triples edges ≡ true)
square_parts = both_true doubles (both triples edges) parts.1

edge_parts : (all (λ j. eqb (entry 0 j) 1) 16 ≡ true) × (all (λ i. eqb (entry i 0) 1) 3 ≡ true)
unfolding edges
edge_parts = both_true (all (λ j. eqb (entry 0 j) 1) 16) (all (λ i. eqb (entry i 0) 1) 3) (both_true triples edges square_parts.1).1

at_single : (i j : ℕ) → i < 3 → j < 16 → (eqb (coef i j) (entry i j) ≡ true) × (ltb 0 (entry i j) ≡ true)
unfolding singles single
at_single i j hi hj =
    both_true (eqb (coef i j) (entry i j)) (ltb 0 (entry i j))
    (all-at (λ j. single i j) 16 (all-at (λ i. all (λ j. single i j) 16) 3 parts.0 i hi) j hj)

-- the table holds the coefficients
pub coef-entry : (i j : ℕ) → i < 3 → j < 16 → coef i j ≡ entry i j
coef-entry i j hi hj = eqb-true (coef i j) (entry i j) (at_single i j hi hj).0

pub coef_pos : (i j : ℕ) → i < 3 → j < 16 → 0 < coef i j
coef_pos i j hi hj = rw (coef-entry i j hi hj) (ltb-true 0 (entry i j) (at_single i j hi hj).1)

pub coef-row : (j : ℕ) → j < 16 → coef 0 j ≡ 1
coef-row j h =
    coef-entry 0 j (lit< tt) h ∙ eqb-true (entry 0 j) 1 (all-at (λ j. eqb (entry 0 j) 1) 16 edge_parts.0 j h)

pub coef-column : (i : ℕ) → i < 3 → coef i 0 ≡ 1
coef-column i h =
    coef-entry i 0 h (lit< tt) ∙ eqb-true (entry i 0) 1 (all-at (λ i. eqb (entry i 0) 1) 3 edge_parts.1 i h)

-- two rows and two columns
pub coef_2 : (i k j l : ℕ) → i < k → k < 3 → j < l → l < 16 → 0 < mul (coef i j) (coef k l) ⊕ mul (coef i l) (coef k j)
unfolding det2 doubles
coef_2 i k j l hi hk hj hl =
    rw (coef-entry i j (lt_trans hi hk) (lt_trans hj hl), coef-entry k l hk hl, coef-entry i l (lt_trans hi hk) hl, coef-entry k j hk (lt_trans hj hl))
    (ltb-true 0 (det2 i k j l)
    (all-at (λ j. ltb 0 (det2 i k j l)) l
    (all-at (λ l. all (λ j. ltb 0 (det2 i k j l)) l) 16
    (all-at (λ i. all (λ l. all (λ j. ltb 0 (det2 i k j l)) l) 16) k
    (all-at (λ k. all (λ i. all (λ l. all (λ j. ltb 0 (det2 i k j l)) l) 16) k) 3 square_parts.0 k hk) i hi) l hl) j hj))

-- three columns
pub coef_3 : (j k l : ℕ) → j < k → k < l → l < 16
    → 0 < mul (coef 0 j) (mul (coef 1 k) (coef 2 l) ⊕ mul (coef 1 l) (coef 2 k))
    ⊕ (mul (coef 0 k) (mul (coef 1 j) (coef 2 l) ⊕ mul (coef 1 l) (coef 2 j)) ⊕ mul (coef 0 l) (mul (coef 1 j) (coef 2 k) ⊕ mul (coef 1 k) (coef 2 j)))
unfolding det2 det3 triples
coef_3 j k l hj hk hl =
    let k16 = lt_trans hk hl in
    let j16 = lt_trans hj k16 in
    rw (
      coef-entry 0 j (lit< tt) j16,
      coef-entry 1 j (lit< tt) j16,
      coef-entry 2 j (lit< tt) j16,
      coef-entry 0 k (lit< tt) k16,
      coef-entry 1 k (lit< tt) k16,
      coef-entry 2 k (lit< tt) k16,
      coef-entry 0 l (lit< tt) hl,
      coef-entry 1 l (lit< tt) hl,
      coef-entry 2 l (lit< tt) hl,
    )
    (ltb-true 0 (det3 j k l)
    (all-at (λ j. ltb 0 (det3 j k l)) k
    (all-at (λ k. all (λ j. ltb 0 (det3 j k l)) k) l
    (all-at (λ l. all (λ k. all (λ j. ltb 0 (det3 j k l)) k) l) 16 (both_true triples edges square_parts.1).0 l hl) k hk) j hj))
