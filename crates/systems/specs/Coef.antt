-- "a(i,j) = ((32⊕j)·((32+i)⊕0)) / (((32+i)⊕j)·32), products and quotients in the field. So row 0 and column 0 are ones." As a rule and as a
-- table, and one computed test: the table is the rule's, its first row and column are ones, and every square part of it with one, two or
-- three rows is nonsingular.
use Rattle.std.specs.Prelude.{Bool, List, [], ◌∷◌, ℕ, ◌+◌, ◌<◌, eqb, ltb, get_or}
use Rattle.lists.specs.Pick.{both}
use Rattle.lists.specs.Search.{all}
use Rattle.field.specs.Byte.{◌⊕◌, mul, div}
use Rattle.field.proofs.Laws.{div-lt}

-- the coefficient of data unit j in parity unit i
unfoldable pub coef : ℕ → ℕ → ℕ
coef i j = div (mul (32 ⊕ j) ((32 + i) ⊕ 0)) (mul ((32 + i) ⊕ j) 32)

unfoldable pub table : List (List ℕ)
table =
    (1 ∷ 1 ∷ 1 ∷ 1 ∷ 1 ∷ 1 ∷ 1 ∷ 1 ∷ 1 ∷ 1 ∷ 1 ∷ 1 ∷ 1 ∷ 1 ∷ 1 ∷ 1 ∷ []) ∷
    (1 ∷ 232 ∷ 220 ∷ 240 ∷ 194 ∷ 14 ∷ 124 ∷ 170 ∷ 53 ∷ 144 ∷ 186 ∷ 162 ∷ 17 ∷ 63 ∷ 50 ∷ 101 ∷ []) ∷
    (1 ∷ 220 ∷ 130 ∷ 32 ∷ 10 ∷ 134 ∷ 21 ∷ 182 ∷ 128 ∷ 3 ∷ 55 ∷ 126 ∷ 83 ∷ 193 ∷ 88 ∷ 41 ∷ []) ∷ []

unfoldable pub entry : ℕ → ℕ → ℕ
entry i j = get_or (get_or table i []) j 0

-- the determinants of two columns at rows i and k, and of three columns
unfoldable pub det2 : ℕ → ℕ → ℕ → ℕ → ℕ
det2 i k j l = mul (entry i j) (entry k l) ⊕ mul (entry i l) (entry k j)

unfoldable pub det3 : ℕ → ℕ → ℕ → ℕ
det3 j k l = mul (entry 0 j) (det2 1 2 k l) ⊕ (mul (entry 0 k) (det2 1 2 j l) ⊕ mul (entry 0 l) (det2 1 2 j k))

unfoldable pub single : ℕ → ℕ → Bool
single i j = both (eqb (coef i j) (entry i j)) (ltb 0 (entry i j))

-- the table is the rule's, and no entry is 0; every two columns; every three; the first row and column
unfoldable pub singles : Bool
singles = all (λ i. all (λ j. single i j) 16) 3

unfoldable pub doubles : Bool
doubles = all (λ k. all (λ i. all (λ l. all (λ j. ltb 0 (det2 i k j l)) l) 16) k) 3

unfoldable pub triples : Bool
triples = all (λ l. all (λ k. all (λ j. ltb 0 (det3 j k l)) k) l) 16

unfoldable pub edges : Bool
edges = both (all (λ j. eqb (entry 0 j) 1) 16) (all (λ i. eqb (entry i 0) 1) 3)

unfoldable pub test : Bool
test = both singles (both doubles (both triples edges))

pub coef-lt : (i j : ℕ) → coef i j < 256
unfolding coef
coef-lt i j = div-lt _ _
