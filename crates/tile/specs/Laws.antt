-- The laws of a tile's permutation: a bijection of 0 .. P-1 that keeps what is above, and its inverse undoes it both ways.
use Rattle.std.specs.Prelude.{◌≡◌, ℕ, zero, suc, ◌+◌, ◌-◌, ◌/◌, ◌^◌, ◌<◌, ◌≤◌, Bool, true, false, ◌≢◌, List, [], ◌∷◌, length, ◌==◌, slice_set, refl}
use Rattle.std.proofs.Common.{sym, ap, ◌∙◌, subst, zero-le, suc-le-suc, le_refl, le_trans, le_of_suc-le-suc, not-suc-le-zero, mul-le-mul_right, ne_of_gt, lt_of_le_of_lt}
use Rattle.std.proofs.Common.{sub-one, arith, length-set, get_or-set_same, get_or-set_other, lt-length-set, eqb-true, eq-eqb}
use Rattle.lists.specs.Pick.{pick, equal_or_not}
use Rattle.lists.specs.Tabulate.{at, length-tabulate, get_d_tabulate}
use Rattle.lists.specs.Bijection.{Bijection, injective, flip, flip-left, flip_right, flip-other, flipped, same, undone}
use Rattle.tile.specs.Generator.{next_of, advanced, begin_of, draw_of}
use Rattle.tile.specs.Permutation.{own, exchange, shuffle_of, permutation_of, index_of, inverse_of}

-- the list is a bijection of 0 .. n - 1
abbrev pub Permutes : ℕ → List ℕ → Type 0
Permutes n l = (g : ℕ → ℕ) × Bijection n (at l) g

-- ---- the draw

pub draw_le : (s i : ℕ) → s < 2 ^ 64 → draw_of s i ≤ i
unfolding draw_of
draw_le s i h =
    let k : s / 2 ^ 32 ≤ 4294967295 = omega arith in
    omega (arith, mul-le-mul_right (i + 1) k)

pub next_lt : (s : ℕ) → next_of s < 2 ^ 64
unfolding next_of
next_lt s = omega arith

-- one extra advance, with the code's n - 1
pub advanced-step : (n s : ℕ) → 0 < n → advanced n s ≡ advanced (n - 1) (next_of s)
unfolding advanced
advanced-step zero s h = absurd (not-suc-le-zero h)
advanced-step (suc n) s h = ap (λ (k : ℕ). advanced k (next_of s)) (sym (sub-one (suc n)))

-- ---- lists

pub length-own : length own ≡ 64
unfolding own
length-own = length-tabulate 64 (λ t. t)

at_own : (t : ℕ) → t < 64 → at own t ≡ t
unfolding own
at_own t h = get_d_tabulate 64 (λ t. t) t 0 h

pub length-exchange : (l : List ℕ) (i j : ℕ) → length (exchange l i j) ≡ length l
unfolding exchange
length-exchange l i j = simp length-set

-- an exchange is a composition with the flip of i and j
pub at-exchange : (l : List ℕ) (i j t : ℕ) → i < length l → j < length l → at (exchange l i j) t ≡ at l (flip i j t)
unfolding exchange
at-exchange l i j t hi hj =
    equal_or_not t j
    (λ (e : t ≡ j).
    ap (at (exchange l i j)) e
    ∙ get_or-set_same (slice_set l i (at l j)) j (at l i) 0 (lt-length-set l i (at l j) hj)
    ∙ ap (at l) (sym (flip_right i j) ∙ ap (flip i j) (sym e)))
    (λ (n : t ≢ j).
    get_or-set_other (slice_set l i (at l j)) j t (at l i) 0 n
    ∙ equal_or_not t i
    (λ (e : t ≡ i). ap (at (slice_set l i (at l j))) e ∙ get_or-set_same l i (at l j) 0 hi ∙ ap (at l) (sym (flip-left i j) ∙ ap (flip i j) (sym e)))
    (λ (m : t ≢ i). get_or-set_other l i t (at l j) 0 m ∙ ap (at l) (sym (flip-other i j t m n))))

-- ---- the shuffle

-- one turn, with the code's i - 1
pub shuffle_step : (i s : ℕ) (l : List ℕ) → 0 < i → shuffle_of i s l ≡ shuffle_of (i - 1) (next_of s) (exchange l i (draw_of (next_of s) i))
unfolding shuffle_of
shuffle_step zero s l h = absurd (not-suc-le-zero h)
shuffle_step (suc i) s l h = ap (λ (k : ℕ). shuffle_of k (next_of s) (exchange l (suc i) (draw_of (next_of s) (suc i)))) (sym (sub-one (suc i)))

pub length_shuffle : (i s : ℕ) (l : List ℕ) → length (shuffle_of i s l) ≡ length l
unfolding shuffle_of
length_shuffle zero s l = refl
length_shuffle (suc i) s l = length_shuffle i (next_of s) (exchange l (suc i) (draw_of (next_of s) (suc i))) ∙ length-exchange l (suc i) (draw_of (next_of s) (suc i))

-- what stands above i stays
pub shuffle_above : (i s : ℕ) (l : List ℕ) (t : ℕ) → i < length l → i < t → at (shuffle_of i s l) t ≡ at l t
unfolding shuffle_of
shuffle_above zero s l t hl h = refl
shuffle_above (suc i) s l t hl h =
    let j : ℕ = draw_of (next_of s) (suc i) in
    let d : draw_of (next_of s) (suc i) ≤ suc i = draw_le (next_of s) (suc i) (next_lt s) in
    shuffle_above i (next_of s) (exchange l (suc i) (draw_of (next_of s) (suc i))) t
    (subst (λ (n : ℕ). i < n) (sym (length-exchange l (suc i) (draw_of (next_of s) (suc i)))) (omega arith)) (omega arith)
    ∙ at-exchange l (suc i) (draw_of (next_of s) (suc i)) t hl (omega arith)
    ∙ ap (at l) (flip-other (suc i) (draw_of (next_of s) (suc i)) t (ne_of_gt h) (ne_of_gt (omega arith)))

-- it carries a bijection of 0 .. n - 1, for any n above i
pub shuffle_bijection : (i s n : ℕ) (l : List ℕ) (g : ℕ → ℕ) → i < n → n ≤ length l → Bijection n (at l) g → (h : ℕ → ℕ) × Bijection n (at (shuffle_of i s l)) h
unfolding shuffle_of
shuffle_bijection zero s n l g hi hl b = (g, b)
shuffle_bijection (suc i) s n l g hi hl b =
    let d : draw_of (next_of s) (suc i) ≤ suc i = draw_le (next_of s) (suc i) (next_lt s) in
    shuffle_bijection i (next_of s) n (exchange l (suc i) (draw_of (next_of s) (suc i))) (λ v. flip (suc i) (draw_of (next_of s) (suc i)) (g v))
    (omega arith)
    (subst (λ (m : ℕ). n ≤ m) (sym (length-exchange l (suc i) (draw_of (next_of s) (suc i)))) hl)
    (same (λ t p. at-exchange l (suc i) (draw_of (next_of s) (suc i)) t (omega arith) (omega arith)) (flipped (suc i) (draw_of (next_of s) (suc i)) hi (omega arith) b))

own_bijection : (n : ℕ) → n ≤ 64 → Bijection n (at own) (λ t. t)
own_bijection n h = record { into = λ t p. subst (λ (x : ℕ). x < n) (sym (is t p)) p; from = λ t p. p; back = is; forth = is }
  where
    is : (t : ℕ) → t < n → at own t ≡ t
    is t p = at_own t (omega arith)

-- ---- the permutation

module _ (edition p cookie tile : ℕ) (some : 1 ≤ p) (few : p ≤ 64) where
  pub permutation_length : length (permutation_of edition p cookie tile) ≡ 64
  unfolding permutation_of
  permutation_length = length_shuffle (p - 1) (begin_of edition cookie tile) own ∙ length-own

  -- of 0 .. n - 1, for n from p to 64
  pub permutation_bijection : (n : ℕ) → p ≤ n → n ≤ 64 → (g : ℕ → ℕ) × Bijection n (at (permutation_of edition p cookie tile)) g
  unfolding permutation_of
  permutation_bijection n h k = shuffle_bijection (p - 1) (begin_of edition cookie tile) n own (λ t. t) (omega arith) (subst (λ (m : ℕ). n ≤ m) (sym (length-own)) k) (own_bijection n k)

  pub permutation_own : (t : ℕ) → p ≤ t → t < 64 → at (permutation_of edition p cookie tile) t ≡ t
  unfolding permutation_of
  permutation_own t h k = shuffle_above (p - 1) (begin_of edition cookie tile) own t (subst (λ (m : ℕ). p - 1 < m) (sym (length-own)) (omega arith)) (omega arith) ∙ at_own t k

-- ---- the inverse

pub index_found : (l : List ℕ) (v k : ℕ) → k < length l → at l k ≡ v → (index_of l v ≤ k) × (at l (index_of l v) ≡ v)
unfolding index_of
index_found [] v k h e = absurd (not-suc-le-zero h)
index_found (x ∷ xs) v zero h e = subst (λ (b : Bool). (pick b 0 (suc (index_of xs v)) ≤ 0) × (at (x ∷ xs) (pick b 0 (suc (index_of xs v))) ≡ v)) (sym (eq-eqb x v e)) (le_refl 0, e)
index_found (x ∷ xs) v (suc k) h e = later (x == v) refl (index_found xs v k (le_of_suc-le-suc h) e)
  where
    later : (b : Bool) → (x == v) ≡ b → (index_of xs v ≤ k) × (at xs (index_of xs v) ≡ v) → (pick b 0 (suc (index_of xs v)) ≤ suc k) × (at (x ∷ xs) (pick b 0 (suc (index_of xs v))) ≡ v)
    later true q r = (zero-le, eqb-true x v q)
    later false q r = (suc-le-suc r.0, r.1)

-- where the list is a bijection of 0 .. n - 1, the index is what undoes it
pub index_undoes : {n : ℕ} (l : List ℕ) (g : ℕ → ℕ) → n ≤ length l → Bijection n (at l) g → (v : ℕ) → v < n → index_of l v ≡ g v
index_undoes {n} l g hl b v h =
    let found = index_found l v (g v) (le_trans (b.from v h) hl) (b.forth v h) in
    injective b (index_of l v) (g v) (lt_of_le_of_lt found.0 (b.from v h)) (b.from v h) (found.1 ∙ sym (b.forth v h))

pub at-inverse : (l : List ℕ) (v : ℕ) → v < 64 → at (inverse_of l) v ≡ index_of l v
unfolding inverse_of
at-inverse l v h = get_d_tabulate 64 (index_of l) v 0 h

pub inverse_undoes : {n : ℕ} (l : List ℕ) (g : ℕ → ℕ) → n ≤ length l → n ≤ 64 → Bijection n (at l) g → Bijection n (at l) (at (inverse_of l))
inverse_undoes {n} l g hl h b = undone (λ v p. at-inverse l v (omega arith) ∙ index_undoes l g hl b v p) b

-- the permutation and its inverse undo each other, on 0 .. n - 1 for n from p to 64
pub permutation_inverse : (edition p cookie tile : ℕ) → 1 ≤ p → p ≤ 64 → (n : ℕ) → p ≤ n → n ≤ 64
    → Bijection n (at (permutation_of edition p cookie tile)) (at (inverse_of (permutation_of edition p cookie tile)))
permutation_inverse edition p cookie tile some few n h k =
    let b = permutation_bijection edition p cookie tile some few n h k in
    inverse_undoes (permutation_of edition p cookie tile) b.0 (subst (λ (m : ℕ). n ≤ m) (sym (permutation_length edition p cookie tile some few)) k) k b.1
