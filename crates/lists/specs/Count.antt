-- How many numbers below n pass a test, and the sum of a function below n.
use Rattle.std.specs.Prelude.{◌≡◌, ◌⊎◌, Bool, true, false, not, ℕ, zero, suc, ◌+◌, ◌*◌, ◌%◌, ◌≤◌, ◌<◌, eqb}
use Rattle.std.proofs.Math.Path.{refl}
use Rattle.std.proofs.Common.{sym, ap, ap₂, ◌∙◌, subst, inl, inr, ⊎_elim, le_refl, add-zero, add-suc, add_assoc, mul-zero, mul-suc, suc-mul, not-suc-le-zero, le_of_suc-le-suc, eq-or-lt_of_le, add-one, arith, eqb-true, eq-eqb, ne_eqb}
use Rattle.std.proofs.Math.Nat.{le_dest}
use Rattle.lists.specs.Pick.{bit, bit_le, bit_mono, same_truth, equal_or_not, below_or_not}
use Rattle.lists.specs.Digits.{mod_of}

unfoldable pub count : (ℕ → Bool) → ℕ → ℕ
count f zero = 0
count f (suc n) = count f n + bit (f n)

unfoldable pub sum : (ℕ → ℕ) → ℕ → ℕ
sum s zero = 0
sum s (suc n) = sum s n + s n

-- ---- rules that agree below n

pub count_same : (f g : ℕ → Bool) (n : ℕ) → ((k : ℕ) → k < n → f k ≡ g k) → count f n ≡ count g n
unfolding count
count_same f g zero e = refl
count_same f g (suc n) e = (λ i. count_same f g n (λ k h. e k (omega arith)) i + bit (e n (le_refl (suc n)) i))

pub sum_same : (s t : ℕ → ℕ) (n : ℕ) → ((k : ℕ) → k < n → s k ≡ t k) → sum s n ≡ sum t n
unfolding sum
sum_same s t zero e = refl
sum_same s t (suc n) e = (λ i. sum_same s t n (λ k h. e k (omega arith)) i + e n (le_refl (suc n)) i)

-- ---- one number more, as the code counts

pub count_next : (f : ℕ → Bool) (n : ℕ) → count f (n + 1) ≡ count f n + bit (f n)
unfolding count
count_next f n = ap (count f) (add-one n)

pub sum_next : (s : ℕ → ℕ) (n : ℕ) → sum s (n + 1) ≡ sum s n + s n
unfolding sum
sum_next s n = ap (sum s) (add-one n)

-- ---- m numbers and then n more

pub sum-add : (s : ℕ → ℕ) (m n : ℕ) → sum s (m + n) ≡ sum s m + sum (λ k. s (m + k)) n
unfolding sum
sum-add s m zero = ap (sum s) (add-zero m) ∙ sym (add-zero (sum s m))
sum-add s m (suc n) =
    ap (sum s) (add-suc m n) ∙ ap (λ (x : ℕ). x + s (m + n)) (sum-add s m n) ∙ add_assoc (sum s m) (sum (λ k. s (m + k)) n) (s (m + n))

-- a count is a sum of bits
count-sum : (f : ℕ → Bool) (n : ℕ) → count f n ≡ sum (λ k. bit (f k)) n
unfolding count sum
count-sum f zero = refl
count-sum f (suc n) = ap (λ (x : ℕ). x + bit (f n)) (count-sum f n)

pub count_add : (f : ℕ → Bool) (m n : ℕ) → count f (m + n) ≡ count f m + count (λ k. f (m + k)) n
count_add f m n =
    count-sum f (m + n) ∙ sum-add (λ k. bit (f k)) m n
    ∙ sym (ap₂ (λ (a b : ℕ). a + b) (count-sum f m) (count-sum (λ k. f (m + k)) n))

-- n blocks of w numbers
pub count_blocks : (f : ℕ → Bool) (w n : ℕ) → sum (λ h. count (λ u. f (w * h + u)) w) n ≡ count f (w * n)
unfolding sum
count_blocks f w zero = sym (ap (count f) (mul-zero w) ∙ unfold count in refl)
count_blocks f w (suc n) =
    ap (λ (x : ℕ). x + count (λ u. f (w * n + u)) w) (count_blocks f w n) ∙ sym (ap (count f) (mul-suc w n) ∙ count_add f (w * n) w)

-- ---- orders

pub count_mono : (f : ℕ → Bool) (m n : ℕ) → m ≤ n → count f m ≤ count f n
count_mono f m n h =
    let d = le_dest h in
    let e : count f n ≡ count f m + count (λ k. f (m + k)) d.0 = ap (count f) (sym d.1) ∙ count_add f m d.0 in
    omega arith

pub sum_mono : (s : ℕ → ℕ) (m n : ℕ) → m ≤ n → sum s m ≤ sum s n
unfolding sum
sum_mono s m zero h = let e : m ≡ 0 = omega arith in subst (λ (k : ℕ). sum s k ≤ 0) (sym e) (omega arith)
sum_mono s m (suc n) h =
    ⊎_elim (λ (e : m ≡ suc n). subst (λ (k : ℕ). sum s k ≤ sum s n + s n) (sym e) (omega arith))
    (λ (l : m < suc n). let a = sum_mono s m n (le_of_suc-le-suc l) in omega (arith, a))
    (eq-or-lt_of_le h)

-- numbers of at most m each
pub sum-le : (s : ℕ → ℕ) (m n : ℕ) → ((k : ℕ) → k < n → s k ≤ m) → sum s n ≤ n * m
unfolding sum
sum-le s m zero ok = omega arith
sum-le s m (suc n) ok =
    let a = sum-le s m n (λ k h. ok k (omega arith)) in
    let b = ok n (omega arith) in
    let e = suc-mul n m in
    omega (arith, a, b, e)

pub count-le : (f : ℕ → Bool) (n : ℕ) → count f n ≤ n
unfolding count
count-le f zero = omega arith
count-le f (suc n) = omega (arith, count-le f n, bit_le (f n))

-- a test that holds wherever another does counts no less
pub count_weaker : (f g : ℕ → Bool) (n : ℕ) → ((k : ℕ) → k < n → f k ≡ true → g k ≡ true) → count f n ≤ count g n
unfolding count
count_weaker f g zero h = omega arith
count_weaker f g (suc n) h = omega (arith, count_weaker f g n (λ i b. h i (omega arith)), bit_mono (f n) (g n) (h n (omega arith)))

-- and where it counts no more, it holds only where the other does
pub count_tight : (f g : ℕ → Bool) (n : ℕ) → ((k : ℕ) → k < n → f k ≡ true → g k ≡ true) → count f n ≡ count g n
    → (k : ℕ) → k < n → g k ≡ true → f k ≡ true
unfolding count
count_tight f g zero h e k b t = absurd (not-suc-le-zero b)
count_tight f g (suc n) h e k b t =
    let w = count_weaker f g n (λ i l. h i (omega arith)) in
    let m = bit_mono (f n) (g n) (h n (omega arith)) in
    ⊎_elim
    (λ (q : k ≡ n). ap f q ∙ on (f n) (g n) (sym (ap g q) ∙ t) (omega (arith, w, m, e)))
    (λ (l : k < n). count_tight f g n (λ i a. h i (omega arith)) (omega (arith, w, m, e)) k l t)
    (eq-or-lt_of_le (le_of_suc-le-suc b))
  where
    on : (a c : Bool) → c ≡ true → bit a ≡ bit c → a ≡ true
    on true c q z = refl
    on false c q z = absurd (let y : bit c ≡ 1 = ap bit q in omega (arith, y, z))

-- the same but at one number: at most one more
pub count_more : (f g : ℕ → Bool) (j n : ℕ) → ((k : ℕ) → k < n → (k ≡ j → ⊥) → f k ≡ true → g k ≡ true) → count f n ≤ count g n + 1
unfolding count
count_more f g j zero h = omega arith
count_more f g j (suc n) h =
    equal_or_not n j
    (λ (e : n ≡ j). omega (arith, count_weaker f g n (λ i b. h i (omega arith) (λ (q : i ≡ j). omega arith)), bit_le (f n)))
    (λ (ne : n ≡ j → ⊥). omega (arith, count_more f g j n (λ i b. h i (omega arith)), bit_mono (f n) (g n) (h n (omega arith) ne)))

-- ---- one test where two others hold, which never hold together

pub count-two : (f g h : ℕ → Bool) (n : ℕ) → ((k : ℕ) → k < n → bit (f k) ≡ bit (g k) + bit (h k)) → count f n ≡ count g n + count h n
unfolding count
count-two f g h zero e = refl
count-two f g h (suc n) e = omega (arith, count-two f g h n (λ k b. e k (omega arith)), e n (omega arith))

pub sum-two : (s a b : ℕ → ℕ) (n : ℕ) → ((k : ℕ) → k < n → s k ≡ a k + b k) → sum s n ≡ sum a n + sum b n
unfolding sum
sum-two s a b zero e = refl
sum-two s a b (suc n) e = omega (arith, sum-two s a b n (λ k l. e k (omega arith)), e n (omega arith))

-- ---- none, one, all but

pub sum-none : (s : ℕ → ℕ) (n : ℕ) → ((k : ℕ) → k < n → s k ≡ 0) → sum s n ≡ 0
unfolding sum
sum-none s zero e = refl
sum-none s (suc n) e = omega (arith, sum-none s n (λ k l. e k (omega arith)), e n (omega arith))

pub count_none : (f : ℕ → Bool) (n : ℕ) → ((k : ℕ) → k < n → f k ≡ false) → count f n ≡ 0
unfolding count
count_none f zero h = refl
count_none f (suc n) h = (λ i. count_none f n (λ k b. h k (omega arith)) i + bit (h n (le_refl (suc n)) i))

pub count-zero : (f : ℕ → Bool) (n : ℕ) → count f n ≡ 0 → (k : ℕ) → k < n → f k ≡ false
count-zero f n e k h = off (f k) (omega (arith, count_mono f (k + 1) n (omega arith), count_next f k))
  where
    off : (b : Bool) → bit b ≡ 0 → b ≡ false
    off false z = refl
    off true z = absurd (omega arith)

pub count-all : (f : ℕ → Bool) (n : ℕ) → ((k : ℕ) → k < n → f k ≡ true) → count f n ≡ n
unfolding count
count-all f zero h = refl
count-all f (suc n) h = (λ i. count-all f n (λ k b. h k (omega arith)) i + bit (h n (le_refl (suc n)) i)) ∙ add-one n

bit_not : (t : Bool) → bit t + bit (not t) ≡ 1
bit_not true = refl
bit_not false = refl

pub count-not : (f : ℕ → Bool) (n : ℕ) → count f n + count (λ k. not (f k)) n ≡ n
unfolding count
count-not f zero = refl
count-not f (suc n) = omega (arith, count-not f n, bit_not (f n))

-- exactly one number below n is v, where v is below n
pub count-one : (v n : ℕ) → v < n → count (λ k. eqb k v) n ≡ 1
unfolding count
count-one v zero h = absurd (not-suc-le-zero h)
count-one v (suc n) h = cases (λ l. count-one v n l) (eq-or-lt_of_le (le_of_suc-le-suc h))
  where
    cases : (v < n → count (λ k. eqb k v) n ≡ 1) → (v ≡ n) ⊎ (v < n) → count (λ k. eqb k v) n + bit (eqb n v) ≡ 1
    cases ih (inl e) = (λ i. count_none (λ k. eqb k v) n (λ k b. ne_eqb k v (omega arith)) i + bit (eq-eqb n v (sym e) i))
    cases ih (inr l) = (λ i. ih l i + bit (ne_eqb n v (omega arith) i))

-- a test that holds once holds at one number alone, and back
pub count_single : (f : ℕ → Bool) (n : ℕ) → count f n ≡ 1 → (i j : ℕ) → i < n → j < n → f i ≡ true → f j ≡ true → i ≡ j
count_single f n e i j hi hj ti tj =
    equal_or_not i j (λ (q : i ≡ j). q)
    (λ (ne : i ≡ j → ⊥).
    below_or_not i j (λ (l : i < j). absurd (twice i j l hj ti tj)) (λ (l : j ≤ i). absurd (twice j i (omega arith) hi tj ti)))
  where
    twice : (a b : ℕ) → a < b → b < n → f a ≡ true → f b ≡ true → ⊥
    twice a b l h ta tb =
        let one : bit (f a) ≡ 1 = ap bit ta in
        let two : bit (f b) ≡ 1 = ap bit tb in
        omega (arith, e, one, two, count_next f a, count_next f b, count_mono f (a + 1) b (omega arith), count_mono f (b + 1) n (omega arith))

pub single_count : (f : ℕ → Bool) (n i : ℕ) → i < n → f i ≡ true → ((j : ℕ) → j < n → f j ≡ true → j ≡ i) → count f n ≡ 1
single_count f n i h t only =
    count_same f (λ k. eqb k i) n (λ k b. same_truth (f k) (eqb k i) (λ q. eq-eqb k i (only k b q)) (λ q. ap f (eqb-true k i q) ∙ t)) ∙ count-one i n h

-- v is the remainder by p of q numbers below p q
pub count-mod : (p v q : ℕ) → v < p → count (λ x. eqb (x % p) v) (p * q) ≡ q
count-mod p v zero h = ap (count (λ x. eqb (x % p) v)) (mul-zero p) ∙ unfold count in refl
count-mod p v (suc q) h =
    ap (count (λ x. eqb (x % p) v)) (mul-suc p q)
    ∙ count_add (λ x. eqb (x % p) v) (p * q) p
    ∙ (λ i. count-mod p v q h i + row i)
    ∙ add-one q
  where
    row : count (λ k. eqb ((p * q + k) % p) v) p ≡ 1
    row = count_same (λ k. eqb ((p * q + k) % p) v) (λ k. eqb k v) p (λ k l. ap (λ (x : ℕ). eqb x v) (mod_of p q l)) ∙ count-one v p h
