-- The numbers below n at which a test holds: whether there is one, whether it holds at all, the lowest.
use Rattle.std.specs.Prelude.{◌≡◌, refl, Bool, true, false, not, ℕ, zero, suc, ◌<◌, ◌≤◌, eqb}
use Rattle.std.proofs.Common.{sym, ap, ap₂, subst, ◌∙◌, ⊎_elim, lt_irrefl, not-suc-le-zero, le_of_suc-le-suc, eq-or-lt_of_le, arith, eqb-true}
use Rattle.lists.specs.Pick.{pick, pick_true, pick-false, both, both_true, both_hold, either_way, clash, below_or_not}
use Rattle.lists.specs.Count.{count, count-all}

-- some number below n passes
unfoldable pub any : (ℕ → Bool) → ℕ → Bool
any f zero = false
any f (suc n) = pick (f n) true (any f n)

-- each number below n passes
unfoldable pub all : (ℕ → Bool) → ℕ → Bool
all f zero = true
all f (suc n) = both (f n) (all f n)

-- the lowest number below n that passes, or n
unfoldable pub lowest : (ℕ → Bool) → ℕ → ℕ
lowest f zero = zero
lowest f (suc n) = pick (any f n) (lowest f n) (pick (f n) n (suc n))

-- ---- some

pub any_none : (f : ℕ → Bool) (n : ℕ) → any f n ≡ false → (i : ℕ) → i < n → f i ≡ false
unfolding any
any_none f zero h i b = absurd (not-suc-le-zero b)
any_none f (suc n) h i b =
    ⊎_elim
    (λ (t : f n ≡ true). clash (pick (f n) true (any f n)) (pick_true (f n) true (any f n) t) h)
    (λ (t : f n ≡ false).
    ⊎_elim (λ (e : i ≡ n). subst (λ (k : ℕ). f k ≡ false) (sym e) t)
    (λ (l : i < n). any_none f n (sym (pick-false (f n) true (any f n) t) ∙ h) i l)
    (eq-or-lt_of_le (le_of_suc-le-suc b)))
    (either_way (f n))

pub any-true : (f : ℕ → Bool) (n i : ℕ) → i < n → f i ≡ true → any f n ≡ true
any-true f n i b e =
    ⊎_elim (λ (t : any f n ≡ true). t) (λ (t : any f n ≡ false). clash (f i) e (any_none f n t i b)) (either_way (any f n))

pub any_false : (f : ℕ → Bool) (n : ℕ) → ((i : ℕ) → i < n → f i ≡ false) → any f n ≡ false
unfolding any
any_false f zero h = refl
any_false f (suc n) h = pick-false (f n) true (any f n) (h n (omega arith)) ∙ any_false f n (λ i b. h i (omega arith))

pub any_same : (f g : ℕ → Bool) (n : ℕ) → ((i : ℕ) → i < n → f i ≡ g i) → any f n ≡ any g n
unfolding any
any_same f g zero h = refl
any_same f g (suc n) h = ap₂ (λ (a b : Bool). pick a true b) (h n (omega arith)) (any_same f g n (λ i b. h i (omega arith)))

-- while fewer than n fail, one passes
pub any_room : (f : ℕ → Bool) (n : ℕ) → count (λ i. not (f i)) n < n → any f n ≡ true
any_room f n h =
    ⊎_elim (λ (t : any f n ≡ true). t)
    (λ (t : any f n ≡ false).
    let e = count-all (λ i. not (f i)) n (λ i b. ap not (any_none f n t i b)) in
    absurd (lt_irrefl n (subst (λ (k : ℕ). k < n) e h)))
    (either_way (any f n))

-- ---- each: one test that antt computes gives the rule at every number

pub all-at : (f : ℕ → Bool) (n : ℕ) → all f n ≡ true → (k : ℕ) → k < n → f k ≡ true
unfolding all
all-at f zero t k h = absurd (not-suc-le-zero h)
all-at f (suc n) t k h =
    let b = both_true (f n) (all f n) t in
    ⊎_elim (λ (e : k ≡ n). ap f e ∙ b.0) (λ (l : k < n). all-at f n b.1 k l) (eq-or-lt_of_le (le_of_suc-le-suc h))

pub all_true : (f : ℕ → Bool) (n : ℕ) → ((k : ℕ) → k < n → f k ≡ true) → all f n ≡ true
unfolding all
all_true f zero h = refl
all_true f (suc n) h = both_hold (f n) (all f n) (h n (omega arith)) (all_true f n (λ k b. h k (omega arith)))

-- the same for an equation of two functions
pub all-eq : (f g : ℕ → ℕ) (n : ℕ) → all (λ k. eqb (f k) (g k)) n ≡ true → (k : ℕ) → k < n → f k ≡ g k
all-eq f g n t k h = eqb-true (f k) (g k) (all-at (λ i. eqb (f i) (g i)) n t k h)

-- ---- the lowest

pub lowest_is : (f : ℕ → Bool) (n : ℕ) → any f n ≡ true → (lowest f n < n) × (f (lowest f n) ≡ true)
unfolding lowest any
lowest_is f zero h = clash false h refl
lowest_is f (suc n) h =
    ⊎_elim
    (λ (t : any f n ≡ true).
    let r = lowest_is f n t in
    let e = pick_true (any f n) (lowest f n) (pick (f n) n (suc n)) t in
    (omega (arith, e, r.0), ap f e ∙ r.1))
    (λ (t : any f n ≡ false).
    let u : f n ≡ true =
    ⊎_elim (λ (u : f n ≡ true). u) (λ (u : f n ≡ false). clash (pick (f n) true (any f n)) h (pick-false (f n) true (any f n) u ∙ t)) (either_way (f n)) in
    let e : pick (any f n) (lowest f n) (pick (f n) n (suc n)) ≡ n =
    pick-false (any f n) (lowest f n) (pick (f n) n (suc n)) t ∙ pick_true (f n) n (suc n) u in
    (omega (arith, e), ap f e ∙ u))
    (either_way (any f n))

pub lowest-none : (f : ℕ → Bool) (n : ℕ) → any f n ≡ false → lowest f n ≡ n
unfolding lowest any
lowest-none f zero h = refl
lowest-none f (suc n) h =
    ⊎_elim
    (λ (t : f n ≡ true). clash (pick (f n) true (any f n)) (pick_true (f n) true (any f n) t) h)
    (λ (t : f n ≡ false).
    let r : any f n ≡ false = sym (pick-false (f n) true (any f n) t) ∙ h in
    pick-false (any f n) (lowest f n) (pick (f n) n (suc n)) r ∙ pick-false (f n) n (suc n) t)
    (either_way (f n))

-- nothing below the lowest passes
pub lowest_first : (f : ℕ → Bool) (n i : ℕ) → i < lowest f n → i < n → f i ≡ false
unfolding lowest any
lowest_first f zero i h b = absurd (not-suc-le-zero b)
lowest_first f (suc n) i h b =
    ⊎_elim
    (λ (t : any f n ≡ true).
    let r = lowest_is f n t in
    let e = pick_true (any f n) (lowest f n) (pick (f n) n (suc n)) t in
    lowest_first f n i (omega (arith, e, h)) (omega (arith, e, h, r.0)))
    (λ (t : any f n ≡ false).
    ⊎_elim (λ (e : i ≡ n).
    ⊎_elim (λ (u : f n ≡ true).
    let q : pick (any f n) (lowest f n) (pick (f n) n (suc n)) ≡ n =
    pick-false (any f n) (lowest f n) (pick (f n) n (suc n)) t ∙ pick_true (f n) n (suc n) u in
    absurd (lt_irrefl n (omega (arith, q, h, e))))
    (λ (u : f n ≡ false). ap f e ∙ u) (either_way (f n)))
    (λ (l : i < n). any_none f n t i l) (eq-or-lt_of_le (le_of_suc-le-suc b)))
    (either_way (any f n))

-- where the answer is below n it passes
pub lowest-passes : (f : ℕ → Bool) (n : ℕ) → lowest f n < n → f (lowest f n) ≡ true
lowest-passes f n h =
    ⊎_elim (λ (t : any f n ≡ true). (lowest_is f n t).1)
    (λ (t : any f n ≡ false). absurd (lt_irrefl n (subst (λ (k : ℕ). k < n) (lowest-none f n t) h))) (either_way (any f n))

-- the number that passes while none below it does
pub lowest-at : (f : ℕ → Bool) (n i : ℕ) → i < n → f i ≡ true → ((k : ℕ) → k < i → f k ≡ false) → lowest f n ≡ i
lowest-at f n i h t none =
    let r = lowest_is f n (any-true f n i h t) in
    below_or_not (lowest f n) i (λ (l : lowest f n < i). clash (f (lowest f n)) r.1 (none (lowest f n) l))
    (λ (l : i ≤ lowest f n).
    ⊎_elim (λ (e : i ≡ lowest f n). sym e) (λ (g : i < lowest f n). clash (f i) t (lowest_first f n i g h)) (eq-or-lt_of_le l))

-- ---- tests that agree below n

pub all_same : (f g : ℕ → Bool) (n : ℕ) → ((i : ℕ) → i < n → f i ≡ g i) → all f n ≡ all g n
unfolding all
all_same f g zero h = refl
all_same f g (suc n) h = ap₂ both (h n (omega arith)) (all_same f g n (λ i b. h i (omega arith)))

pub lowest_same : (f g : ℕ → Bool) (n : ℕ) → ((i : ℕ) → i < n → f i ≡ g i) → lowest f n ≡ lowest g n
unfolding lowest
lowest_same f g zero h = refl
lowest_same f g (suc n) h =
    let below : (i : ℕ) → i < n → f i ≡ g i = λ i b. h i (omega arith) in
    (λ k. pick (any_same f g n below k) (lowest_same f g n below k) (pick (h n (omega arith) k) n (suc n)))
