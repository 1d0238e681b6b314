-- Laws of a group's contents, and sums over what is missing and what is there.
use Rattle.std.specs.Prelude.{◌≡◌, refl, Bool, true, false, List, [], ◌∷◌, ◌++◌, ℕ, zero, suc, ◌+◌, ◌-◌, ◌<◌, ◌≤◌, ltb, length, get_or}
use Rattle.std.proofs.Common.{sym, ap, ap₂, ◌∙◌, le-add_right, not-suc-le-zero, le_of_suc-le-suc, lt-ltb, le-ltb}
use Rattle.std.proofs.Math.Nat.{add-sub_cancel_left}
use Rattle.lists.specs.Pick.{pick, pick_true, pick-false, below_or_not}
use Rattle.lists.specs.Those.{those}
use Rattle.field.specs.Byte.{◌⊕◌, mul}
use Rattle.field.specs.Ring.{⊕-assoc, ⊕-zero, zero_⊕}
use Rattle.field.proofs.RingLaws.{ring}
use Rattle.field.specs.Sum.{sum_to, sum3, sum_cong}
use Rattle.systems.specs.Coef.{coef}
use Rattle.parity.specs.Group.{parity_of, content}

-- ---- contents

pub content_data : (n : ℕ) (d : ℕ → ℕ) (j : ℕ) → j < n → content n d j ≡ d j
unfolding content
content_data n d j h = pick_true (ltb j n) (d j) (parity_of n d (j - n)) (lt-ltb j n h)

pub content_beyond : (n : ℕ) (d : ℕ → ℕ) (u : ℕ) → n ≤ u → content n d u ≡ parity_of n d (u - n)
unfolding content
content_beyond n d u h = pick-false (ltb u n) (d u) (parity_of n d (u - n)) (le-ltb u n h)

pub content_parity : (n : ℕ) (d : ℕ → ℕ) (i : ℕ) → content n d (n + i) ≡ parity_of n d i
content_parity n d i = content_beyond n d (n + i) (le-add_right n i) ∙ ap (parity_of n d) (add-sub_cancel_left n i)

pub parity_cong : (n : ℕ) (d e : ℕ → ℕ) → ((j : ℕ) → j < n → d j ≡ e j) → (i : ℕ) → parity_of n d i ≡ parity_of n e i
unfolding parity_of
parity_cong n d e q i = sum_cong n (λ j. mul (coef i j) (d j)) (λ j. mul (coef i j) (e j)) (λ j h. ap (mul (coef i j)) (q j h))

-- a content depends on the data below n alone
pub content_cong : (n : ℕ) (d e : ℕ → ℕ) → ((j : ℕ) → j < n → d j ≡ e j) → (u : ℕ) → content n d u ≡ content n e u
content_cong n d e q u =
    below_or_not u n (λ (l : u < n). content_data n d u l ∙ q u l ∙ sym (content_data n e u l))
    (λ (l : n ≤ u). content_beyond n d u l ∙ parity_cong n d e q (u - n) ∙ sym (content_beyond n e u l))

-- ---- sums over a list

unfoldable pub sum_over : (ℕ → ℕ) → List ℕ → ℕ
sum_over f [] = 0
sum_over f (x ∷ xs) = f x ⊕ sum_over f xs

sum_over_snoc : (f : ℕ → ℕ) (l : List ℕ) (n : ℕ) → sum_over f (l ++ n ∷ []) ≡ sum_over f l ⊕ f n
unfolding sum_over
sum_over_snoc f [] n = ⊕-zero (f n) ∙ sym (zero_⊕ (f n))
sum_over_snoc f (x ∷ l) n = ap (f x ⊕◌) (sum_over_snoc f l n) ∙ sym (⊕-assoc (f x) (sum_over f l) (f n))

regroup : (s t v : ℕ) → (s ⊕ t) ⊕ v ≡ (s ⊕ v) ⊕ t
regroup s t v = simp ring

split_step : (x : Bool) (f : ℕ → ℕ) (n : ℕ) (l : List ℕ) (s : ℕ)
    → (s ⊕ sum_over f l) ⊕ f n ≡ (s ⊕ pick x 0 (f n)) ⊕ sum_over f (pick x (l ++ n ∷ []) l)
split_step true f n l s = ⊕-assoc s (sum_over f l) (f n) ∙ ap₂ ◌⊕◌ (sym (⊕-zero s)) (sym (sum_over_snoc f l n))
split_step false f n l s = regroup s (sum_over f l) (f n)

-- a sum is that over what is there and that over what is missing
pub sum_split : (miss : ℕ → Bool) (f : ℕ → ℕ) (n : ℕ) → sum_to n f ≡ sum_to n (λ j. pick (miss j) 0 (f j)) ⊕ sum_over f (those miss n)
unfolding sum_to sum_over those
sum_split miss f zero = sym (⊕-zero 0)
sum_split miss f (suc n) =
    ap (◌⊕ f n) (sum_split miss f n) ∙ split_step (miss n) f n (those miss n) (sum_to n (λ j. pick (miss j) 0 (f j)))

-- a sum over at most three
pub short_sum : (f : ℕ → ℕ) (ks : List ℕ) → length ks ≤ 3 → sum_over f ks ≡ sum3 (λ c. pick (ltb c (length ks)) (f (get_or ks c 0)) 0)
unfolding sum_over
short_sum f [] h = sym (zero_⊕ (0 ⊕ 0) ∙ zero_⊕ 0)
short_sum f (a ∷ []) h = ap (f a ⊕◌) (sym (zero_⊕ 0))
short_sum f (a ∷ b ∷ []) h = refl
short_sum f (a ∷ b ∷ c ∷ []) h = ap (λ (x : ℕ). f a ⊕ (f b ⊕ x)) (⊕-zero (f c))
short_sum f (a ∷ b ∷ c ∷ d ∷ ks) h = absurd (not-suc-le-zero (le_of_suc-le-suc (le_of_suc-le-suc (le_of_suc-le-suc h))))
