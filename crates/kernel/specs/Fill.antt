-- Making the plan: the starts of the runs whose factor has digit k, in order.
use Rattle.std.specs.Prelude.{◌≡◌, refl, true, List, ℕ, ◌+◌, ◌*◌, ◌/◌, ◌%◌, ◌^◌, ◌<◌, ◌≤◌, length, get_or, set}
use Rattle.std.proofs.Common.{sym, ap, ap₂, ◌∙◌, subst, le_trans, le_refl, not-suc-le-zero, add-zero, add-one, arith, get_or-set_same, get_or-set_other}
use Rattle.std.proofs.Math.Path.{subst⁻¹}
use Rattle.field.specs.Byte.{◌⊕◌, scale}
use Rattle.lists.specs.Pick.{below_or_not}
use Rattle.lists.specs.Tabulate.{all_zero, zero-at}
use Rattle.field.specs.Xor.{bit_cases}
use Rattle.field.specs.Ring.{⊕-zero}
use Rattle.field.specs.Sum.{sum_to, sum_cong}

-- the `count` starts from k * 16 on are those of the first n runs whose factor has digit k: any sum over them says so
pub record Plane (starts coefs : List ℕ) (n k : ℕ) (list : List ℕ) (count : ℕ) : Type 0 where
  pub few : count ≤ n
  pub sum : (f : ℕ → ℕ) → sum_to count (λ q. f (get_or list (k * 16 + q) 0)) ≡ sum_to n (λ j. scale (get_or coefs j 0 / 2 ^ k % 2) (f (get_or starts j 0)))
  pub under : (b : ℕ) → ((j : ℕ) → j < n → get_or starts j 0 ≤ b) → (q : ℕ) → q < count → get_or list (k * 16 + q) 0 ≤ b

pub plane-start : (starts coefs : List ℕ) (k : ℕ) (list : List ℕ) → Plane starts coefs 0 k list 0
unfolding sum_to
plane-start starts coefs k list = record { few = le_refl 0; sum = λ f. refl; under = λ b h q i. absurd (not-suc-le-zero i) }

sum_more : (c : ℕ) (g : ℕ → ℕ) (d : ℕ) → d < 2 → sum_to (c + d) g ≡ sum_to c g ⊕ scale d (g c)
unfolding sum_to scale
sum_more c g =
    bit_cases (λ (d : ℕ). sum_to (c + d) g ≡ sum_to c g ⊕ scale d (g c))
    (ap (λ (z : ℕ). sum_to z g) (add-zero c) ∙ sym (⊕-zero (sum_to c g))) (ap (λ (z : ℕ). sum_to z g) (add-one c))

-- the next start is written at the end, and counts where its factor has the digit
pub plane-step : (starts coefs : List ℕ) (k : ℕ) (list : List ℕ) (j c d : ℕ) → k * 16 + c < length list → d < 2 → d ≡ get_or coefs j 0 / 2 ^ k % 2
    → Plane starts coefs j k list c → Plane starts coefs (j + 1) k (set list (k * 16 + c) (get_or starts j 0)) (c + d)
unfolding sum_to
plane-step starts coefs k list j c d h b e p =
    record {
      few = let w = p.few in omega arith;
      sum = λ f. sum_more c (λ q. f (get_or list' (k * 16 + q) 0)) d b
          ∙ ap₂ ◌⊕◌ (sum_cong c (λ q. f (get_or list' (k * 16 + q) 0)) (λ q. f (get_or list (k * 16 + q) 0)) (λ q i. ap f (old q i)) ∙ p.sum f)
          (ap₂ (λ (x y : ℕ). scale x (f y)) e new)
          ∙ ap (λ (z : ℕ). sum_to z (λ j. scale (get_or coefs j 0 / 2 ^ k % 2) (f (get_or starts j 0)))) (sym (add-one j));
      under = λ x g q i. below_or_not q c (λ (l : q < c). subst⁻¹ (λ (z : ℕ). z ≤ x) (old q l) (p.under x (λ j' m. g j' (omega arith)) q l))
          (λ (l : c ≤ q). let w : q ≡ c = omega arith in subst⁻¹ (λ (z : ℕ). z ≤ x) (ap (λ (z : ℕ). get_or list' (k * 16 + z) 0) w ∙ new) (g j (omega arith)));
    }
  where
    list' : List ℕ
    list' = set list (k * 16 + c) (get_or starts j 0)

    old : (q : ℕ) → q < c → get_or (set list (k * 16 + c) (get_or starts j 0)) (k * 16 + q) 0 ≡ get_or list (k * 16 + q) 0
    old q i = get_or-set_other list (k * 16 + c) (k * 16 + q) (get_or starts j 0) 0 (λ (r : k * 16 + q ≡ k * 16 + c). absurd (omega arith))

    new : get_or (set list (k * 16 + c) (get_or starts j 0)) (k * 16 + c) 0 ≡ get_or starts j 0
    new = get_or-set_same list (k * 16 + c) (get_or starts j 0) 0 h

-- a plane stays where its own places do
plane_same : (starts coefs : List ℕ) (n x : ℕ) (list list' : List ℕ) (count : ℕ)
    → ((q : ℕ) → q < count → get_or list' (x * 16 + q) 0 ≡ get_or list (x * 16 + q) 0) → Plane starts coefs n x list count → Plane starts coefs n x list' count
plane_same starts coefs n x list list' count same p =
    record {
      few = p.few;
      sum = λ f. sum_cong count (λ q. f (get_or list' (x * 16 + q) 0)) (λ q. f (get_or list (x * 16 + q) 0)) (λ q l. ap f (same q l)) ∙ p.sum f;
      under = λ b g q l. subst⁻¹ (λ (z : ℕ). z ≤ b) (same q l) (p.under b g q l);
    }

abbrev pub Planes : List ℕ → List ℕ → ℕ → List ℕ → List ℕ → ℕ → Type 0
Planes starts coefs n list counts k = (x : ℕ) → x < k → Plane starts coefs n x list (get_or counts x 0)

-- before the first source no list has any
pub planes_start : (starts coefs list counts : List ℕ) (k : ℕ) → all_zero counts ≡ true → Planes starts coefs 0 list counts k
planes_start starts coefs list counts k z x h = subst⁻¹ (λ (c : ℕ). Plane starts coefs 0 x list c) (zero-at counts z x) (plane-start starts coefs x list)

-- the lowest digit alone
pub planes_lowest : (starts coefs : List ℕ) (n : ℕ) (list counts : List ℕ) (c top : ℕ) → 0 < length counts → top < 2 → Plane starts coefs n 0 list c
    → Planes starts coefs n list (set counts 0 c) top
planes_lowest starts coefs n list counts c top h t p x i =
    let w : x ≡ 0 = omega arith in
    subst⁻¹ (λ (z : ℕ). Plane starts coefs n z list (get_or (set counts 0 c) z 0)) w (subst⁻¹ (λ (z : ℕ). Plane starts coefs n 0 list z) (get_or-set_same counts 0 c 0 h) p)

-- source j stands in the lists of the digits below k, and not yet in those of the others
pub record Spread (starts coefs : List ℕ) (j : ℕ) (list counts : List ℕ) (k : ℕ) : Type 0 where
  pub done : (x : ℕ) → x < k → Plane starts coefs (j + 1) x list (get_or counts x 0)
  pub left : (x : ℕ) → k ≤ x → x < 8 → Plane starts coefs j x list (get_or counts x 0)

pub spread_step : (starts coefs : List ℕ) (j : ℕ) (list counts : List ℕ) (k d : ℕ) → j < 16 → length list ≡ 128 → length counts ≡ 8 → k < 8 → d < 2
    → d ≡ get_or coefs j 0 / 2 ^ k % 2 → Spread starts coefs j list counts k
    → Spread starts coefs j (set list (k * 16 + get_or counts k 0) (get_or starts j 0)) (set counts k (get_or counts k 0 + d)) (k + 1)
spread_step starts coefs j list counts k d h n m i b e p =
    record {
      done = λ x l. below_or_not x k (λ (g : x < k). kept (j + 1) x (omega arith) (λ (r : x ≡ k). absurd (omega arith)) (p.done x g))
          (λ (g : k ≤ x). let w : x ≡ k = omega arith in
          subst⁻¹ (λ (z : ℕ). Plane starts coefs (j + 1) z list' (get_or counts' z 0)) w
          (subst⁻¹ (λ (z : ℕ). Plane starts coefs (j + 1) k list' z) (get_or-set_same counts k (get_or counts k 0 + d) 0 (omega arith))
          (plane-step starts coefs k list j (get_or counts k 0) d (omega (arith, here.few)) b e here)));
      left = λ x g l. kept j x (omega arith) (λ (r : x ≡ k). absurd (omega arith)) (p.left x (omega arith) l);
    }
  where
    here : Plane starts coefs j k list (get_or counts k 0)
    here = p.left k (le_refl k) i

    list' : List ℕ
    list' = set list (k * 16 + get_or counts k 0) (get_or starts j 0)

    counts' : List ℕ
    counts' = set counts k (get_or counts k 0 + d)

    -- a digit other than k
    kept : (m x : ℕ) → m ≤ 16 → (x ≡ k → ⊥) → Plane starts coefs m x list (get_or counts x 0) → Plane starts coefs m x list' (get_or counts' x 0)
    kept m x g ne t =
        subst⁻¹ (λ (z : ℕ). Plane starts coefs m x list' z) (get_or-set_other counts k x (get_or counts k 0 + d) 0 ne)
        (plane_same starts coefs m x list list' (get_or counts x 0)
        (λ q l. get_or-set_other list (k * 16 + get_or counts k 0) (x * 16 + q) (get_or starts j 0) 0
        (λ (r : x * 16 + q ≡ k * 16 + get_or counts k 0). ne (omega (arith, here.few, t.few)))) t)

pub most_step : (l : List ℕ) (j m m' : ℕ) → m ≤ m' → get_or l j 0 ≤ m' → ((x : ℕ) → x < j → get_or l x 0 ≤ m) → (x : ℕ) → x < j + 1 → get_or l x 0 ≤ m'
most_step l j m m' h i p x b =
    below_or_not x j (λ (g : x < j). le_trans (p x g) h) (λ (g : j ≤ x). let w : j ≡ x = omega arith in subst (λ (z : ℕ). get_or l z 0 ≤ m') w i)
