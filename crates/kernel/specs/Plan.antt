-- Which sources each digit adds: for each of eight digits a list of starts and their number.
use Rattle.std.specs.Prelude.{◌≡◌, refl, true, false, List, ℕ, suc, ◌+◌, ◌-◌, ◌*◌, ◌<◌, ◌≤◌, length, get_or, ltb}
use Rattle.std.proofs.Common.{sym, ap, ap₂, ◌∙◌, arith, add_assoc, not-suc-le-zero, add-one, ltb-false}
use Rattle.field.specs.Byte.{◌⊕◌, double}
use Rattle.field.specs.Sum.{sum_to}
use Rattle.field.specs.Ring.{⊕-assoc, ⊕-zero}
use Rattle.lists.specs.Tabulate.{all_zero, zero-at}
use Rattle.field.specs.Laws.{double-zero}
use Rattle.kernel.specs.Horner.{poly}
use Rattle.lists.specs.Span.{Span}

-- the sum of the bytes at `place` of the `count` runs whose starts stand from `base` on
unfoldable pub picked : List ℕ → List ℕ → ℕ → ℕ → ℕ → ℕ
picked src list base count place = sum_to count (λ q. get_or src (get_or list (base + q) 0 + place) 0)

-- the runs lie in a list of `len`, up to `end`
pub record Reach (list : List ℕ) (base count end len : ℕ) : Type 0 where
  pub few : count ≤ 16
  pub inside : base + 16 ≤ 128
  pub ends : (q : ℕ) → q < count → get_or list (base + q) 0 + end ≤ len

-- the first m places of r hold f
pub record Filled (f : ℕ → ℕ) (m : ℕ) (r : List ℕ) : Type 0 where
  pub len : length r ≡ 192
  pub at : (i : ℕ) → i < m → get_or r i 0 ≡ f i

-- the byte at `place` of the sum that a plan names
unfoldable pub planned : List ℕ → List ℕ → List ℕ → ℕ → ℕ → ℕ
planned src list counts top place = poly top 0 (λ k. picked src list (k * 16) (get_or counts k 0) place)

-- ---- turns of the loops

-- no run added
pub plane-none : (src list : List ℕ) (base o m : ℕ) (l : List ℕ) → Span (λ i. get_or l i 0 ⊕ picked src list base 0 (o + i)) 0 m l l
unfolding picked sum_to
plane-none src list base o m l =
    record { len = refl; done = λ y h k. sym (⊕-zero (get_or l y 0)); before = λ y h. refl; after = λ y h. refl }

picked-step : (src list : List ℕ) (base q o s i : ℕ) → s ≡ get_or list (base + q) 0 + o
    → picked src list base q (o + i) ⊕ get_or src (s + i) 0 ≡ picked src list base (q + 1) (o + i)
unfolding picked sum_to
picked-step src list base q o s i e =
    ap (λ (z : ℕ). sum_to q (λ q. get_or src (get_or list (base + q) 0 + (o + i)) 0) ⊕ get_or src z 0) (ap (◌+ i) e ∙ add_assoc (get_or list (base + q) 0) o i)
    ∙ ap (λ (z : ℕ). sum_to z (λ q. get_or src (get_or list (base + q) 0 + (o + i)) 0)) (sym (add-one q))

-- one run more
pub plane_turn : (src list : List ℕ) (base q o m s : ℕ) {l₀ l l' : List ℕ} → s ≡ get_or list (base + q) 0 + o
    → Span (λ i. get_or l₀ i 0 ⊕ picked src list base q (o + i)) 0 m l₀ l → Span (λ i. get_or l i 0 ⊕ get_or src (s + i) 0) 0 m l l'
    → Span (λ i. get_or l₀ i 0 ⊕ picked src list base (q + 1) (o + i)) 0 m l₀ l'
plane_turn src list base q o m s {l₀} {l} {l'} e a b =
    record {
      len = b.len ∙ a.len;
      done = λ y h k. b.done y h k ∙ ap (◌⊕ get_or src (s + y) 0) (a.done y h k)
          ∙ ⊕-assoc (get_or l₀ y 0) (picked src list base q (o + y)) (get_or src (s + y) 0) ∙ ap (get_or l₀ y 0 ⊕◌) (picked-step src list base q o s y e);
      before = λ y h. absurd (not-suc-le-zero h);
      after = λ y h. b.after y h ∙ a.after y h;
    }

-- zeros are twice themselves
pub double-none : (m : ℕ) (l : List ℕ) → ((i : ℕ) → i < m → get_or l i 0 ≡ 0) → Span (λ i. double (get_or l i 0)) 0 m l l
double-none m l z =
    record { len = refl; done = λ y h k. z y k ∙ sym double-zero ∙ ap double (sym (z y k)); before = λ y h. refl; after = λ y h. refl }

-- before the first digit there are zeros
pub first_zero : (f : ℕ → ℕ → ℕ) (top k m : ℕ) (l : List ℕ) → k ≤ top → Filled (λ i. poly (top - k) k (f i)) m l → ltb k top ≡ false
    → (i : ℕ) → i < m → get_or l i 0 ≡ 0
unfolding poly
first_zero f top k m l h a e i j =
    let g : top ≤ k = ltb-false k top e in
    a.at i j ∙ ap (λ (z : ℕ). poly z k (f i)) (let w : top - k ≡ 0 = omega arith in w)

-- a digit more
pub digit_turn : (f : ℕ → ℕ → ℕ) (top k k' m : ℕ) {l l' l'' : List ℕ} → k ≡ k' + 1 → k ≤ top → Filled (λ i. poly (top - k) k (f i)) m l
    → Span (λ i. double (get_or l i 0)) 0 m l l' → Span (λ i. get_or l' i 0 ⊕ f i k') 0 m l' l'' → Filled (λ i. poly (top - k') k' (f i)) m l''
unfolding poly
digit_turn f top k k' m {l} {l'} {l''} e h a b d =
    record {
      len = d.len ∙ b.len ∙ a.len;
      at = λ i j. d.done i (omega arith) j ∙ ap (◌⊕ f i k') (b.done i (omega arith) j ∙ ap double (a.at i j ∙ ap (λ (z : ℕ). poly (top - k) z (f i)) (e ∙ add-one k')))
          ∙ ap (λ (z : ℕ). poly z k' (f i)) (let w : suc (top - k) ≡ top - k' = omega arith in w);
    }

pub digits_none : (f : ℕ → ℕ → ℕ) (top m : ℕ) (l : List ℕ) → length l ≡ 192 → all_zero l ≡ true → Filled (λ i. poly (top - top) top (f i)) m l
unfolding poly
digits_none f top m l n t =
    record { len = n; at = λ i j. zero-at l t i ∙ ap (λ (z : ℕ). poly z top (f i)) (let w : 0 ≡ top - top = omega arith in w) }

pub digits_all : (f : ℕ → ℕ → ℕ) (top k m : ℕ) (l : List ℕ) → k ≡ 0 → Filled (λ i. poly (top - k) k (f i)) m l → Filled (λ i. poly top 0 (f i)) m l
digits_all f top k m l e a =
    record { len = a.len; at = λ i j. a.at i j ∙ ap₂ (λ (x y : ℕ). poly x y (f i)) (let w : top - k ≡ top = omega arith in w) e }
