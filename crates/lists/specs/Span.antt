-- A list in which the places from a to e hold f, and the others what they held: what a loop of stores has done.
use Rattle.std.specs.Prelude.{◌≡◌, refl, List, ℕ, ◌+◌, ◌<◌, ◌≤◌, length, get_or, set}
use Rattle.std.proofs.Common.{sym, ap, ◌∙◌, subst, arith, length-set, get_or-set_same, get_or-set_other}
use Rattle.lists.specs.Pick.{below_or_not, equal_or_not}

pub record Span (f : ℕ → ℕ) (a e : ℕ) (old new : List ℕ) : Type 0 where
  pub len : length new ≡ length old
  pub done : (y : ℕ) → a ≤ y → y < e → get_or new y 0 ≡ f y
  pub before : (y : ℕ) → y < a → get_or new y 0 ≡ get_or old y 0
  pub after : (y : ℕ) → e ≤ y → get_or new y 0 ≡ get_or old y 0

pub span_none : (f : ℕ → ℕ) (a : ℕ) {e : ℕ} (l : List ℕ) → e ≡ a → Span f a e l l
span_none f a l q = record { len = refl; done = λ y h k. absurd (omega arith); before = λ y h. refl; after = λ y h. refl }

pub span_step : (f : ℕ → ℕ) (a x : ℕ) {e : ℕ} {old : List ℕ} (l : List ℕ) (v : ℕ) → a ≤ x → x < length l → e ≡ x + 1
    → Span f a x old l → v ≡ f x → Span f a e old (set l x v)
span_step f a x {e} l v h k q s w =
    record {
      len = length-set l x v ∙ s.len;
      done = λ y b c.
          equal_or_not y x (λ (g : y ≡ x). ap (λ (z : ℕ). get_or (set l x v) z 0) g ∙ get_or-set_same l x v 0 k ∙ w ∙ ap f (sym g))
          (λ (n : y ≡ x → ⊥). get_or-set_other l x y v 0 n ∙ s.done y b (omega arith));
      before = λ y b. get_or-set_other l x y v 0 (λ (r : y ≡ x). absurd (omega arith)) ∙ s.before y b;
      after = λ y b. get_or-set_other l x y v 0 (λ (r : y ≡ x). absurd (omega arith)) ∙ s.after y (omega arith);
    }

-- a span that grows at its beginning
pub span_back : (f : ℕ → ℕ) (x e : ℕ) {old : List ℕ} (l : List ℕ) (v : ℕ) → x < e → x < length l → Span f (x + 1) e old l → v ≡ f x → Span f x e old (set l x v)
span_back f x e l v h k s w =
    record {
      len = length-set l x v ∙ s.len;
      done = λ y b c.
          equal_or_not y x (λ (g : y ≡ x). ap (λ (z : ℕ). get_or (set l x v) z 0) g ∙ get_or-set_same l x v 0 k ∙ w ∙ ap f (sym g))
          (λ (n : y ≡ x → ⊥). get_or-set_other l x y v 0 n ∙ s.done y (omega arith) c);
      before = λ y b. get_or-set_other l x y v 0 (λ (r : y ≡ x). absurd (omega arith)) ∙ s.before y (omega arith);
      after = λ y b. get_or-set_other l x y v 0 (λ (r : y ≡ x). absurd (omega arith)) ∙ s.after y b;
    }

-- one span after another; the rule of the second may be told by the list between
pub span_join : (f g h : ℕ → ℕ) (a b e : ℕ) {l m n : List ℕ} → a ≤ b → b ≤ e → Span f a b l m → Span g b e m n
    → ((y : ℕ) → a ≤ y → y < b → f y ≡ h y) → ((y : ℕ) → b ≤ y → y < e → g y ≡ h y) → Span h a e l n
span_join f g h a b e p q s t u v =
    record {
      len = t.len ∙ s.len;
      done = λ y i j.
          below_or_not y b (λ (z : y < b). t.before y z ∙ s.done y i z ∙ u y i z) (λ (z : b ≤ y). t.done y z j ∙ v y z j);
      before = λ y i. t.before y (omega arith) ∙ s.before y i;
      after = λ y i. t.after y i ∙ s.after y (omega arith);
    }

pub span_cong : (f g : ℕ → ℕ) (a e : ℕ) {l m : List ℕ} → ((y : ℕ) → a ≤ y → y < e → f y ≡ g y) → Span f a e l m → Span g a e l m
span_cong f g a e u s = record { len = s.len; done = λ y i j. s.done y i j ∙ u y i j; before = s.before; after = s.after }

-- a span whose end is told otherwise
pub span_to : {f : ℕ → ℕ} {a : ℕ} (e e' : ℕ) {l m : List ℕ} → e ≡ e' → Span f a e l m → Span f a e' l m
span_to {f} {a} e e' {l} {m} q s = subst (λ (x : ℕ). Span f a x l m) q s
