-- Refusal number 1: "a layout number outside the bounds above".
use Rattle.std.specs.Prelude.{◌≡◌, refl, Bool, true, false, List, [], ◌∷◌, ℕ, ◌≤◌, leb}
use Rattle.std.proofs.Common.{sym, ap, ◌∙◌, ⊎_elim, arith, leb-true, le-leb}
use Rattle.lists.specs.Pick.{both, both_true, both_hold, not-both_ways, either_way}
use Rattle.lists.specs.Refusal.{◌or_else◌, refusal_by, refusal_none, refusal_lowest}
use Rattle.numbers.specs.Layouts.{Valid, width}
use Rattle.numbers.specs.declared.Layout.{Layout}

-- in each pair the first number is at most the second: as a test, and as a fact
abbrev all_le : List (ℕ × ℕ) → Bool
all_le [] = true
all_le (x ∷ xs) = both (leb x.0 x.1) (all_le xs)

abbrev AllLe : List (ℕ × ℕ) → Type 0
AllLe [] = Unit {0}
AllLe (x ∷ xs) = (x.0 ≤ x.1) × AllLe xs

-- the bounds of `Valid`, low before high
abbrev bounds : Layout → List (ℕ × ℕ)
bounds y =
    (1, y.n) ∷ (y.n, 16) ∷ (y.k, 3) ∷ (width y, y.p) ∷ (y.p, 64) ∷ (1, y.u) ∷ (y.u, 4096) ∷ (1, y.t) ∷ (y.t, 65536) ∷ (1, y.edition) ∷ (y.edition, 2) ∷ []

-- whether a layout is within its bounds
unfoldable pub validb : Layout → Bool
validb y = all_le (bounds y)

unfoldable pub layout_refusal : Layout → ℕ
layout_refusal y = refusal_by ((validb y, 1) ∷ [])

-- what a refused call that tells a layout tells
abbrev pub no_layout : Layout
no_layout = record { n = 0; k = 0; p = 0; u = 0; t = 0; cookie = 0; edition = 0 }

-- ---- the test says what the record says

all_le_of : (l : List (ℕ × ℕ)) → all_le l ≡ true → AllLe l
all_le_of [] e = tt
all_le_of (x ∷ xs) e = let h = both_true (leb x.0 x.1) (all_le xs) e in (leb-true x.0 x.1 h.0, all_le_of xs h.1)

all_le-true : (l : List (ℕ × ℕ)) → AllLe l → all_le l ≡ true
all_le-true [] h = refl
all_le-true (x ∷ xs) h = both_hold (leb x.0 x.1) (all_le xs) (le-leb x.0 x.1 h.0) (all_le-true xs h.1)

pub valid_of : (y : Layout) → validb y ≡ true → Valid y
unfolding validb
valid_of y e = let h = all_le_of (bounds y) e in omega arith

pub valid_true : (y : Layout) → Valid y → validb y ≡ true
unfolding validb
valid_true y v = all_le-true (bounds y) (omega arith)

pub valid_false : (y : Layout) → (Valid y → ⊥) → validb y ≡ false
valid_false y f = not-both_ways (validb y) (λ (e : validb y ≡ true). f (valid_of y e))

pub accepts : (y : Layout) → Valid y → layout_refusal y ≡ 0
unfolding layout_refusal
accepts y v = refusal_none ((validb y, 1) ∷ []) (valid_true y v, tt)

pub refuses : (y : Layout) → (Valid y → ⊥) → layout_refusal y ≡ 1
unfolding layout_refusal refusal_by ◌or_else◌
refuses y f = simp (valid_false y f)

pub accepted : (y : Layout) → layout_refusal y ≡ 0 → Valid y
unfolding layout_refusal
accepted y e = valid_of y ((refusal_lowest 1 ((validb y, 1) ∷ []) (omega arith) refl).none e).0

-- ---- a call's table begins with the layout's test

pub bad-layout : (y : Layout) (rest : List (Bool × ℕ)) {n : ℕ} → n ≡ layout_refusal y → (n ≡ 0 → ⊥) → n ≡ refusal_by ((validb y, 1) ∷ rest)
unfolding layout_refusal refusal_by ◌or_else◌
bad-layout y rest e f =
    ⊎_elim (λ (t : validb y ≡ true). absurd (f (e ∙ ap (λ (b : Bool). refusal_by ((b, 1) ∷ [])) t)))
    (λ (t : validb y ≡ false). e ∙ ap (λ (b : Bool). refusal_by ((b, 1) ∷ [])) t ∙ sym (ap (λ (b : Bool). refusal_by ((b, 1) ∷ rest)) t))
    (either_way (validb y))

pub good-layout : (y : Layout) {n : ℕ} → n ≡ layout_refusal y → n ≡ 0 → Valid y
good-layout y e z = accepted y (sym e ∙ z)
