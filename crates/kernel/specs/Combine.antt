-- The sum of multiples of runs, as a list, and that a plan gives it.
use Rattle.std.specs.Prelude.{◌≡◌, refl, List}
use Rattle.std.proofs.Common.{ap, ◌∙◌, arith}
use Prim.Native.Nat.{ℕ, ◌+◌, ◌-◌, ◌<◌, ◌≤◌}
use Rattle.std.proofs.Math.ListN.{get_or}
use Rattle.field.specs.Byte.{◌⊕◌, mul}
use Rattle.field.specs.Sum.{sum_to}
use Rattle.lists.specs.Pick.{below_or_not}
use Rattle.lists.specs.Span.{Span, span_join}
use Rattle.kernel.specs.Plan.{Reach, Filled}

-- the sum over j < n of coefs[j] times the byte at o of the run that starts at starts[j]
unfoldable pub sum_at : ℕ → List ℕ → List ℕ → List ℕ → ℕ → ℕ
sum_at n coefs starts src o = sum_to n (λ j. mul (get_or coefs j 0) (get_or src (get_or starts j 0 + o) 0))

-- a block `b` of a sum g, from o on, put to use in the bytes from at + o on: h says what becomes of a byte there
pub block_span : (h : ℕ → ℕ → ℕ) (g : ℕ → ℕ) (at o m e : ℕ) (b : List ℕ) {old new : List ℕ} → e ≡ at + o + m → Filled (λ i. g (o + i)) m b
    → Span (λ y. h y (get_or b (y - (at + o)) 0)) (at + o) (at + o + m) old new → Span (λ y. h y (g (y - at))) (at + o) e old new
block_span h g at o m e b {old} {new} q a s =
    record {
      len = s.len;
      done = λ y i k. s.done y i (omega arith)
          ∙ ap (h y) (a.at (y - (at + o)) (omega arith) ∙ ap g (let w : o + (y - (at + o)) ≡ y - at = omega arith in w));
      before = s.before;
      after = λ y i. s.after y (omega arith);
    }

-- a span of f, then one that begins in it or at its end and has f too
pub span_over : (f g : ℕ → ℕ) (a b c e : ℕ) {l m n : List ℕ} → a ≤ b → b ≤ c → c ≤ e → Span f a c l m → Span g b e m n
    → ((y : ℕ) → b ≤ y → y < e → g y ≡ f y) → Span f a e l n
span_over f g a b c e p q r s t v =
    record {
      len = t.len ∙ s.len;
      done = λ y i j.
          below_or_not y b (λ (z : y < b). t.before y z ∙ s.done y i (omega arith)) (λ (z : b ≤ y). t.done y z j ∙ v y z j);
      before = λ y i. t.before y (omega arith) ∙ s.before y i;
      after = λ y i. t.after y i ∙ s.after y (omega arith);
    }

-- places that hold f hold it still
pub span_again : {f : ℕ → ℕ} {a e : ℕ} {l m : List ℕ} → Span f a e l m → Span f a e m m
span_again s = record { len = refl; done = s.done; before = λ y i. refl; after = λ y i. refl }

pub reach_to : {list : List ℕ} {base count end end' len : ℕ} → Reach list base count end len → end' ≤ end → Reach list base count end' len
reach_to r h = record { few = r.few; inside = r.inside; ends = λ q i. let w = r.ends q i in omega arith }

-- bytes added after those that were added before
pub add_turn : (g : ℕ → ℕ) (at o e : ℕ) {l m n : List ℕ} → at + o ≤ e → Span (λ y. get_or l y 0 ⊕ g (y - at)) at (at + o) l m
    → Span (λ y. get_or m y 0 ⊕ g (y - at)) (at + o) e m n → Span (λ y. get_or l y 0 ⊕ g (y - at)) at e l n
add_turn g at o e {l} {m} {n} h s t =
    span_join (λ y. get_or l y 0 ⊕ g (y - at)) (λ y. get_or m y 0 ⊕ g (y - at)) (λ y. get_or l y 0 ⊕ g (y - at)) at (at + o) e
    (omega arith) h s t (λ y i j. refl) (λ y i j. ap (◌⊕ g (y - at)) (s.after y i))
