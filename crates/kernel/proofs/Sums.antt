-- That a plan gives the sum of multiples of runs, and that the sum reads nothing of what it writes.
use Rattle.std.specs.Prelude.{◌≡◌, refl, List}
use Rattle.std.proofs.Common.{sym, ap, ap₂, ◌∙◌, subst, le_trans, le_refl, ⊎_elim, arith, lit≤}
use Prim.Native.Nat.{ℕ, zero, suc, ◌+◌, ◌-◌, ◌*◌, ◌%◌, ◌^◌, ◌<◌, ◌≤◌}
use Rattle.std.proofs.Math.Nat.{le-suc, div-eq_of_lt, pow-le-pow_right}
use Rattle.field.specs.Ring.{⊕-zero}
use Rattle.std.proofs.Math.ListN.{length, get_or}
use Rattle.field.specs.Byte.{◌⊕◌, scale, mul}
use Rattle.field.proofs.Laws.{zero-mul}
use Rattle.field.specs.Sum.{sum_to, sum_cong, sum-zero}
use Rattle.lists.specs.Span.{Span, span_cong}
use Rattle.kernel.specs.Horner.{poly_cong, plane, horner}
use Rattle.kernel.specs.Plan.{picked, planned, Reach}
use Rattle.kernel.specs.Fill.{Planes}
use Rattle.kernel.specs.Combine.{sum_at, span_over, span_again}
use Rattle.kernel.specs.Schedule.{Reaches, Schedules, scheduled}
use Rattle.kernel.specs.declared.schedule.Schedule.{Schedule}
use Rattle.kernel.specs.InPlace.{Apart}

-- where every factor is 0 nothing is added
pub add_none : (n : ℕ) (coefs starts src out : List ℕ) (top at e : ℕ) → top ≡ 0 → ((j : ℕ) → j < n → get_or coefs j 0 < 2 ^ top)
    → Span (λ y. get_or out y 0 ⊕ sum_at n coefs starts src (y - at)) at e out out
unfolding sum_at
add_none n coefs starts src out top at e z b =
    record { len = refl; done = λ y i k. sym (ap (get_or out y 0 ⊕◌) (none (y - at)) ∙ ⊕-zero (get_or out y 0)); before = λ y i. refl; after = λ y i. refl }
  where
    no_factor : (j : ℕ) → j < n → get_or coefs j 0 ≡ 0
    no_factor j h = let w : get_or coefs j 0 < 1 = subst (λ (t : ℕ). get_or coefs j 0 < 2 ^ t) z (b j h) in omega arith

    none : (o : ℕ) → sum_at n coefs starts src o ≡ 0
    none o =
        sum_cong n (λ j. mul (get_or coefs j 0) (get_or src (get_or starts j 0 + o) 0)) (λ j. 0)
        (λ j h. ap (λ (c : ℕ). mul c (get_or src (get_or starts j 0 + o) 0)) (no_factor j h) ∙ zero-mul (get_or src (get_or starts j 0 + o) 0))
        ∙ sum-zero n (λ j. 0) (λ j. refl)

none_over : (n top k : ℕ) (c s : ℕ → ℕ) → ((j : ℕ) → j < n → c j < 2 ^ top) → top ≤ k → plane n c s k ≡ 0
unfolding plane sum_to scale
none_over zero top k c s b h = refl
none_over (suc n) top k c s b h =
    ap₂ ◌⊕◌ (none_over n top k c s (λ j l. b j (le_trans l (le-suc n))) h)
    (ap (λ (d : ℕ). scale (d % 2) (s n)) (div-eq_of_lt (le_trans (b n (le_refl (suc n))) (pow-le-pow_right (lit≤ tt) h))))
    ∙ ⊕-zero 0

module _ (n : ℕ) (coefs starts src list counts : List ℕ) (top : ℕ) (ps : Planes starts coefs n list counts top) where
  pub planned-sum : (place : ℕ) → top ≤ 8 → ((j : ℕ) → j < n → get_or coefs j 0 < 2 ^ top)
      → ((x : ℕ) → get_or src x 0 < 256) → planned src list counts top place ≡ sum_at n coefs starts src place
  unfolding planned sum_at picked plane
  planned-sum place h z b =
      poly_cong top 0 (λ k. picked src list (k * 16) (get_or counts k 0) place) (plane n c s) (λ k i j. (ps k (omega arith)).sum f)
      ∙ horner n top c s (λ j i. b (get_or starts j 0 + place)) h (λ k i j. none_over n top k c s z i)
    where
      c : ℕ → ℕ
      c j = get_or coefs j 0

      s : ℕ → ℕ
      s j = get_or src (get_or starts j 0 + place) 0

      f : ℕ → ℕ
      f x = get_or src (x + place) 0

  pub reach : (end len : ℕ) → n ≤ 16 → top ≤ 8 → ((j : ℕ) → j < n → get_or starts j 0 + end ≤ len) → (k : ℕ) → k < top
      → Reach list (k * 16) (get_or counts k 0) end len
  reach end len h t g k i =
      let p = ps k i in
      record {
        few = le_trans p.few h;
        inside = omega arith;
        ends = λ q j. let u : get_or list (k * 16 + q) 0 ≤ len - end = p.under (len - end) (λ j m. let y = g j m in omega arith) q j in let v = p.few in let y = g 0 (omega arith) in omega arith;
      }

module _ (n : ℕ) (coefs starts : List ℕ) (s : Schedule) (are : Schedules starts coefs n s) where
  pub scheduled-sum : (src : List ℕ) (place : ℕ) → ((x : ℕ) → get_or src x 0 < 256) → scheduled src s place ≡ sum_at n coefs starts src place
  scheduled-sum src place b = planned-sum n coefs starts src s.list.now s.counts s.top are.planes place s.top_max are.factors b

  pub reaches : (src : List ℕ) (end : ℕ) → n ≤ 16 → ((j : ℕ) → j < n → get_or starts j 0 + end ≤ length src) → Reaches s end (length src)
  reaches src end h g = record { each = reach n coefs starts src s.list.now s.counts s.top are.planes end (length src) h s.top_max g }

module _ (n : ℕ) (coefs starts : List ℕ) (at len size : ℕ) (apart : (j : ℕ) → j < n → Apart (get_or starts j 0) at len size) where
  -- the sum reads nothing that lies in the bytes written
  pub sum_same : (f : ℕ → ℕ) (o : ℕ) {old mid : List ℕ} → o ≤ len → Span f at (at + o) old mid → (x : ℕ) → x < len
      → sum_at n coefs starts mid x ≡ sum_at n coefs starts old x
  unfolding sum_at
  sum_same f o {old} {mid} h s x i =
      sum_cong n (λ j. mul (get_or coefs j 0) (get_or mid (get_or starts j 0 + x) 0)) (λ j. mul (get_or coefs j 0) (get_or old (get_or starts j 0 + x) 0))
      (λ j k. ap (mul (get_or coefs j 0)) (⊎_elim (λ (a : get_or starts j 0 + len ≤ at). s.before (get_or starts j 0 + x) (omega arith))
      (λ (a : at + len ≤ get_or starts j 0). s.after (get_or starts j 0 + x) (omega arith)) (apart j k).aside))

  -- bytes put after those that were put before, or over some of them; g is the sum over what the list is by then
  pub put_turn : (g : ℕ → ℕ) (b o e : ℕ) {old mid new : List ℕ} → b ≤ o → at + o ≤ e → e ≤ at + len → Span (λ y. sum_at n coefs starts old (y - at)) at (at + o) old mid
      → ((x : ℕ) → g x ≡ sum_at n coefs starts mid x) → Span (λ y. g (y - at)) (at + b) e mid new
      → Span (λ y. sum_at n coefs starts old (y - at)) at e old new
  put_turn g b o e {old} {mid} {new} q h k s a t =
      span_over (λ y. sum_at n coefs starts old (y - at)) (λ y. g (y - at)) at (at + b) (at + o) e (omega arith) (omega arith) h s t
      (λ y i j. a (y - at) ∙ sum_same (λ y. sum_at n coefs starts old (y - at)) o (omega arith) s (y - at) (omega arith))

  -- what was put before a second loop, told by the list that it finds
  pub put_again : (o : ℕ) {old mid : List ℕ} → o ≤ len → Span (λ y. sum_at n coefs starts old (y - at)) at (at + o) old mid
      → Span (λ y. sum_at n coefs starts mid (y - at)) at (at + o) mid mid
  put_again o {old} {mid} h s =
      span_cong (λ y. sum_at n coefs starts old (y - at)) (λ y. sum_at n coefs starts mid (y - at)) at (at + o)
      (λ y i j. sym (sum_same (λ y. sum_at n coefs starts old (y - at)) o h s (y - at) (omega arith))) (span_again s)

  -- both loops
  pub put_both : (o : ℕ) {old mid new : List ℕ} → o ≤ len → Span (λ y. sum_at n coefs starts old (y - at)) at (at + o) old mid
      → Span (λ y. sum_at n coefs starts mid (y - at)) at (at + len) mid new → Span (λ y. sum_at n coefs starts old (y - at)) at (at + len) old new
  put_both o {old} {mid} {new} h s t =
      span_over (λ y. sum_at n coefs starts old (y - at)) (λ y. sum_at n coefs starts mid (y - at)) at at (at + o) (at + len)
      (omega arith) (omega arith) (omega arith) s t (λ y i j. sum_same (λ y. sum_at n coefs starts old (y - at)) o h s (y - at) (omega arith))
