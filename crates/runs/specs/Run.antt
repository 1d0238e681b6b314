-- A run of a list: len elements from `to` on; and many runs, one laid over another.
use Rattle.std.specs.Prelude.{◌≡◌, Bool, true, false, List}
use Rattle.std.proofs.Math.Path.{refl, ap, subst}
use Rattle.std.proofs.Common.{sym, ◌∙◌, not-suc-le-zero, le_of_suc-le-suc, eq-or-lt_of_le, le_refl, add-one}
use Rattle.std.proofs.Math.Logic.{⊎_elim}
use Prim.Native.Nat.{ℕ, zero, suc, ◌+◌, ◌-◌, ◌<◌, ◌≤◌}
use Rattle.std.proofs.Math.Nat.{lt_irrefl}
use native.Mathlib.Omega.{arith}
use Rattle.std.proofs.Math.ListN.{length, get_or}
use Rattle.lists.specs.Pick.{pick, pick_true, pick-false, clash, below_or_not}
use Rattle.lists.specs.Part.{within, within_in, within_cases}
use Rattle.lists.specs.Span.{Span}
use Rattle.lists.specs.Tabulate.{tabulate, length-tabulate, get_d_tabulate, tabulated}

-- the list with f 0, f 1, .. in its run
unfoldable pub run_set : ℕ → ℕ → (ℕ → ℕ) → List ℕ → List ℕ
run_set to len f l = tabulate (length l) (λ x. pick (within to len x) (f (x - to)) (get_or l x 0))

pub length-run_set : (to len : ℕ) (f : ℕ → ℕ) (l : List ℕ) → length (run_set to len f l) ≡ length l
unfolding run_set
length-run_set to len f l = length-tabulate (length l) _

pub run_set-at : (to len : ℕ) (f : ℕ → ℕ) (l : List ℕ) (x : ℕ) → x < length l → get_or (run_set to len f l) x 0 ≡ pick (within to len x) (f (x - to)) (get_or l x 0)
unfolding run_set
run_set-at to len f l x h = get_d_tabulate (length l) _ x 0 h

pub run_set_in : (to len : ℕ) (f : ℕ → ℕ) (l : List ℕ) (o : ℕ) → o < len → to + len ≤ length l → get_or (run_set to len f l) (to + o) 0 ≡ f o
run_set_in to len f l o h b =
    run_set-at to len f l (to + o) (omega arith)
    ∙ pick_true (within to len (to + o)) _ _ (within_in to len (to + o) (omega arith) (omega arith))
    ∙ ap f (let q : to + o - to ≡ o = omega arith in q)

pub run_set_out : (to len : ℕ) (f : ℕ → ℕ) (l : List ℕ) (x : ℕ) → x < length l → within to len x ≡ false → get_or (run_set to len f l) x 0 ≡ get_or l x 0
run_set_out to len f l x h w = run_set-at to len f l x h ∙ pick-false (within to len x) _ _ w

-- a list that has f in the run and is l elsewhere
pub run_set_is : (to len : ℕ) (f : ℕ → ℕ) (l m : List ℕ) → length m ≡ length l → to + len ≤ length l
    → ((o : ℕ) → o < len → get_or m (to + o) 0 ≡ f o)
    → ((x : ℕ) → x < length l → within to len x ≡ false → get_or m x 0 ≡ get_or l x 0)
    → m ≡ run_set to len f l
unfolding run_set
run_set_is to len f l m e b hin hout =
    tabulated (length l) _ m 0 e (λ x h.
    within_cases to len x
    (λ p q.
    let r : to + (x - to) ≡ x = omega arith in
    subst (λ (y : ℕ). get_or m y 0 ≡ f (x - to)) r (hin (x - to) (omega arith))
    ∙ sym (pick_true (within to len x) _ _ (within_in to len x p q)))
    (λ w. hout x h w ∙ sym (pick-false (within to len x) _ _ w)))

pub run_set_ext : (to len : ℕ) (f g : ℕ → ℕ) (l : List ℕ) → to + len ≤ length l → ((o : ℕ) → o < len → f o ≡ g o) → run_set to len f l ≡ run_set to len g l
run_set_ext to len f g l b h =
    run_set_is to len g l (run_set to len f l) (length-run_set to len f l) b
    (λ o k. run_set_in to len f l o k b ∙ h o k) (λ x k w. run_set_out to len f l x k w)

-- the second of two writers of one run is the one that is seen
pub run_set_twice : (to len : ℕ) (f g h : ℕ → ℕ) (l : List ℕ) → to + len ≤ length l → ((o : ℕ) → o < len → g o ≡ h o)
    → run_set to len g (run_set to len f l) ≡ run_set to len h l
run_set_twice to len f g h l b e =
    run_set_is to len h l (run_set to len g (run_set to len f l)) (length-run_set to len g (run_set to len f l) ∙ length-run_set to len f l) b
    (λ o k. run_set_in to len g (run_set to len f l) o k (omega (arith, length-run_set to len f l)) ∙ e o k)
    (λ x k w. run_set_out to len g (run_set to len f l) x (omega (arith, length-run_set to len f l)) w ∙ run_set_out to len f l x k w)

-- before a loop that fills a run
pub run_set-none : (to : ℕ) (f : ℕ → ℕ) (l : List ℕ) → l ≡ run_set to 0 f l
unfolding run_set
run_set-none to f l =
    tabulated (length l) _ l 0 refl (λ x h.
    within_cases to 0 x (λ p q. absurd (let z : x < x = omega arith in lt_irrefl x z))
    (λ w. sym (pick-false (within to 0 x) _ _ w)))

-- a loop that fills a run piece by piece: m elements after the first i
pub run_set_more : (to i m n : ℕ) (f g : ℕ → ℕ) (l₀ l l' : List ℕ) → n ≡ i + m → to + n ≤ length l₀ → ((o : ℕ) → o < m → g o ≡ f (i + o))
    → l ≡ run_set to i f l₀ → l' ≡ run_set (to + i) m g l → l' ≡ run_set to n f l₀
run_set_more to i m n f g l₀ l l' q b h e e' =
    run_set_is to n f l₀ l' (ap length e' ∙ length-run_set (to + i) m g l ∙ len) b
    (λ o k. ap (λ (x : List ℕ). get_or x (to + o) 0) e' ∙ below_or_not o i (λ (a : o < i).
    run_set_out (to + i) m g l (to + o) (omega (arith, len)) (outside_before o a) ∙ ap (λ (x : List ℕ). get_or x (to + o) 0) e ∙ run_set_in to i f l₀ o a (omega arith))
    (λ (a : i ≤ o).
    let w : to + i + (o - i) ≡ to + o = omega arith in
    let v : i + (o - i) ≡ o = omega arith in
    ap (λ (y : ℕ). get_or (run_set (to + i) m g l) y 0) (sym w) ∙ run_set_in (to + i) m g l (o - i) (omega arith) (omega (arith, len)) ∙ h (o - i) (omega arith) ∙ ap f v))
    (λ x k w.
    ap (λ (y : List ℕ). get_or y x 0) e'
    ∙ run_set_out (to + i) m g l x (omega (arith, len)) (within_cases (to + i) m x (λ p r. clash (within to n x) (within_in to n x (omega arith) (omega arith)) w) (λ u. u))
    ∙ ap (λ (y : List ℕ). get_or y x 0) e
    ∙ run_set_out to i f l₀ x k (within_cases to i x (λ p r. clash (within to n x) (within_in to n x p (omega arith)) w) (λ u. u)))
  where
    len : length l ≡ length l₀
    len = ap length e ∙ length-run_set to i f l₀

    outside_before : (o : ℕ) → o < i → within (to + i) m (to + o) ≡ false
    outside_before o a = within_cases (to + i) m (to + o) (λ p r. absurd (let z : o < o = omega arith in lt_irrefl o z)) (λ u. u)

-- the same, told byte by byte
pub run_set_span : (to len : ℕ) (f g : ℕ → ℕ) (l m : List ℕ) → to + len ≤ length l → Span f to (to + len) l m → ((o : ℕ) → o < len → f (to + o) ≡ g o)
    → m ≡ run_set to len g l
run_set_span to len f g l m b s e =
    run_set_is to len g l m s.len b (λ o h. s.done (to + o) (omega arith) (omega arith) ∙ e o h)
    (λ x h w.
    below_or_not x to (λ (k : x < to). s.before x k)
    (λ (k : to ≤ x). below_or_not x (to + len) (λ (u : x < to + len). clash (within to len x) (within_in to len x k u) w) (λ (u : to + len ≤ x). s.after x u)))

-- runs at many places: at each i below n that is on, v i in the run from `at i`; a later one is seen over an earlier one
module _ (on : ℕ → Bool) (at : ℕ → ℕ) (len : ℕ) (v : ℕ → ℕ → ℕ) where
  unfoldable pub paint : ℕ → List ℕ → List ℕ
  paint zero l = l
  paint (suc n) l = pick (on n) (run_set (at n) len (v n) (paint n l)) (paint n l)

  pub paint-one : (n : ℕ) (l : List ℕ) → paint (n + 1) l ≡ pick (on n) (run_set (at n) len (v n) (paint n l)) (paint n l)
  unfolding paint
  paint-one n l = ap (λ (m : ℕ). paint m l) (add-one n)

  one-length : (t : Bool) (l : List ℕ) (n : ℕ) → length (pick t (run_set (at n) len (v n) l) l) ≡ length l
  one-length true l n = length-run_set (at n) len (v n) l
  one-length false l n = refl

  pub paint-length : (n : ℕ) (l : List ℕ) → length (paint n l) ≡ length l
  unfolding paint
  paint-length zero l = refl
  paint-length (suc n) l = one-length (on n) (paint n l) n ∙ paint-length n l

  one-miss : (t : Bool) (l : List ℕ) (n x : ℕ) → x < length l → (t ≡ true → within (at n) len x ≡ false) → get_or (pick t (run_set (at n) len (v n) l) l) x 0 ≡ get_or l x 0
  one-miss true l n x b h = run_set_out (at n) len (v n) l x b (h refl)
  one-miss false l n x b h = refl

  -- a place that lies in no run is as it was
  pub paint-miss : (n : ℕ) (l : List ℕ) (x : ℕ) → x < length l → ((i : ℕ) → i < n → on i ≡ true → within (at i) len x ≡ false) → get_or (paint n l) x 0 ≡ get_or l x 0
  unfolding paint
  paint-miss zero l x b h = refl
  paint-miss (suc n) l x b h =
      one-miss (on n) (paint n l) n x (omega (arith, paint-length n l)) (h n (le_refl (suc n)))
      ∙ paint-miss n l x b (λ i k. h i (omega arith))

  one_hit : (t : Bool) (l : List ℕ) (n o : ℕ) → t ≡ true → o < len → at n + len ≤ length l → get_or (pick t (run_set (at n) len (v n) l) l) (at n + o) 0 ≡ v n o
  one_hit t l n o e h b = ap (λ (s : Bool). get_or (pick s (run_set (at n) len (v n) l) l) (at n + o) 0) e ∙ run_set_in (at n) len (v n) l o h b

  -- a place that lies in one run, and in no other, has that run's value
  pub paint-hit : (n : ℕ) (l : List ℕ) (i o : ℕ) → i < n → on i ≡ true → o < len → at i + len ≤ length l
      → ((j : ℕ) → j < n → on j ≡ true → (j ≡ i → ⊥) → within (at j) len (at i + o) ≡ false)
      → get_or (paint n l) (at i + o) 0 ≡ v i o
  unfolding paint
  paint-hit zero l i o b e h r u = absurd (not-suc-le-zero b)
  paint-hit (suc n) l i o b e h r u =
      ⊎_elim
      (λ (q : i ≡ n). subst (λ (k : ℕ). get_or (pick (on n) (run_set (at n) len (v n) (paint n l)) (paint n l)) (at k + o) 0 ≡ v k o) (sym q)
      (one_hit (on n) (paint n l) n o (subst (λ (k : ℕ). on k ≡ true) q e) h
      (subst (λ (m : ℕ). at n + len ≤ m) (sym (paint-length n l)) (subst (λ (k : ℕ). at k + len ≤ length l) q r))))
      (λ (lt : i < n). one-miss (on n) (paint n l) n (at i + o) (omega (arith, paint-length n l))
      (λ t. u n (le_refl (suc n)) t (λ (q : n ≡ i). lt_irrefl n (subst (λ (k : ℕ). k < n) (sym q) lt)))
      ∙ paint-hit n l i o lt e h r (λ j c. u j (omega arith)))
      (eq-or-lt_of_le (le_of_suc-le-suc b))

  pub paint_turn : (n : ℕ) (l₀ l l' : List ℕ) → l ≡ paint n l₀ → l' ≡ pick (on n) (run_set (at n) len (v n) l) l → l' ≡ paint (n + 1) l₀
  paint_turn n l₀ l l' e e' = cc (paint-one n l₀)

  pub paint-end : (i n : ℕ) (l₀ l : List ℕ) → l ≡ paint i l₀ → i ≡ n → l ≡ paint n l₀
  paint-end i n l₀ l e h = cc

pub one_ext : (t : Bool) (to len : ℕ) (f g : ℕ → ℕ) (l m : List ℕ) → l ≡ m → (t ≡ true → to + len ≤ length m) → (t ≡ true → (o : ℕ) → o < len → f o ≡ g o)
    → pick t (run_set to len f l) l ≡ pick t (run_set to len g m) m
one_ext true to len f g l m e b h = ap (run_set to len f) e ∙ run_set_ext to len f g m (b refl) (h refl)
one_ext false to len f g l m e b h = e

-- runs whose values agree
pub paint_ext_on : (on : ℕ → Bool) (at : ℕ → ℕ) (len : ℕ) (v w : ℕ → ℕ → ℕ) (n : ℕ) (l : List ℕ) → ((i : ℕ) → i < n → on i ≡ true → at i + len ≤ length l)
    → ((i : ℕ) → i < n → on i ≡ true → (o : ℕ) → o < len → v i o ≡ w i o) → paint on at len v n l ≡ paint on at len w n l
unfolding paint
paint_ext_on on at len v w zero l b h = refl
paint_ext_on on at len v w (suc n) l b h =
    one_ext (on n) (at n) len (v n) (w n) (paint on at len v n l) (paint on at len w n l)
    (paint_ext_on on at len v w n l (λ i k. b i (omega arith)) (λ i k. h i (omega arith)))
    (λ t. subst (λ (m : ℕ). at n + len ≤ m) (sym (paint-length on at len w n l)) (b n (le_refl (suc n)) t)) (h n (le_refl (suc n)))

pub paint_ext : (on : ℕ → Bool) (at : ℕ → ℕ) (len : ℕ) (v w : ℕ → ℕ → ℕ) (n : ℕ) (l : List ℕ) → ((i : ℕ) → i < n → at i + len ≤ length l)
    → ((i : ℕ) → i < n → on i ≡ true → (o : ℕ) → o < len → v i o ≡ w i o) → paint on at len v n l ≡ paint on at len w n l
paint_ext on at len v w n l b h = paint_ext_on on at len v w n l (λ i k t. b i k) h

-- runs laid after those of the first n, told by numbers of their own
one-after : (t t₂ : Bool) (to to₂ len : ℕ) (f f₂ : ℕ → ℕ) (l l₂ : List ℕ) → t₂ ≡ t → to₂ ≡ to → l₂ ≡ l → (t ≡ true → to + len ≤ length l)
    → (t ≡ true → (o : ℕ) → o < len → f₂ o ≡ f o) → pick t₂ (run_set to₂ len f₂ l₂) l₂ ≡ pick t (run_set to len f l) l
one-after true t₂ to to₂ len f f₂ l l₂ et ea el b h =
    pick_true t₂ _ _ et ∙ ap (λ (x : ℕ). run_set x len f₂ l₂) ea ∙ ap (run_set to len f₂) el ∙ run_set_ext to len f₂ f l (b refl) (h refl)
one-after false t₂ to to₂ len f f₂ l l₂ et ea el b h = pick-false t₂ _ _ et ∙ el

module _ (on on₂ : ℕ → Bool) (at at₂ : ℕ → ℕ) (len : ℕ) (v v₂ : ℕ → ℕ → ℕ) (n : ℕ) (l : List ℕ) where
  pub paint-after : (k : ℕ) → ((i : ℕ) → i < k → on₂ i ≡ on (n + i)) → ((i : ℕ) → i < k → at₂ i ≡ at (n + i))
      → ((i : ℕ) → i < k → on (n + i) ≡ true → at (n + i) + len ≤ length l) → ((i : ℕ) → i < k → on (n + i) ≡ true → (o : ℕ) → o < len → v₂ i o ≡ v (n + i) o)
      → paint on₂ at₂ len v₂ k (paint on at len v n l) ≡ paint on at len v (n + k) l
  unfolding paint
  paint-after zero eo ea b h = ap (λ (m : ℕ). paint on at len v m l) (let z : n ≡ n + 0 = omega arith in z)
  paint-after (suc k) eo ea b h =
      one-after (on (n + k)) (on₂ k) (at (n + k)) (at₂ k) len (v (n + k)) (v₂ k) (paint on at len v (n + k) l) _ (eo k (le_refl (suc k))) (ea k (le_refl (suc k)))
      (paint-after k (λ i m. eo i (omega arith)) (λ i m. ea i (omega arith)) (λ i m. b i (omega arith)) (λ i m. h i (omega arith)))
      (λ t. subst (λ (m : ℕ). at (n + k) + len ≤ m) (sym (paint-length on at len v (n + k) l)) (b k (le_refl (suc k)) t)) (h k (le_refl (suc k)))
      ∙ ap (λ (m : ℕ). paint on at len v m l) (let z : suc (n + k) ≡ n + suc k = omega arith in z)

-- runs told by other tests, places and values that agree
pub paint_same : (on on₂ : ℕ → Bool) (at at₂ : ℕ → ℕ) (len : ℕ) (v v₂ : ℕ → ℕ → ℕ) (l : List ℕ) (n : ℕ) → ((i : ℕ) → i < n → on₂ i ≡ on i)
    → ((i : ℕ) → i < n → at₂ i ≡ at i) → ((i : ℕ) → i < n → on i ≡ true → at i + len ≤ length l)
    → ((i : ℕ) → i < n → on i ≡ true → (o : ℕ) → o < len → v₂ i o ≡ v i o) → paint on₂ at₂ len v₂ n l ≡ paint on at len v n l
unfolding paint
paint_same on on₂ at at₂ len v v₂ l zero eo ea b h = refl
paint_same on on₂ at at₂ len v v₂ l (suc n) eo ea b h =
    one-after (on n) (on₂ n) (at n) (at₂ n) len (v n) (v₂ n) (paint on at len v n l) _ (eo n (le_refl (suc n))) (ea n (le_refl (suc n)))
    (paint_same on on₂ at at₂ len v v₂ l n (λ i k. eo i (omega arith)) (λ i k. ea i (omega arith)) (λ i k. b i (omega arith)) (λ i k. h i (omega arith)))
    (λ t. subst (λ (m : ℕ). at n + len ≤ m) (sym (paint-length on at len v n l)) (b n (le_refl (suc n)) t)) (h n (le_refl (suc n)))
