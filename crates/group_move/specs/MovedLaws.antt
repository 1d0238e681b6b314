-- One content after another, the data first: the contents are moved. And units cleared one after another.
use Rattle.std.specs.Prelude.{◌≡◌, false, ℕ, ◌+◌, ◌-◌, ◌<◌, ◌≤◌, ltb, length}
use Rattle.std.proofs.Math.Path.{refl, sym, ap}
use Rattle.std.proofs.Common.{◌∙◌, lt-ltb, le-ltb}
use Rattle.std.proofs.Math.Bool.{not}
use mathlib.Core.List.{List}
use native.Mathlib.Omega.{arith}
use Rattle.std.proofs.Math.ListN.{get_or}
use Rattle.lists.specs.Pick.{pick, pick_true, pick-false, below_or_not}
use Rattle.lists.specs.Part.{within_cases}
use Rattle.lists.specs.Count.{count-zero}
use Rattle.parity.specs.Group.{parity_of}
use Rattle.parity.specs.Content.{content_data, content_beyond, parity_cong}
use Rattle.plan.specs.declared.Plan.{Plan}
use Rattle.plan.specs.Plans.{at_of, miss_of, Fits, Apart, column, held}
use Rattle.runs.specs.Run.{run_set, run_set_ext, paint, paint_turn, paint-hit}
use Rattle.runs.specs.Held.{held_run, zero_byte}
use Rattle.updates.specs.Sources.{standing, parity_at, gathered, parity_over}
use Rattle.group_move.specs.Moved.{Meets, always, moved_byte, byte_stored, contents_moved, units_cleared}

-- ---- units of zeros

module _ (starts : List ℕ) (u : ℕ) (new₀ : List ℕ) where
  pub cleared_none : new₀ ≡ units_cleared starts u 0 new₀
  unfolding units_cleared paint
  cleared_none = refl

  pub cleared_turn : (i : ℕ) (new new' : List ℕ) → new ≡ units_cleared starts u i new₀ → new' ≡ run_set (get_or starts i 0) u zero_byte new
      → new' ≡ units_cleared starts u (i + 1) new₀
  unfolding units_cleared
  cleared_turn i new new' = paint_turn always (λ i. get_or starts i 0) u (λ i. zero_byte) i new₀ new new'

  pub cleared_end : (i n : ℕ) (new : List ℕ) → new ≡ units_cleared starts u i new₀ → i ≡ n → new ≡ units_cleared starts u n new₀
  cleared_end i n new e h = e ∙ ap (λ (m : ℕ). units_cleared starts u m new₀) h

-- ---- one content

module _ (P Q : Plan) (size : ℕ) (fits : Fits Q size) (meets : Meets P Q) where
  pub unit_in_lem : (c : ℕ) → c < P.n + P.k → at_of Q c + P.u ≤ size
  unit_in_lem c h = omega (arith, fits.inside c (omega (arith, meets.n_is, meets.k_is)), meets.u_is)

  nothing_missing : (c : ℕ) → c < P.n + P.k → miss_of Q c ≡ false
  nothing_missing c h =
      count-zero (miss_of Q) (Q.n + Q.k) (sym fits.right.gone_is ∙ meets.whole) c (omega (arith, meets.n_is, meets.k_is))

  module _ (old new new' : List ℕ) (len : size ≡ length new) (c : ℕ) (hc : c < P.n + P.k) where
    inside : at_of Q c + P.u ≤ length new
    inside = omega (arith, unit_in_lem c hc, len)

    -- a data unit
    pub data_made : c < P.n → new' ≡ run_set (at_of Q c) P.u (held_run P old 0 c) new → new' ≡ run_set (at_of Q c) P.u (byte_stored P Q old new c) new
    unfolding held_run byte_stored
    data_made h e =
        e
        ∙ run_set_ext (at_of Q c) P.u _ _ new inside
        (λ o k. let z : 0 + o ≡ o = omega arith in ap (λ (x : ℕ). held P old x c) z ∙ sym (pick_true (ltb c P.n) _ _ (lt-ltb c P.n h)))

    -- a parity unit
    pub parity_made : (lost : List ℕ) → P.n ≤ c
        → new' ≡ pick (standing Q (c - P.n)) (run_set (parity_at Q 0 (c - P.n)) Q.u (parity_over Q new lost 0 (c - P.n)) new) new
        → new' ≡ run_set (at_of Q c) P.u (byte_stored P Q old new c) new
    unfolding standing parity_at parity_over gathered byte_stored
    parity_made lost h e =
        e
        ∙ pick_true (not (miss_of Q (Q.n + (c - P.n)))) _ _ (ap (λ (d : ℕ). not (miss_of Q d)) here ∙ ap not (nothing_missing c hc))
        ∙ (λ i. run_set (begins i) (meets.u_is i) (parity_over Q new lost 0 (c - P.n)) new)
        ∙ run_set_ext (at_of Q c) P.u _ _ new inside (λ o k. worked_out o ∙ sym (pick-false (ltb c P.n) _ _ (le-ltb c P.n h)))
      where
        here : Q.n + (c - P.n) ≡ c
        here = omega (arith, meets.n_is)

        begins : at_of Q (Q.n + (c - P.n)) + 0 ≡ at_of Q c
        begins = let z : at_of Q (Q.n + (c - P.n)) + 0 ≡ at_of Q (Q.n + (c - P.n)) = omega arith in z ∙ ap (at_of Q) here

        worked_out : (o : ℕ) → parity_over Q new lost 0 (c - P.n) o ≡ parity_of P.n (column Q new o) (c - P.n)
        worked_out o =
            let z : 0 + o ≡ o = omega arith in
            ap (λ (n : ℕ). parity_of n (gathered Q new lost 0 o) (c - P.n)) meets.n_is
            ∙ parity_cong P.n _ _
            (λ j b. pick-false (miss_of Q j) _ _ (nothing_missing j (omega arith)) ∙ ap (λ (x : ℕ). column Q new x j) z) (c - P.n)

-- ---- one content after another

module _ (P Q : Plan) (old new₀ : List ℕ) where
  pub moved_none : new₀ ≡ contents_moved P Q old 0 new₀
  unfolding contents_moved paint
  moved_none = refl

  pub moved-end : (c n : ℕ) (new : List ℕ) → new ≡ contents_moved P Q old c new₀ → c ≡ n → new ≡ contents_moved P Q old n new₀
  moved-end c n new e h = e ∙ ap (λ (m : ℕ). contents_moved P Q old m new₀) h

  module _ (fits : Fits Q (length new₀)) (apart : Apart Q) (meets : Meets P Q) where
    -- a data unit as it stands once the first c contents are moved
    moved_data : (c : ℕ) (new : List ℕ) → c ≤ P.n + P.k → new ≡ contents_moved P Q old c new₀ → (j o : ℕ) → j < c → j < P.n → o < P.u
        → column Q new o j ≡ held P old o j
    unfolding column contents_moved moved_byte
    moved_data c new hc e j o h hj k =
        ap (λ (l : List ℕ). get_or l (at_of Q j + o) 0) e
        ∙ paint-hit always (at_of Q) P.u (moved_byte P old) c new₀ j o h refl k (unit_in_lem P Q (length new₀) fits meets j (omega arith))
        (λ d hd t (ne : d ≡ j → ⊥).
        within_cases (at_of Q d) P.u (at_of Q j + o)
        (λ p q.
        absurd (ne (apart.apart d j (at_of Q j + o - at_of Q d) o (omega (arith, meets.n_is, meets.k_is)) (omega (arith, meets.n_is, meets.k_is))
        (omega (arith, meets.u_is)) (omega (arith, meets.u_is)) (omega arith)))) (λ w. w))
        ∙ content_data P.n (held P old o) j hj

    pub moved_turn : (c : ℕ) (new new' : List ℕ) → c < P.n + P.k → length new ≡ length new₀ → new ≡ contents_moved P Q old c new₀
        → new' ≡ run_set (at_of Q c) P.u (byte_stored P Q old new c) new → new' ≡ contents_moved P Q old (c + 1) new₀
    unfolding contents_moved
    moved_turn c new new' hc len e e' =
        paint_turn always (at_of Q) P.u (moved_byte P old) c new₀ new new' e
        (e' ∙ run_set_ext (at_of Q c) P.u _ _ new (omega (arith, unit_in_lem P Q (length new₀) fits meets c hc, len)) right)
      where
        right : (o : ℕ) → o < P.u → byte_stored P Q old new c o ≡ moved_byte P old c o
        right o k =
            unfold byte_stored in unfold moved_byte in below_or_not c P.n
            (λ (h : c < P.n). pick_true (ltb c P.n) _ _ (lt-ltb c P.n h) ∙ sym (content_data P.n (held P old o) c h))
            (λ (h : P.n ≤ c).
            pick-false (ltb c P.n) _ _ (le-ltb c P.n h)
            ∙ parity_cong P.n _ _ (λ j b. moved_data c new (omega arith) e j o (omega arith) b k) (c - P.n)
            ∙ sym (content_beyond P.n (held P old o) c h))
