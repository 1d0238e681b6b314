-- What a turn or a return of the code that writes a run shows, over plain values.
use Rattle.std.specs.Prelude.{◌≡◌, refl, Bool, true, false, ℕ, ◌+◌, ◌-◌, ◌*◌, ◌<◌, ◌≤◌, length}
use Rattle.std.proofs.Math.Path.{sym, ap, ap₂}
use Rattle.std.proofs.Common.{◌∙◌, inl, inr, ⊎_elim, mul-le-mul, lt_irrefl, arith}
use Rattle.std.proofs.Math.Bool.{not}
use mathlib.Core.List.{List, []}
use Rattle.std.proofs.Math.ListN.{get_or}
use Rattle.lists.specs.Pick.{pick, both, pick_true, pick-false, clash}
use Rattle.lists.specs.Part.{within, within_cases}
use Rattle.lists.specs.Count.{count-zero}
use Rattle.lists.specs.Span.{Span}
use Rattle.field.specs.Byte.{◌⊕◌, mul}
use Rattle.field.specs.Ring.{⊕-zero, zero_⊕}
use Rattle.field.proofs.Laws.{zero-mul}
use Rattle.field.specs.Sum.{sum_cong}
use Rattle.field.proofs.SumLaws.{sum-add}
use Rattle.kernel.specs.Combine.{sum_at}
use Rattle.kernel.specs.InPlace.{Apart as ApartIn}
use Rattle.systems.specs.Coef.{coef}
use Rattle.parity.specs.Group.{parity_of}
use Rattle.plan.specs.declared.Plan.{Plan}
use Rattle.plan.specs.Plans.{lines_of, at_of, miss_of, Right, Fits, Apart, column}
use Rattle.plan.specs.Held.{rank_lt}
use Rattle.runs.specs.Run.{run_set, run_set_ext, paint, paint-miss, paint_turn}
use Rattle.runs.specs.Held.{run_of, held_run, rank_place}
use Rattle.runs.specs.InPlace.{runs_aside}
use Rattle.runs.specs.Steps.{put_span, add_span}
use Rattle.updates.specs.Sources.{lost_start, standing, parity_at, whole_parity, around_sum, gathered, parity_over, kept_run, Begins, Keeps}

-- ---- storing

pub absent : (m x : Bool) → m ≡ true → both (not m) x ≡ false
absent m x e = ap (λ (t : Bool). both (not t) x) e

pub present : (m x : Bool) → m ≡ false → both (not m) x ≡ x
present m x e = ap (λ (t : Bool). both (not t) x) e

-- nothing is stored, or the run
pub kept_off : (t b : Bool) (x y : List ℕ) → b ≡ t → not b ≡ true → y ≡ pick t x y
kept_off true true x y e h = clash true refl (sym h)
kept_off true false x y e h = clash true refl (sym e)
kept_off false b x y e h = refl

pub kept_on : (t b : Bool) (x x' y : List ℕ) → b ≡ t → not b ≡ false → x ≡ x' → x ≡ pick t x' y
kept_on true b x x' y e h q = q
kept_on false true x x' y e h q = clash true refl e
kept_on false false x x' y e h q = clash true refl h

-- ---- parity

-- a run lies in the image
pub data_in : (P : Plan) (size lo len c : ℕ) → Fits P size → lo + len ≤ P.u → c < P.n → at_of P c + lo + len ≤ size
data_in P size lo len c f r h = omega (arith, f.inside c (omega arith))

pub parity_in : (P : Plan) (size lo len i : ℕ) → Fits P size → lo + len ≤ P.u → i < P.k → at_of P (P.n + i) + lo + len ≤ size
parity_in P size lo len i f r h = omega (arith, f.inside (P.n + i) (omega arith))

-- a parity that is missing is not stored
pub parity_off : (P : Plan) (lo len i : ℕ) (img : List ℕ) (f : ℕ → ℕ) → miss_of P (P.n + i) ≡ true → img ≡ pick (standing P i) (run_set (parity_at P lo i) len f img) img
unfolding standing
parity_off P lo len i img f m = sym (pick-false (not (miss_of P (P.n + i))) _ _ (ap not m))

module _ (P : Plan) (lo len i : ℕ) (img img' : List ℕ) where
  parity_on : (f : ℕ → ℕ) → miss_of P (P.n + i) ≡ false → img' ≡ run_set (parity_at P lo i) len f img
      → img' ≡ pick (standing P i) (run_set (parity_at P lo i) len f img) img
  unfolding standing
  parity_on f m e = e ∙ sym (pick_true (not (miss_of P (P.n + i))) _ _ (ap not m))

  module _ (r : Right P) (hi : i < P.k) (row : List ℕ) (er : row ≡ get_or (lines_of P.codes) i []) (m : miss_of P (P.n + i) ≡ false)
      (to : ℕ) (et : to ≡ at_of P (P.n + i) + lo) (b : to + len ≤ length img) where
    factor : (j : ℕ) → j < P.n → get_or row j 0 ≡ coef i j
    factor j h =
        ap (λ (l : List ℕ). get_or l j 0) er ∙ r.codes_are i (omega (arith, r.solvable.parity_max)) j (omega (arith, r.solvable.data_max))

    made : (f g : ℕ → ℕ) → img' ≡ run_set to len f img → ((o : ℕ) → o < len → f o ≡ g o)
        → img' ≡ pick (standing P i) (run_set (parity_at P lo i) len g img) img
    unfolding parity_at
    made f g e h = parity_on g m (e ∙ run_set_ext to len f g img b h ∙ ap (λ (x : ℕ). run_set x len g img) et)

    -- from the bytes to write
    pub whole_made : (bytes starts : List ℕ) → Span (λ y. sum_at P.n row starts bytes (y - to)) to (to + len) img img'
        → img' ≡ pick (standing P i) (run_set (parity_at P lo i) len (whole_parity P bytes starts i) img) img
    unfolding sum_at whole_parity parity_of run_of
    whole_made bytes starts s =
        made (sum_at P.n row starts bytes) (whole_parity P bytes starts i) (put_span to len (sum_at P.n row starts bytes) img img' b s)
        (λ o h. sum_cong P.n _ _ (λ j k. ap (λ (x : ℕ). mul x (get_or bytes (get_or starts j 0 + o) 0)) (factor j k)))

    module _ (lost starts : List ℕ) (es : Begins P lo starts) where
      -- from the image alone
      pub healthy_made : P.gone ≡ 0 → Span (λ y. sum_at P.n row starts img (y - to)) to (to + len) img img'
          → img' ≡ pick (standing P i) (run_set (parity_at P lo i) len (parity_over P img lost lo i) img) img
      unfolding sum_at parity_over parity_of gathered column
      healthy_made none s =
          made (sum_at P.n row starts img) (parity_over P img lost lo i) (put_span to len (sum_at P.n row starts img) img img' b s)
          (λ o h. sum_cong P.n _ _
          (λ j k. ap₂ mul (factor j k) (ap (λ (x : ℕ). get_or img x 0) (let q : get_or starts j 0 + o ≡ at_of P j + (lo + o) = omega (arith, es.at j k) in q)
          ∙ sym (pick-false (miss_of P j) _ _ (count-zero (miss_of P) (P.n + P.k) (sym r.gone_is ∙ none) j (omega arith))))))

      -- from the image and the scratch
      pub around_parity : img' ≡ run_set to len (around_sum P img lost starts row) img
          → img' ≡ pick (standing P i) (run_set (parity_at P lo i) len (parity_over P img lost lo i) img) img
      unfolding around_sum parity_over parity_of gathered column
      around_parity e =
          made (around_sum P img lost starts row) (parity_over P img lost lo i) e
          (λ o h. sum_cong P.n _ _
          (λ j k. ap₂ (λ (x y : ℕ). mul x (pick (miss_of P j) (get_or lost (rank_place P j + o) 0) (get_or img y 0))) (factor j k)
          (let q : get_or starts j 0 + o ≡ at_of P j + (lo + o) = omega (arith, es.at j k) in q)))

-- ---- a sum in two halves

-- one datum, from the one half or the other
one_half : (m : Bool) (f : ℕ → ℕ) (r x a p : ℕ) → p ≡ pick m a 0 → mul (pick (not m) r 0) x ⊕ mul (pick m r 0) (f p) ≡ mul r (pick m (f a) x)
one_half true f r x a p e = ap (◌⊕ mul r (f p)) (zero-mul x) ∙ zero_⊕ (mul r (f p)) ∙ ap (λ (z : ℕ). mul r (f z)) e
one_half false f r x a p e = ap (mul r x ⊕◌) (zero-mul (f p)) ∙ ⊕-zero (mul r x)

module _ (P : Plan) (img lost starts row : List ℕ) (to len : ℕ) (b : to + len ≤ length img) where
  pub around_made : (half other kept img₁ img₂ : List ℕ) → ((j : ℕ) → j < P.n → get_or half j 0 ≡ pick (not (miss_of P j)) (get_or row j 0) 0)
      → ((j : ℕ) → j < P.n → get_or other j 0 ≡ pick (miss_of P j) (get_or row j 0) 0) → ((j : ℕ) → j < P.n → get_or kept j 0 ≡ lost_start P j)
      → Span (λ y. sum_at P.n half starts img (y - to)) to (to + len) img img₁
      → Span (λ y. get_or img₁ y 0 ⊕ sum_at P.n other kept lost (y - to)) to (to + len) img₁ img₂
      → img₂ ≡ run_set to len (around_sum P img lost starts row) img
  unfolding sum_at around_sum lost_start
  around_made half other kept img₁ img₂ eh eo ek s t =
      add_span to len (sum_at P.n half starts img) (sum_at P.n other kept lost) img img₁ img₂ b (put_span to len (sum_at P.n half starts img) img img₁ b s) t
      ∙ run_set_ext to len _ _ img b
      (λ o h.
      sym (sum-add P.n _ _)
      ∙ sum_cong P.n _ _
      (λ j k.
      ap₂ (λ (x y : ℕ). mul x (get_or img (get_or starts j 0 + o) 0) ⊕ mul y (get_or lost (get_or kept j 0 + o) 0)) (eh j k) (eo j k)
      ∙ one_half (miss_of P j) (λ x. get_or lost (x + o) 0) (get_or row j 0) (get_or img (get_or starts j 0 + o) 0) (rank_place P j) (get_or kept j 0) (ek j k)))

-- where the missing data are kept lies in the scratch, and the start of the others too
pub kept_in : (P : Plan) (len size : ℕ) (kept : List ℕ) → Right P → len ≤ 4096 → size ≡ 12288 → ((j : ℕ) → j < P.n → get_or kept j 0 ≡ lost_start P j)
    → (j : ℕ) → j < P.n → get_or kept j 0 + len ≤ size
unfolding lost_start
kept_in P len size kept r hl hs e j h = here (miss_of P j) refl (e j h)
  where
    here : (t : Bool) → miss_of P j ≡ t → get_or kept j 0 ≡ pick t (rank_place P j) 0 → get_or kept j 0 + len ≤ size
    here true m q = omega (arith, rank_lt P r j (omega arith) m)
    here false m q = omega arith

pub has_room_lem : (P : Plan) (size : ℕ) → Keeps P size → (P.gone ≡ 0 → ⊥) → size ≡ 12288
has_room_lem P size k f = ⊎_elim (λ (z : P.gone ≡ 0). absurd (f z)) (λ (z : size ≡ 12288). z) k

-- ---- units that lie apart

module _ (P : Plan) (apart : Apart P) (lo len : ℕ) (room : lo + len ≤ P.u) where
  -- what the kernel asks: no datum's run meets that of a parity
  pub data_aside : (size i to : ℕ) (starts : List ℕ) → Fits P size → i < P.k → to ≡ at_of P (P.n + i) + lo
      → Begins P lo starts → (j : ℕ) → j < P.n → ApartIn (get_or starts j 0) to len size
  data_aside size i to starts f hi et es j h =
      record {
        inside = omega (arith, es.at j h, f.inside j (omega arith));
        aside =
            ⊎_elim (λ (w : at_of P j + lo + len ≤ at_of P (P.n + i) + lo). inl (omega (arith, es.at j h)))
            (λ (w : at_of P (P.n + i) + lo + len ≤ at_of P j + lo). inr (omega (arith, es.at j h)))
            (runs_aside (at_of P (P.n + i) + lo) (at_of P j + lo) len
            (λ x y hx hy e.
            let q = apart.apart (P.n + i) j (lo + x) (lo + y) (omega arith) (omega arith) (omega arith) (omega arith) (omega arith) in
            let z : j < j = omega arith in lt_irrefl j z));
      }

  -- a byte of one unit lies in no other unit's run
  pub unit_out : (c d o : ℕ) → c < P.n + P.k → d < P.n + P.k → (d ≡ c → ⊥) → o < len → within (at_of P d + lo) len (at_of P c + (lo + o)) ≡ false
  unit_out c d o hc hd ne ho =
      within_cases (at_of P d + lo) len (at_of P c + (lo + o))
      (λ p q. absurd (ne (apart.apart d c (at_of P c + (lo + o) - at_of P d) (lo + o) hd hc (omega arith) (omega arith) (omega arith)))) (λ w. w)

  -- parities that are stored leave the data as they are
  module _ (img₀ lost : List ℕ) (f : Fits P (length img₀)) (val : ℕ → ℕ → ℕ) where
    column_stays : (m j o : ℕ) (img : List ℕ) → m ≤ P.k → j < P.n → o < len → img ≡ paint (standing P) (parity_at P lo) len val m img₀
        → column P img (lo + o) j ≡ column P img₀ (lo + o) j
    unfolding column parity_at
    column_stays m j o img hm hj ho e =
        ap (λ (l : List ℕ). get_or l (at_of P j + (lo + o)) 0) e
        ∙ paint-miss (standing P) (parity_at P lo) len val m img₀ (at_of P j + (lo + o)) (omega (arith, f.inside j (omega arith)))
        (λ i h t. unit_out j (P.n + i) o (omega arith) (omega arith) (λ (q : P.n + i ≡ j). absurd (omega arith)) ho)

    parity_stays : (m i o : ℕ) (img : List ℕ) → m ≤ P.k → o < len → img ≡ paint (standing P) (parity_at P lo) len val m img₀
        → parity_over P img lost lo i o ≡ parity_over P img₀ lost lo i o
    unfolding parity_over parity_of gathered
    parity_stays m i o img hm ho e =
        sum_cong P.n _ _
        (λ j h. ap (λ (x : ℕ). mul (coef i j) (pick (miss_of P j) (get_or lost (rank_place P j + o) 0) x)) (column_stays m j o img hm h ho e))

  pub parities_turn : (img₀ lost : List ℕ) → Fits P (length img₀) → (i : ℕ) (img img' : List ℕ) → i < P.k → length img ≡ length img₀
      → img ≡ paint (standing P) (parity_at P lo) len (parity_over P img₀ lost lo) i img₀
      → img' ≡ pick (standing P i) (run_set (parity_at P lo i) len (parity_over P img lost lo i) img) img
      → img' ≡ paint (standing P) (parity_at P lo) len (parity_over P img₀ lost lo) (i + 1) img₀
  unfolding parity_at
  parities_turn img₀ lost f i img img' hi el e e' =
      paint_turn (standing P) (parity_at P lo) len (parity_over P img₀ lost lo) i img₀ img img' e
      (e' ∙ ap (λ (l : List ℕ). pick (standing P i) l img)
      (run_set_ext (parity_at P lo i) len _ _ img (omega (arith, el, f.inside (P.n + i) (omega arith)))
      (λ o h. parity_stays img₀ lost f (parity_over P img₀ lost lo) i i o img (omega arith) h e)))

-- ---- the scratch

pub rank_in : (P : Plan) (image size lo len c : ℕ) → Fits P image → lo + len ≤ P.u → c < P.n → miss_of P c ≡ true → size ≡ 12288 → rank_place P c + len ≤ size
rank_in P image size lo len c f r h m hs = omega (arith, rank_lt P f.right c (omega arith) m, f.u-max)

module _ (P : Plan) (img bytes starts : List ℕ) (from units lo len c : ℕ) (l l' : List ℕ) (m : miss_of P c ≡ true) (b : rank_place P c + len ≤ length l) where
  pub kept_named : within from units c ≡ true → l' ≡ run_set (rank_place P c) len (run_of bytes (get_or starts c 0)) l
      → l' ≡ pick (miss_of P c) (run_set (rank_place P c) len (kept_run P img bytes starts from units lo c) l) l
  unfolding kept_run
  kept_named w e =
      e ∙ run_set_ext (rank_place P c) len _ _ l b (λ o h. sym (pick_true (within from units c) _ _ w)) ∙ sym (pick_true (miss_of P c) _ _ m)

  pub kept_rebuilt : within from units c ≡ false → l' ≡ run_set (rank_place P c) len (held_run P img lo c) l
      → l' ≡ pick (miss_of P c) (run_set (rank_place P c) len (kept_run P img bytes starts from units lo c) l) l
  unfolding kept_run
  kept_rebuilt w e =
      e ∙ run_set_ext (rank_place P c) len _ _ l b (λ o h. sym (pick-false (within from units c) _ _ w)) ∙ sym (pick_true (miss_of P c) _ _ m)

pub prod_le : {a b : ℕ} (m k : ℕ) → a ≤ m → b ≤ k → a * b ≤ m * k
prod_le m k h l = mul-le-mul h l
