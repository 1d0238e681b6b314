-- What a turn or a return of the code on runs shows, over plain values.
use Rattle.std.specs.Prelude.{◌≡◌, true, false, List, [], ℕ, ◌+◌, ◌-◌, ◌<◌, ◌≤◌, length, set}
use Rattle.std.proofs.Math.Path.{sym, ap}
use Rattle.std.proofs.Common.{ap₂, subst, ◌∙◌, length-set}
use Rattle.std.proofs.Math.Nat.{add-sub_cancel_left}
use native.Mathlib.Omega.{arith}
use Rattle.std.proofs.Math.ListN.{get_or}
use Rattle.lists.specs.Part.{within_cases}
use Rattle.lists.specs.Pick.{pick-false}
use Rattle.lists.specs.Span.{Span}
use Rattle.lists.specs.Tabulate.{fill_step}
use Rattle.field.specs.Byte.{◌⊕◌, mul}
use Rattle.field.specs.Sum.{sum_cong}
use Rattle.kernel.specs.Combine.{sum_at}
use Rattle.parity.specs.Group.{rebuilt}
use Rattle.plan.specs.declared.Plan.{Plan}
use Rattle.plan.specs.Plans.{at_of, miss_of, Right, Fits, column, held}
use Rattle.plan.specs.Held.{rank_lt, rank_apart, slot_lt, row_holds}
use Rattle.runs.specs.Run.{run_set, length-run_set, run_set_in, run_set_ext, run_set_twice, run_set_span, paint, paint-hit}
use Rattle.runs.specs.Held.{run_of, held_run, rank_place}

-- a loop that fills the first n of an array of 16: all that a turn shows
pub fill16 : (f : ℕ → ℕ) (l : List ℕ) (i v n : ℕ) → length l ≡ 16 → n ≤ 16 → i < n → v ≡ f i → ((k : ℕ) → k < i → get_or l k 0 ≡ f k)
    → (i + 1 ≤ n) × (length (set l i v) ≡ 16) × ((k : ℕ) → k < i + 1 → get_or (set l i v) k 0 ≡ f k)
fill16 f l i v n e h b ev g = (omega arith, length-set l i v ∙ e, fill_step f l i v 0 (omega arith) ev g)

-- a plan for an image serves any of its length
pub fits_at : {P : Plan} {size size' : ℕ} → Fits P size → size' ≡ size → Fits P size'
fits_at {P} f e = subst (Fits P) (sym e) f

-- ---- sums over runs

-- what is put into the bytes of a run, told byte by byte
pub put_span : (to len : ℕ) (g : ℕ → ℕ) (l l' : List ℕ) → to + len ≤ length l → Span (λ y. g (y - to)) to (to + len) l l' → l' ≡ run_set to len g l
put_span to len g l l' b s = run_set_span to len _ _ l l' b s (λ o h. ap g (add-sub_cancel_left to o))

-- what is added onto the bytes of a run that holds f
pub add_span : (to len : ℕ) (f g : ℕ → ℕ) (l₀ l l' : List ℕ) → to + len ≤ length l₀ → l ≡ run_set to len f l₀
    → Span (λ y. get_or l y 0 ⊕ g (y - to)) to (to + len) l l' → l' ≡ run_set to len (λ o. f o ⊕ g o) l₀
add_span to len f g l₀ l l' b e s =
    run_set_span to len _ _ l l' (omega (arith, ap length e ∙ length-run_set to len f l₀)) s
    (λ o h. ap (λ (x : ℕ). get_or l (to + o) 0 ⊕ g x) (add-sub_cancel_left to o))
    ∙ ap (run_set to len (λ o. get_or l (to + o) 0 ⊕ g o)) e
    ∙ run_set_twice to len f (λ o. get_or l (to + o) 0 ⊕ g o) (λ o. f o ⊕ g o) l₀ b
    (λ o h. ap (◌⊕ g o) (ap (λ (m : List ℕ). get_or m (to + o) 0) e ∙ run_set_in to len f l₀ o h b))

-- ---- rebuilding

-- the row's sum over the slots is the missing content
pub row-run : (P : Plan) (img : List ℕ) (lo c : ℕ) (starts row : List ℕ) → Right P → c < P.n + P.k → miss_of P c ≡ true
    → ((j : ℕ) → j < P.n → get_or starts j 0 ≡ at_of P (get_or P.slots j 0) + lo) → row ≡ get_or P.rows (get_or P.rank c 0) []
    → (o : ℕ) → sum_at P.n row starts img o ≡ held_run P img lo c o
unfolding held_run held column sum_at
row-run P img lo c starts row r hc t hs hr o =
    sum_cong P.n _ _
    (λ j k. ap₂ mul (ap (λ (m : List ℕ). get_or m j 0) hr)
    (ap (λ (x : ℕ). get_or img x 0) (let q : get_or starts j 0 + o ≡ at_of P (get_or P.slots j 0) + (lo + o) = omega (arith, hs j k) in q)))
    ∙ row_holds P r (λ c. get_or img (at_of P c + (lo + o)) 0) c hc t

module _ (P : Plan) (img : List ℕ) (lo to len : ℕ) (l₀ : List ℕ) (b : to + len ≤ length l₀) where
  -- a missing content is put
  pub lost_made : (c : ℕ) (l starts row : List ℕ) → Right P → c < P.n + P.k → miss_of P c ≡ true
      → ((j : ℕ) → j < P.n → get_or starts j 0 ≡ at_of P (get_or P.slots j 0) + lo) → row ≡ get_or P.rows (get_or P.rank c 0) []
      → Span (λ y. sum_at P.n row starts img (y - to)) to (to + len) l₀ l → l ≡ run_set to len (held_run P img lo c) l₀
  lost_made c l starts row r hc t hs hr s =
      put_span to len (sum_at P.n row starts img) l₀ l b s ∙ run_set_ext to len _ _ l₀ b (λ o h. row-run P img lo c starts row r hc t hs hr o)

  -- a content that is there is copied
  pub there_made : (c : ℕ) (l : List ℕ) → miss_of P c ≡ false → l ≡ run_set to len (run_of img (at_of P c + lo)) l₀ → l ≡ run_set to len (held_run P img lo c) l₀
  unfolding run_of held_run held column rebuilt
  there_made c l t e =
      e
      ∙ run_set_ext to len _ _ l₀ b
      (λ o h.
      ap (λ (x : ℕ). get_or img x 0) (let q : at_of P c + lo + o ≡ at_of P c + (lo + o) = omega arith in q) ∙ sym (pick-false (miss_of P c) _ _ t))

-- the slots' runs lie in the image
pub slots_fit : (P : Plan) (size lo len : ℕ) (starts : List ℕ) → Fits P size → lo + len ≤ P.u
    → ((j : ℕ) → j < P.n → get_or starts j 0 ≡ at_of P (get_or P.slots j 0) + lo) → (j : ℕ) → j < P.n → get_or starts j 0 + len ≤ size
slots_fit P size lo len starts f h e j k = omega (arith, e j k, f.inside (get_or P.slots j 0) (slot_lt P f.right j k))

-- a missing content's bytes in the scratch
pub kept_at : (P : Plan) (len m : ℕ) (v : ℕ → ℕ → ℕ) (l : List ℕ) → Right P → len ≤ 4096 → m ≤ P.n + P.k → length l ≡ 12288
    → (c o : ℕ) → c < m → miss_of P c ≡ true → o < len → get_or (paint (miss_of P) (rank_place P) len v m l) (rank_place P c + o) 0 ≡ v c o
kept_at P len m v l r hl hm e c o hc t ho =
    let a = rank_lt P r c (omega arith) t in
    paint-hit (miss_of P) (rank_place P) len v m l c o hc t ho (omega arith)
    (λ j hj tj (ne : j ≡ c → ⊥).
    within_cases (rank_place P j) len (rank_place P c + o)
    (λ p q. absurd (ne (rank_apart P r j c (omega arith) (omega arith) tj t (omega arith)))) (λ w. w))
