-- A whole run: what is stored is what the columns' definition says.
use Rattle.std.specs.Prelude.{◌≡◌, Bool, ℕ, ◌+◌, ◌-◌, ◌*◌, ◌<◌, ◌≤◌, ltb, length}
use Rattle.std.proofs.Math.Path.{refl, sym, ap, ap₂}
use Rattle.std.proofs.Common.{◌∙◌, le_refl, lt-ltb, le-ltb}
use Rattle.std.proofs.Math.Logic.{⊎_elim}
use Rattle.std.proofs.Math.Bool.{true, false, not}
use mathlib.Core.List.{List}
use native.Mathlib.Omega.{arith}
use Rattle.std.proofs.Math.ListN.{get_or}
use Rattle.lists.specs.Pick.{pick, pick_true, pick-false, either_way, both_true, both_hold, clash}
use Rattle.lists.specs.Part.{within, within_in}
use Rattle.lists.specs.Count.{count-zero}
use Rattle.field.specs.Byte.{mul}
use Rattle.field.specs.Sum.{sum_cong}
use Rattle.systems.specs.Coef.{coef}
use Rattle.parity.specs.Group.{content, parity_of, rebuilt}
use Rattle.plan.specs.declared.Plan.{Plan}
use Rattle.plan.specs.Plans.{at_of, miss_of, Fits, Apart, column, held}
use Rattle.runs.specs.Run.{paint, paint-hit, paint-miss, paint_ext, paint-after}
use Rattle.runs.specs.Held.{run_of, held_run, rank_place}
use Rattle.runs.specs.Steps.{kept_at}
use Rattle.updates.specs.Writing.{laid, new_content, stores_in, new_run, run_written, RunFits}
use Rattle.updates.specs.Sources.{byte_start, Starts, standing, parity_at, whole_parity, gathered, parity_over, kept_run}
use Rattle.updates.specs.Steps.{unit_out}

module _ (P : Plan) (s a from units lo len : ℕ) {size count : ℕ} (fits : Fits P size) (run : RunFits P s a from units lo len count)
    (starts : List ℕ) (begin : (j : ℕ) → j < P.n → get_or starts j 0 ≡ byte_start P.u s a from units lo j) where
  -- the kernel may read all the bytes that are named, and some where none is
  pub starts_fit : Starts count starts P.n len
  unfolding byte_start
  starts_fit = record { n_max = fits.right.solvable.data_max; inside = λ j h. bytes_in j (within from units j) refl (begin j h) }
    where
      bytes_in : (j : ℕ) (t : Bool) → within from units j ≡ t → get_or starts j 0 ≡ pick t (s + (P.u * j + lo) - a) 0 → get_or starts j 0 + len ≤ count
      bytes_in j true w q = omega (arith, run.last j w)
      bytes_in j false w q = omega (arith, run.last from (within_in from units from (le_refl from) (omega (arith, run.some))))

module _ (P : Plan) (img bytes starts : List ℕ) (s a from units lo len : ℕ) (fits : Fits P (length img)) (apart : Apart P)
    (run : RunFits P s a from units lo len (length bytes)) (begin : (j : ℕ) → j < P.n → get_or starts j 0 ≡ byte_start P.u s a from units lo j) where
  short : len ≤ 4096
  short = omega (arith, fits.u-max, run.room)

  -- data j as it is laid, at unit offset lo + o
  abbrev new : ℕ → ℕ → ℕ
  new o = laid P img bytes s a (within from units) (lo + o)

  -- a byte that is named
  named_byte : (j o : ℕ) → j < P.n → within from units j ≡ true → run_of bytes (get_or starts j 0) o ≡ new o j
  unfolding byte_start run_of laid
  named_byte j o h w =
      let e : get_or starts j 0 ≡ s + (P.u * j + lo) - a = begin j h ∙ pick_true (within from units j) _ _ w in
      let f = run.first j w in
      ap (λ (x : ℕ). get_or bytes x 0) (let q : get_or starts j 0 + o ≡ s + (P.u * j + (lo + o)) - a = omega arith in q)
      ∙ sym (pick_true (within from units j) _ _ w)

  other_byte : (j o : ℕ) → within from units j ≡ false → held_run P img lo j o ≡ new o j
  unfolding held_run laid
  other_byte j o w = sym (pick-false (within from units j) _ _ w)

  kept_byte : (j o : ℕ) → j < P.n → kept_run P img bytes starts from units lo j o ≡ new o j
  unfolding kept_run
  kept_byte j o h =
      ⊎_elim (λ (w : within from units j ≡ true). pick_true (within from units j) _ _ w ∙ named_byte j o h w)
      (λ (w : within from units j ≡ false). pick-false (within from units j) _ _ w ∙ other_byte j o w) (either_way (within from units j))

  -- ---- the stores

  abbrev on : ℕ → Bool
  on = stores_in P (within from units)

  abbrev at : ℕ → ℕ
  at c = at_of P c + lo

  data_on_lem : (c : ℕ) → c < P.n → on c ≡ true → within from units c ≡ true
  unfolding stores_in
  data_on_lem c h t = sym (pick_true (ltb c P.n) _ _ (lt-ltb c P.n h)) ∙ (both_true (not (miss_of P c)) _ t).1

  parity_on : (i : ℕ) → standing P i ≡ on (P.n + i)
  unfolding stores_in standing
  parity_on i =
      ⊎_elim (λ (m : not (miss_of P (P.n + i)) ≡ true). m ∙ sym (both_hold _ _ m (pick-false (ltb (P.n + i) P.n) _ _ (le-ltb (P.n + i) P.n (omega arith)))))
      (λ (m : not (miss_of P (P.n + i)) ≡ false). m ∙ sym (pick-false _ _ _ m)) (either_way (not (miss_of P (P.n + i))))

  data_new : (c : ℕ) → c < P.n → (o : ℕ) → new_run P img bytes s a (within from units) lo c o ≡ new o c
  unfolding new_run new_content content
  data_new c h o = pick_true (ltb c P.n) _ _ (lt-ltb c P.n h)

  parity_new : (i o : ℕ) → new_run P img bytes s a (within from units) lo (P.n + i) o ≡ parity_of P.n (new o) i
  unfolding new_run new_content content
  parity_new i o =
      pick-false (ltb (P.n + i) P.n) _ _ (le-ltb (P.n + i) P.n (omega arith))
      ∙ ap (parity_of P.n (new o)) (let q : P.n + i - P.n ≡ i = omega arith in q)

  module _ (img₁ img₂ : List ℕ) (e₁ : img₁ ≡ paint on at len (λ c. run_of bytes (get_or starts c 0)) P.n img) where
    -- the data, then parities that are right
    made : (val : ℕ → ℕ → ℕ) → img₂ ≡ paint (standing P) (parity_at P lo) len val P.k img₁
        → ((i : ℕ) → i < P.k → (o : ℕ) → o < len → val i o ≡ parity_of P.n (new o) i) → img₂ ≡ run_written P img bytes s a from units lo len
    unfolding run_written parity_at
    made val e₂ right =
        e₂
        ∙ ap (paint (standing P) (parity_at P lo) len val P.k)
        (e₁ ∙ paint_ext on at len _ _ P.n img (λ c h. omega (arith, fits.inside c (omega arith), run.room))
        (λ c h t o k. named_byte c o h (data_on_lem c h t) ∙ sym (data_new c h o)))
        ∙ paint-after on (standing P) at (parity_at P lo) len (new_run P img bytes s a (within from units) lo) val P.n img P.k
        (λ i h. parity_on i) (λ i h. refl) (λ i h t. omega (arith, fits.inside (P.n + i) (omega arith), run.room))
        (λ i h t o k. right i h o k ∙ sym (parity_new i o))

    pub whole_run : ((j : ℕ) → j < P.n → within from units j ≡ true)
        → img₂ ≡ paint (standing P) (parity_at P lo) len (whole_parity P bytes starts) P.k img₁ → img₂ ≡ run_written P img bytes s a from units lo len
    unfolding whole_parity parity_of
    whole_run all e₂ =
        made (whole_parity P bytes starts) e₂ (λ i h o k. sum_cong P.n _ _ (λ j l. ap (mul (coef i j)) (named_byte j o l (all j l))))

    out : (j o d : ℕ) → j < P.n → o < len → d < P.n → (d ≡ j → ⊥) → within (at d) len (at_of P j + (lo + o)) ≡ false
    out j o d h k hd ne = unit_out P apart lo len run.room j d o (omega arith) (omega arith) ne k

    -- a datum that is present, once the named ones are stored
    stored-named : (j o : ℕ) → j < P.n → o < len → miss_of P j ≡ false → within from units j ≡ true → column P img₁ (lo + o) j ≡ new o j
    unfolding column stores_in
    stored-named j o h k m w =
        let here : at j + o ≡ at_of P j + (lo + o) = omega arith in
        ap₂ (λ (l : List ℕ) (x : ℕ). get_or l x 0) e₁ (sym here)
        ∙ paint-hit on at len _ P.n img j o h (both_hold _ _ (ap not m) (pick_true (ltb j P.n) _ _ (lt-ltb j P.n h) ∙ w)) k
        (omega (arith, fits.inside j (omega arith), run.room)) (λ d hd t ne. ap (within (at d) len) here ∙ out j o d h k hd ne)
        ∙ named_byte j o h w

    stored_other : (j o : ℕ) → j < P.n → o < len → miss_of P j ≡ false → within from units j ≡ false → column P img₁ (lo + o) j ≡ new o j
    unfolding column held_run held rebuilt
    stored_other j o h k m w =
        ap (λ (l : List ℕ). get_or l (at_of P j + (lo + o)) 0) e₁
        ∙ paint-miss on at len _ P.n img (at_of P j + (lo + o)) (omega (arith, fits.inside j (omega arith), run.room))
        (λ d hd t. out j o d h k hd (λ (q : d ≡ j). clash (within from units d) (data_on_lem d hd t) (ap (within from units) q ∙ w)))
        ∙ sym (pick-false (miss_of P j) _ _ m)
        ∙ other_byte j o w

    stored_byte : (j o : ℕ) → j < P.n → o < len → miss_of P j ≡ false → column P img₁ (lo + o) j ≡ new o j
    stored_byte j o h k m =
        ⊎_elim (stored-named j o h k m) (stored_other j o h k m) (either_way (within from units j))

    module _ (lost : List ℕ) (kept : (j o : ℕ) → j < P.n → o < len → miss_of P j ≡ true → get_or lost (rank_place P j + o) 0 ≡ kept_run P img bytes starts from units lo j o) where
      gathered_is : (j o : ℕ) → j < P.n → o < len → gathered P img₁ lost lo o j ≡ new o j
      unfolding gathered
      gathered_is j o h k =
          ⊎_elim (λ (m : miss_of P j ≡ true). pick_true (miss_of P j) _ _ m ∙ kept j o h k m ∙ kept_byte j o h)
          (λ (m : miss_of P j ≡ false). pick-false (miss_of P j) _ _ m ∙ stored_byte j o h k m) (either_way (miss_of P j))

      around_run : img₂ ≡ paint (standing P) (parity_at P lo) len (parity_over P img₁ lost lo) P.k img₁ → img₂ ≡ run_written P img bytes s a from units lo len
      unfolding parity_over parity_of
      around_run e₂ =
          made (parity_over P img₁ lost lo) e₂ (λ i h o k. sum_cong P.n _ _ (λ j l. ap (mul (coef i j)) (gathered_is j o l k)))

    -- where nothing is missing, no scratch is read
    pub healthy_run : (lost : List ℕ) → P.gone ≡ 0 → img₂ ≡ paint (standing P) (parity_at P lo) len (parity_over P img₁ lost lo) P.k img₁
        → img₂ ≡ run_written P img bytes s a from units lo len
    healthy_run lost none =
        around_run lost
        (λ j o h k m. clash (miss_of P j) m (count-zero (miss_of P) (P.n + P.k) (sym fits.right.gone_is ∙ none) j (omega arith)))

    pub lost-run : (lost lost₀ : List ℕ) → length lost₀ ≡ 12288 → lost ≡ paint (miss_of P) (rank_place P) len (kept_run P img bytes starts from units lo) P.n lost₀
        → img₂ ≡ paint (standing P) (parity_at P lo) len (parity_over P img₁ lost lo) P.k img₁ → img₂ ≡ run_written P img bytes s a from units lo len
    lost-run lost lost₀ ll el =
        around_run lost
        (λ j o h k m. ap (λ (l : List ℕ). get_or l (rank_place P j + o) 0) el
        ∙ kept_at P len P.n (kept_run P img bytes starts from units lo) lost₀ fits.right short (omega arith) ll j o h m k)
