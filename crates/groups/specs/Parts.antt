-- From runs to a group's columns: one run, then one range of unit offsets after another.
use Rattle.std.specs.Prelude.{◌≡◌, refl, ◌⊎◌, true, not, ltb}
use Rattle.std.proofs.Math.Path.{sym, ap, ap₂, subst⁻¹}
use Rattle.std.proofs.Common.{◌∙◌, ⊎_elim, le_refl, ltb-true}
use Rattle.std.proofs.Math.Bool.{Bool, false}
use mathlib.Core.List.{List}
use Prim.Native.Nat.{ℕ, ◌+◌, ◌-◌, ◌*◌, ◌<◌, ◌≤◌}
use native.Mathlib.Omega.{arith}
use Rattle.std.proofs.Math.ListN.{length, get_or}
use Rattle.lists.specs.Part.{within_cases}
use Rattle.lists.specs.Pick.{pick, both, pick_true, pick-false, either_way, both_true, both_hold, clash, below_or_not}
use Rattle.lists.specs.Search.{any, any-true, any_false}
use Rattle.parity.specs.Content.{content_cong}
use Rattle.parity.specs.Local.{rebuilt_cong}
use Rattle.plan.specs.declared.Plan.{Plan}
use Rattle.plan.specs.Plans.{at_of, miss_of, Fits, Apart, Right, column, held}
use Rattle.runs.specs.Run.{paint, paint-length, paint-hit, paint-miss}
use Rattle.updates.specs.Writing.{laid, new_content, stores_in, new_run, run_written}
use Rattle.lists.specs.Between.{between, between_in, between-before, between-after, between-true, between_cases}
use Rattle.lists.specs.Lays.{Lays, lays_none, lays_ext, lays_home}
use Rattle.groups.specs.Write.{name_at, on_at, val_at, on_in, Cut, Uncut}
use Rattle.groups.specs.Cuts.{unit_from, unit_le, names}

-- ---- a column's new contents hang on what is present of the column and on the named units alone

module _ (P : Plan) (r : Right P) (img other bytes : List ℕ) (s a o : ℕ) (nm nm' : ℕ → Bool)
    (same : (c : ℕ) → c < P.n + P.k → miss_of P c ≡ false → column P img o c ≡ column P other o c) (test : (j : ℕ) → j < P.n → nm j ≡ nm' j) where
  pub held_local : (c : ℕ) → c < P.n + P.k → held P img o c ≡ held P other o c
  unfolding held
  held_local c h = rebuilt_cong P.n P.k (miss_of P) r.solvable (column P img o) (column P other o) same c h

  laid_local : (j : ℕ) → j < P.n → laid P img bytes s a nm o j ≡ laid P other bytes s a nm' o j
  unfolding laid
  laid_local j h = ap₂ (λ (t : Bool) (x : ℕ). pick t (get_or bytes (s + (P.u * j + o) - a) 0) x) (test j h) (held_local j (omega arith))

  pub new_local : (c : ℕ) → new_content P img bytes s a nm o c ≡ new_content P other bytes s a nm' o c
  unfolding new_content
  new_local c = content_cong P.n (laid P img bytes s a nm o) (laid P other bytes s a nm' o) laid_local c

-- ---- one run

module _ (P : Plan) (img bytes : List ℕ) (s a v1 o1 v2 o2 lo hi u1 u2 : ℕ) (fits : Fits P (length img)) (apt : Apart P)
    (cut : Cut P.n P.u s a (a + length bytes) v1 o1 v2 o2) (part : Uncut P.u o1 o2 lo hi) (e1 : u1 ≡ unit_from v1 o1 lo) (e2 : u2 ≡ unit_from v2 o2 lo) where
  named : (o j : ℕ) → lo ≤ o → o < hi → j < P.n → name_at P s a (length bytes) o j ≡ between u1 u2 j
  named o j hl hh hj =
      names P s a (length bytes) v1 o1 v2 o2 lo hi cut part o j hl hh hj ∙ ap₂ (λ (x y : ℕ). between x y j) (sym e1) (sym e2)

  -- where no unit is named, or no offset is in the range, nothing is stored
  pub part_none : (u2 ≤ u1) ⊎ (hi ≤ lo) → Lays (P.n + P.k) P.u (at_of P) (on_in lo hi P s a (length bytes)) (val_at P img bytes s a) img img
  unfolding on_in on_at
  part_none w = lays_none (P.n + P.k) P.u (at_of P) _ _ img (λ c o hc ho t. none c o t)
    where
      off : (o j : ℕ) → lo ≤ o → o < hi → j < P.n → name_at P s a (length bytes) o j ≡ false
      off o j hl hh hj =
          named o j hl hh hj
          ∙ between_cases u1 u2 j
          (λ p q. absurd (⊎_elim (λ (k : u2 ≤ u1). omega arith) (λ (k : hi ≤ lo). omega arith) w)) (λ z. z)

      chosen : (c o : ℕ) → lo ≤ o → o < hi → pick (ltb c P.n) (name_at P s a (length bytes) o c) (any (name_at P s a (length bytes) o) P.n) ≡ false
      chosen c o hl hh =
          ⊎_elim (λ (d : ltb c P.n ≡ true). pick_true (ltb c P.n) _ _ d ∙ off o c hl hh (ltb-true c P.n d))
          (λ (d : ltb c P.n ≡ false). pick-false (ltb c P.n) _ _ d ∙ any_false (name_at P s a (length bytes) o) P.n (λ j h. off o j hl hh h))
          (either_way (ltb c P.n))

      none : (c o : ℕ) → both (between lo hi o) (both (not (miss_of P c)) (pick (ltb c P.n) (name_at P s a (length bytes) o c) (any (name_at P s a (length bytes) o) P.n))) ≡ true → ⊥
      none c o t =
          let k = both_true (between lo hi o) _ t in
          let b = between-true lo hi o k.0 in
          clash _ (both_true (not (miss_of P c)) _ k.1).1 (chosen c o b.0 b.1)

  -- in the range, what is stored is what the run stores
  on_is : u1 < u2 → (c o : ℕ) → lo ≤ o → o < hi → on_at P s a (length bytes) c o ≡ stores_in P (between u1 u2) c
  unfolding on_at stores_in
  on_is some c o hl hh =
      ap (λ (x : Bool). both (not (miss_of P c)) (pick (ltb c P.n) (name_at P s a (length bytes) o c) x))
      (any-true (name_at P s a (length bytes) o) P.n u1 (omega (arith, u2_le)) (named o u1 hl hh (omega (arith, u2_le)) ∙ between_in u1 u2 u1 (le_refl u1) some))
      ∙ ap (both (not (miss_of P c))) (data_name (ltb c P.n) refl)
    where
      u2_le : u2 ≤ P.n
      u2_le = omega (arith, unit_le v2 o2 lo P.n cut.v2_lt)

      data_name : (d : Bool) → ltb c P.n ≡ d → pick d (name_at P s a (length bytes) o c) true ≡ pick d (between u1 u2 c) true
      data_name true d = named o c hl hh (ltb-true c P.n d)
      data_name false d = refl

  pub part-run : (img' : List ℕ) → u1 < u2 → lo < hi → img' ≡ run_written P img bytes s a u1 (u2 - u1) lo (hi - lo)
      → Lays (P.n + P.k) P.u (at_of P) (on_in lo hi P s a (length bytes)) (val_at P img bytes s a) img img'
  unfolding on_in run_written new_run val_at
  part-run img' some hlt ei =
      record {
        same = ap length ei ∙ paint-length on at len val (P.n + P.k) img;
        hit = λ c o hc ho t.
            let k = both_true (between lo hi o) _ t in
            let b = between-true lo hi o k.0 in
            let q : at_of P c + lo + (o - lo) ≡ at_of P c + o = omega (arith, b.0) in
            let r : lo + (o - lo) ≡ o = omega (arith, b.0) in
            ap (λ (l : List ℕ). get_or l (at_of P c + o) 0) ei
            ∙ ap (λ (x : ℕ). get_or (paint on at len val (P.n + P.k) img) x 0) (sym q)
            ∙ paint-hit on at len val (P.n + P.k) img c (o - lo) hc (sym (on_is some c o b.0 b.1) ∙ k.1) (omega (arith, b.0, b.1)) (omega (arith, fits.inside c hc, part.hi-le))
            (λ j hj tj (ne : j ≡ c → ⊥).
            within_cases (at j) len (at c + (o - lo)) (λ x y. absurd (ne (sym (meets c j o b.0 ho hc hj x y)))) (λ z. z))
            ∙ ap (λ (x : ℕ). new_content P img bytes s a (between u1 u2) x c) r
            ∙ new_local P fits.right img img bytes s a o (between u1 u2) (name_at P s a (length bytes) o) (λ d h t. refl)
            (λ j h. sym (named o j b.0 b.1 h)) c;
        miss = λ x hx w.
            ap (λ (l : List ℕ). get_or l x 0) ei
            ∙ paint-miss on at len val (P.n + P.k) img x hx
            (λ c hc tc.
            within_cases (at c) len x
            (λ p q.
            let hl : lo ≤ x - at_of P c = omega arith in
            let hh : x - at_of P c < hi = omega arith in
            absurd (w c (x - at_of P c) hc (omega (arith, part.hi-le))
            (both_hold (between lo hi (x - at_of P c)) _ (between_in lo hi (x - at_of P c) hl hh) (on_is some c (x - at_of P c) hl hh ∙ tc)) (omega arith))) (λ z. z));
      }
    where
      on : ℕ → Bool
      on = stores_in P (between u1 u2)

      at : ℕ → ℕ
      at c = at_of P c + lo

      len : ℕ
      len = hi - lo

      val : ℕ → ℕ → ℕ
      val c o = new_content P img bytes s a (between u1 u2) (lo + o) c

      meets : (c j o : ℕ) → lo ≤ o → o < P.u → c < P.n + P.k → j < P.n + P.k → at_of P j + lo ≤ at_of P c + lo + (o - lo)
          → at_of P c + lo + (o - lo) < at_of P j + lo + (hi - lo) → c ≡ j
      meets c j o hl ho hc hj x y = apt.apart c j o (at_of P c + o - at_of P j) hc hj ho (omega (arith, part.hi-le)) (omega arith)

-- ---- one range of unit offsets after another

module _ (P : Plan) (img₀ img img' bytes : List ℕ) (s a lo hi : ℕ) (fits : Fits P (length img₀)) (apt : Apart P) (le : lo ≤ hi)
    (l₁ : Lays (P.n + P.k) P.u (at_of P) (on_in 0 lo P s a (length bytes)) (val_at P img₀ bytes s a) img₀ img)
    (l₂ : Lays (P.n + P.k) P.u (at_of P) (on_in lo hi P s a (length bytes)) (val_at P img bytes s a) img img') where
  -- the columns from lo on are as they were
  kept_column : (c o : ℕ) → c < P.n + P.k → o < P.u → lo ≤ o → column P img o c ≡ column P img₀ o c
  unfolding on_in column
  kept_column c o hc ho hl =
      lays_home (P.n + P.k) P.u (at_of P) apt.apart _ _ img₀ img fits.inside l₁ c o hc ho
      ∙ pick-false _ _ _ (pick-false (between 0 lo o) _ _ (between-after 0 lo o hl))

  -- and then those below lo
  kept_below : (c o : ℕ) → c < P.n + P.k → o < P.u → o < lo → get_or img' (at_of P c + o) 0 ≡ get_or img (at_of P c + o) 0
  unfolding on_in
  kept_below c o hc ho h =
      lays_home (P.n + P.k) P.u (at_of P) apt.apart _ _ img img' (λ d hd. subst⁻¹ (λ (z : ℕ). at_of P d + P.u ≤ z) l₁.same (fits.inside d hd)) l₂ c o hc ho
      ∙ pick-false _ _ _ (pick-false (between lo hi o) _ _ (between-before lo hi o h))

  lays_next : Lays (P.n + P.k) P.u (at_of P) (on_in 0 hi P s a (length bytes)) (val_at P img₀ bytes s a) img₀ img'
  unfolding on_in val_at
  lays_next =
      record {
        same = l₂.same ∙ l₁.same;
        hit = λ c o hc ho t.
            let k = both_true (between 0 hi o) _ t in
            let b = between-true 0 hi o k.0 in
            below_or_not o lo
            (λ (h : o < lo). kept_below c o hc ho h ∙ l₁.hit c o hc ho (both_hold (between 0 lo o) _ (between_in 0 lo o (omega arith) h) k.1))
            (λ (h : lo ≤ o).
            l₂.hit c o hc ho (both_hold (between lo hi o) _ (between_in lo hi o h b.1) k.1)
            ∙ new_local P fits.right img img₀ bytes s a o (name_at P s a (length bytes) o) (name_at P s a (length bytes) o) (λ d g m. kept_column d o g ho h) (λ j g. refl) c);
        miss = λ x h w.
            l₂.miss x (omega (arith, l₁.same))
            (λ c o hc ho t q.
            let k = both_true (between lo hi o) _ t in
            let b = between-true lo hi o k.0 in
            w c o hc ho (both_hold (between 0 hi o) _ (between_in 0 hi o (omega arith) b.1) k.1) q)
            ∙ l₁.miss x h
            (λ c o hc ho t q.
            let k = both_true (between 0 lo o) _ t in
            let b = between-true 0 lo o k.0 in
            w c o hc ho (both_hold (between 0 hi o) _ (between_in 0 hi o (omega arith) (omega (arith, b.1))) k.1) q);
      }

lays_whole : (P : Plan) (img img' bytes : List ℕ) (s a : ℕ) → Lays (P.n + P.k) P.u (at_of P) (on_in 0 P.u P s a (length bytes)) (val_at P img bytes s a) img img'
    → Lays (P.n + P.k) P.u (at_of P) (on_at P s a (length bytes)) (val_at P img bytes s a) img img'
unfolding on_in
lays_whole P img img' bytes s a l =
    lays_ext (P.n + P.k) P.u (at_of P) _ _ _ _ img img' (λ c o hc ho. pick_true (between 0 P.u o) _ _ (between_in 0 P.u o (omega arith) ho)) (λ c o hc ho t. refl) l

pub group_made : (P : Plan) (img₀ img₁ img₂ img₃ bytes : List ℕ) (s a m1 m2 : ℕ) → Fits P (length img₀) → Apart P → m1 ≤ m2 → m2 ≤ P.u
    → Lays (P.n + P.k) P.u (at_of P) (on_in 0 m1 P s a (length bytes)) (val_at P img₀ bytes s a) img₀ img₁
    → Lays (P.n + P.k) P.u (at_of P) (on_in m1 m2 P s a (length bytes)) (val_at P img₁ bytes s a) img₁ img₂
    → Lays (P.n + P.k) P.u (at_of P) (on_in m2 P.u P s a (length bytes)) (val_at P img₂ bytes s a) img₂ img₃
    → Lays (P.n + P.k) P.u (at_of P) (on_at P s a (length bytes)) (val_at P img₀ bytes s a) img₀ img₃
group_made P img₀ img₁ img₂ img₃ bytes s a m1 m2 fits apt h1 h2 l₁ l₂ l₃ =
    lays_whole P img₀ img₃ bytes s a
    (lays_next P img₀ img₂ img₃ bytes s a m2 P.u fits apt h2 (lays_next P img₀ img₁ img₂ bytes s a m1 m2 fits apt h1 l₁ l₂) l₃)
