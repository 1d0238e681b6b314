-- What the code works out for a set of missing units, step by step, is what the rules for slots and rows say.
use Rattle.std.specs.Prelude.{◌≡◌, Bool, true, false, List, [], ℕ, ◌+◌, ◌-◌, ◌<◌, ◌≤◌, ltb}
use Rattle.std.proofs.Math.Path.{refl, sym, ap, ap₂}
use Rattle.std.proofs.Common.{◌∙◌, le_trans, arith, lit<, lt-ltb, le-ltb}
use Rattle.std.proofs.Math.Logic.{⊎_elim}
use Rattle.std.proofs.Math.ListN.{length, get_or}
use Rattle.lists.specs.Pick.{pick, pick_true, pick-false, either_way, below_or_not}
use Rattle.lists.specs.Count.{count, count_mono}
use Rattle.lists.specs.Those.{length-those, those-lt, those_hold, those-place, those_rank}
use Rattle.field.specs.Byte.{◌⊕◌, mul}
use Rattle.systems.specs.Coef.{coef}
use Rattle.systems.specs.Cramer.{cof, det, inverse, three}
use Rattle.systems.specs.System.{system_entry, sys}
use Rattle.parity.specs.Group.{Solvable, lost, there, gone, equations}
use Rattle.parity.specs.Restores.{lost_most}
use Rattle.parity.specs.Rows.{slot, weight, data_row, parity_row, row_of}
use Rattle.systems.specs.Matrix.{ent, three_of, square_of}
use Rattle.parity.specs.Matrix.{pad3, Holds, weight_of, slot_coef, lost_coef, parity_coef, RowsFor}
use Rattle.parity.specs.Steps.{held-lt, rank_lt}

-- an entry of three
three-at : (f : ℕ → ℕ) (r : ℕ) → r < 3 → get_or (three_of f) r 0 ≡ f r
three-at f = three (λ (r : ℕ). get_or (three_of f) r 0 ≡ f r) refl refl refl

pub held_at : {l at : List ℕ} {d : ℕ} → Holds l at d → (r : ℕ) → r < 3 → get_or at r 0 ≡ get_or l r 0
held_at {l} h r k = ap (λ (z : List ℕ). get_or z r 0) h.at_is ∙ three-at (λ r. get_or l r 0) r k

-- the inverse of the equations as the code holds them
same_inverse : (is ks : List ℕ) (c : ℕ) → c < 3 → (r : ℕ) → r < 3
    → ent (square_of (inverse (ent (square_of (system_entry (pad3 is) (pad3 ks) (length ks)))))) c r ≡ inverse (sys is ks) c r
unfolding inverse det cof system_entry
same_inverse is ks =
    three (λ (c : ℕ). (r : ℕ) → r < 3 → ent (square_of (inverse (ent (square_of (system_entry (pad3 is) (pad3 ks) (length ks)))))) c r ≡ inverse (sys is ks) c r)
    (three (λ (r : ℕ). ent (square_of (inverse (ent (square_of (system_entry (pad3 is) (pad3 ks) (length ks)))))) 0 r ≡ inverse (sys is ks) 0 r) refl refl refl)
    (three (λ (r : ℕ). ent (square_of (inverse (ent (square_of (system_entry (pad3 is) (pad3 ks) (length ks)))))) 1 r ≡ inverse (sys is ks) 1 r) refl refl refl)
    (three (λ (r : ℕ). ent (square_of (inverse (ent (square_of (system_entry (pad3 is) (pad3 ks) (length ks)))))) 2 r ≡ inverse (sys is ks) 2 r) refl refl refl)

module _ (n k : ℕ) (miss : ℕ → Bool) (s : Solvable n k miss) where
  pub gone_most : length (gone n k miss) ≤ 3
  gone_most = omega (arith, length-those miss (n + k), s.few, s.parity_max)

  pub is_lt : {is : List ℕ} {e : ℕ} → Holds (there n k miss) is e → (r : ℕ) → r < 3 → get_or is r 0 < 3
  is_lt {is} {e} h = held-lt (there n k miss) is e 3 h (lit< tt) (λ c i. le_trans (those-lt _ k c i) s.parity_max)

  pub ks_lt : {ks : List ℕ} {d : ℕ} → Holds (lost n miss) ks d → (c : ℕ) → c < 3 → get_or ks c 0 < 16
  ks_lt {ks} {d} h = held-lt (lost n miss) ks d 16 h (lit< tt) (λ c i. le_trans (those-lt miss n c i) s.data_max)

  -- the missing unit number q is data where q is below the number of lost data units, else parity
  pub gone_data : (q : ℕ) → q < length (gone n k miss) → q < length (lost n miss) → get_or (gone n k miss) q 0 < n
  gone_data q h l =
      let u = get_or (gone n k miss) q 0 in
      let p = those_rank miss (n + k) q h in
      below_or_not u n (λ (b : u < n). b) (λ (b : n ≤ u). absurd (omega (arith, length-those miss n, count_mono miss n u b)))

  pub gone_parity : (q : ℕ) → q < length (gone n k miss) → length (lost n miss) ≤ q → n ≤ get_or (gone n k miss) q 0
  gone_parity q h l =
      let u = get_or (gone n k miss) q 0 in
      let p = those_rank miss (n + k) q h in
      below_or_not u n (λ (b : u < n). let w = (those-place miss n u b (those_hold miss (n + k) q h)).0 in absurd (omega arith)) (λ (b : n ≤ u). b)

  pub parity_unit : {units ks : List ℕ} {total d : ℕ} → Holds (gone n k miss) units total → Holds (lost n miss) ks d → (q : ℕ) → q < 3 → d ≤ q → q < total
      → (n ≤ get_or units q 0) × (get_or units q 0 < n + 3)
  parity_unit hg hl q h l b =
      let e = held_at hg q h in
      let i : q < length (gone n k miss) = omega (arith, hg.count_is) in
      (omega (arith, e, gone_parity q i (omega (arith, hl.count_is))), omega (arith, e, those-lt miss (n + k) q i, s.parity_max))

  -- the unit of slot j
  pub slot_made : {is : List ℕ} {e c : ℕ} (j : ℕ) → Holds (there n k miss) is e → j < n → c ≡ count miss j → {x : ℕ} → x ≡ pick (miss j) (n + get_or is c 0) j
      → x ≡ slot n k miss j
  unfolding slot
  slot_made {is} {e} {c} j h l ec ex =
      ex
      ∙ ⊎_elim
      (λ (t : miss j ≡ true).
      ap (λ (v : ℕ). pick (miss j) (n + v) j) (held_at h c (rank_lt miss n j ec l t (lost_most n k miss s)) ∙ ap (λ (z : ℕ). get_or (there n k miss) z 0) ec))
      (λ (t : miss j ≡ false). pick-false (miss j) _ j t ∙ sym (pick-false (miss j) _ j t)) (either_way (miss j))

  module _ {is ks : List ℕ} {e d : ℕ} (hi : Holds (there n k miss) is e) (hk : Holds (lost n miss) ks d) (m₀ m : List (List ℕ))
      (em₀ : m₀ ≡ square_of (system_entry is ks d)) (em : m ≡ square_of (inverse (ent m₀))) where
    inverse-at : (c : ℕ) → c < 3 → (r : ℕ) → r < 3 → ent m c r ≡ inverse (equations n k miss) c r
    inverse-at c hc r hr =
        ap (λ (z : List (List ℕ)). ent z c r)
        (em ∙ ap (λ (z : List (List ℕ)). square_of (inverse (ent z)))
        (em₀ ∙ ap₂ (λ (i j : List ℕ). square_of (system_entry i j d)) hi.at_is hk.at_is
        ∙ ap (λ (z : ℕ). square_of (system_entry (pad3 (there n k miss)) (pad3 (lost n miss)) z)) hk.count_is))
        ∙ same_inverse (there n k miss) (lost n miss) c hc r hr

    weight-at : (c : ℕ) → c < 3 → (r : ℕ) → r < 3 → get_or (three_of (weight_of (get_or m c []) d)) r 0 ≡ weight n k miss c r
    unfolding weight
    weight-at c hc r hr =
        three-at (weight_of (get_or m c []) d) r hr
        ∙ ap₂ (λ (z v : ℕ). pick (ltb r z) v 0) hk.count_is (inverse-at c hc r hr)

    slot-coef : (c : ℕ) → c < 3 → (j : ℕ) → j < n → slot_coef (three_of (weight_of (get_or m c []) d)) is (miss j) (count miss j) j ≡ data_row n k miss c j
    unfolding slot_coef data_row
    slot-coef c hc j hj =
        ⊎_elim
        (λ (t : miss j ≡ true).
        pick_true (miss j) _ _ t ∙ weight-at c hc (count miss j) (rank_lt miss n j refl hj t (lost_most n k miss s)) ∙ sym (pick_true (miss j) _ _ t))
        (λ (t : miss j ≡ false).
        pick-false (miss j) _ _ t ∙ ap₂ ◌⊕◌ (term 0 (lit< tt)) (ap₂ ◌⊕◌ (term 1 (lit< tt)) (term 2 (lit< tt))) ∙ sym (pick-false (miss j) _ _ t))
        (either_way (miss j))
      where
        term : (r : ℕ) → r < 3 → mul (get_or (three_of (weight_of (get_or m c []) d)) r 0) (coef (get_or is r 0) j) ≡ mul (weight n k miss c r) (coef (get_or (there n k miss) r 0) j)
        term r h = ap₂ mul (weight-at c hc r h) (ap (λ (z : ℕ). coef z j) (held_at hi r h))

    pub lost-coef : (c : ℕ) → c < 3 → (j : ℕ) → j < n → lost_coef m is d miss c j ≡ pick (ltb c (length (lost n miss))) (data_row n k miss c j) 0
    unfolding lost_coef
    lost-coef c hc j hj = ap₂ (λ (z v : ℕ). pick (ltb c z) v 0) hk.count_is (slot-coef c hc j hj)

    module _ (lines : List (List ℕ)) (el : (c : ℕ) → c < 3 → (j : ℕ) → j < n → ent lines c j ≡ lost_coef m is d miss c j) where
      pub parity_coef_lem : (i j : ℕ) → j < n → parity_coef ks (three_of (λ r. ent lines r j)) (miss j) i j ≡ parity_row n k miss i j
      unfolding parity_coef parity_row
      parity_coef_lem i j hj = ap (pick (miss j) 0 (coef i j) ⊕◌) (ap₂ ◌⊕◌ (term 0 (lit< tt)) (ap₂ ◌⊕◌ (term 1 (lit< tt)) (term 2 (lit< tt))))
        where
          term : (r : ℕ) → r < 3 → mul (coef i (get_or ks r 0)) (get_or (three_of (λ r. ent lines r j)) r 0)
              ≡ mul (coef i (get_or (lost n miss) r 0)) (pick (ltb r (length (lost n miss))) (data_row n k miss r j) 0)
          term r h = ap₂ mul (ap (coef i) (held_at hk r h)) (three-at (λ r. ent lines r j) r h ∙ el r h j hj ∙ lost-coef r h j hj)

      -- the rows: those of the lost data units, then those of parity units
      pub rows_made : {units : List ℕ} {total : ℕ} → Holds (gone n k miss) units total → (x : List (List ℕ))
          → ((q : ℕ) → q < d → (j : ℕ) → j < n → ent x q j ≡ ent lines q j)
          → ((q : ℕ) → d ≤ q → q < total → (j : ℕ) → j < n → ent x q j ≡ parity_coef ks (three_of (λ r. ent lines r j)) (miss j) (get_or units q 0 - n) j)
          → RowsFor n k miss x
      unfolding row_of
      rows_made {units} {total} hg x same own q h j hj =
          let h3 = le_trans h gone_most in
          below_or_not q (length (lost n miss))
          (λ (l : q < length (lost n miss)).
          same q (omega (arith, hk.count_is)) j hj
          ∙ el q h3 j hj ∙ lost-coef q h3 j hj ∙ pick_true (ltb q (length (lost n miss))) _ 0 (lt-ltb q (length (lost n miss)) l)
          ∙ ap (λ (z : ℕ). data_row n k miss z j) (sym (those_rank miss (n + k) q h))
          ∙ sym (pick_true (ltb (get_or (gone n k miss) q 0) n) _ _ (lt-ltb (get_or (gone n k miss) q 0) n (gone_data q h l))))
          (λ (l : length (lost n miss) ≤ q).
          own q (omega (arith, hk.count_is)) (omega (arith, hg.count_is)) j hj
          ∙ parity_coef_lem (get_or units q 0 - n) j hj
          ∙ ap (λ (z : ℕ). parity_row n k miss (z - n) j) (held_at hg q h3)
          ∙ sym (pick-false (ltb (get_or (gone n k miss) q 0) n) _ _ (le-ltb (get_or (gone n k miss) q 0) n (gone_parity q h l))))
