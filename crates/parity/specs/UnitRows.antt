-- The three rows of the missing units, each by its number among them: of a lost data unit, or of a parity unit.
use Rattle.std.specs.Prelude.{◌≡◌, Bool, List, [], ◌∷◌, ℕ, ◌+◌, ◌-◌, ◌<◌, ◌≤◌, ltb, length, get_or}
use Rattle.std.proofs.Math.Path.{sym, ap}
use Rattle.std.proofs.Common.{◌∙◌, le_trans, arith, lit<, lt-ltb, le-ltb}
use Rattle.lists.specs.Pick.{pick_true, pick-false, below_or_not}
use Rattle.lists.specs.Those.{those_rank}
use Rattle.systems.specs.Cramer.{three, inverse}
use Rattle.systems.specs.System.{system_entry}
use Rattle.systems.specs.Matrix.{ent, square_of}
use Rattle.parity.specs.Group.{Solvable, lost, there, gone}
use Rattle.parity.specs.Rows.{data_row, parity_row, row_of}
use Rattle.parity.specs.Matrix.{Holds, lost_coef, unit_coef, RowsFor}
use Rattle.parity.specs.Made.{gone_most, gone_data, gone_parity, held_at, lost-coef, parity_coef_lem}

module _ (n k : ℕ) (miss : ℕ → Bool) (s : Solvable n k miss) {is ks : List ℕ} {e d : ℕ}
    (hi : Holds (there n k miss) is e) (hk : Holds (lost n miss) ks d) (m₀ m : List (List ℕ))
    (em₀ : m₀ ≡ square_of (system_entry is ks d)) (em : m ≡ square_of (inverse (ent m₀)))
    (lines : List (List ℕ)) (el : (c : ℕ) → c < 3 → (j : ℕ) → j < n → ent lines c j ≡ lost_coef m is d miss c j)
    {units : List ℕ} {total : ℕ} (hg : Holds (gone n k miss) units total) where
  unit_coef_lem : (q : ℕ) → q < 3 → q < length (gone n k miss) → (j : ℕ) → j < n
      → unit_coef ks d lines total (miss j) q (get_or units q 0 - n) j ≡ row_of n k miss (get_or (gone n k miss) q 0) j
  unfolding unit_coef row_of
  unit_coef_lem q h3 h j hj =
      below_or_not q (length (lost n miss))
      (λ (l : q < length (lost n miss)).
      pick_true (ltb q d) _ _ (lt-ltb q d (omega (arith, hk.count_is)))
      ∙ el q h3 j hj ∙ lost-coef n k miss s hi hk m₀ m em₀ em q h3 j hj ∙ pick_true (ltb q (length (lost n miss))) _ 0 (lt-ltb q (length (lost n miss)) l)
      ∙ ap (λ (z : ℕ). data_row n k miss z j) (sym (those_rank miss (n + k) q h))
      ∙ sym (pick_true (ltb (get_or (gone n k miss) q 0) n) _ _ (lt-ltb (get_or (gone n k miss) q 0) n (gone_data n k miss s q h l))))
      (λ (l : length (lost n miss) ≤ q).
      pick-false (ltb q d) _ _ (le-ltb q d (omega (arith, hk.count_is)))
      ∙ pick_true (ltb q total) _ 0 (lt-ltb q total (omega (arith, hg.count_is)))
      ∙ parity_coef_lem n k miss s hi hk m₀ m em₀ em lines el (get_or units q 0 - n) j hj
      ∙ ap (λ (z : ℕ). parity_row n k miss (z - n) j) (held_at hg q h3)
      ∙ sym (pick-false (ltb (get_or (gone n k miss) q 0) n) _ _ (le-ltb (get_or (gone n k miss) q 0) n (gone_parity n k miss s q h l))))

  -- the three rows
  pub rows_made : (x y z : List ℕ)
      → ((j : ℕ) → j < n → get_or x j 0 ≡ unit_coef ks d lines total (miss j) 0 (get_or units 0 0 - n) j)
      → ((j : ℕ) → j < n → get_or y j 0 ≡ unit_coef ks d lines total (miss j) 1 (get_or units 1 0 - n) j)
      → ((j : ℕ) → j < n → get_or z j 0 ≡ unit_coef ks d lines total (miss j) 2 (get_or units 2 0 - n) j)
      → RowsFor n k miss (x ∷ y ∷ z ∷ [])
  rows_made x y z ex ey ez q h =
      three (λ (q : ℕ). q < length (gone n k miss) → (j : ℕ) → j < n → ent (x ∷ y ∷ z ∷ []) q j ≡ row_of n k miss (get_or (gone n k miss) q 0) j)
      (λ g j l. ex j l ∙ unit_coef_lem 0 (lit< tt) g j l) (λ g j l. ey j l ∙ unit_coef_lem 1 (lit< tt) g j l) (λ g j l. ez j l ∙ unit_coef_lem 2 (lit< tt) g j l)
      q (le_trans h (gone_most n k miss s)) h
