-- What the functions on small systems show, one lemma for each return or turn.
use Rattle.std.specs.Prelude.{◌≡◌, Bool, true, false, not, List, [], ◌∷◌, ◌++◌, ℕ, ◌+◌, ◌<◌, ◌≤◌, length, get_or, set}
use Rattle.std.proofs.Math.Path.{refl, ap, subst⁻¹}
use Rattle.std.proofs.Common.{sym, ap₂, ◌∙◌, not-suc-le-zero, le_of_suc-le-suc, add-one, arith, lit<, length-append}
use Rattle.std.specs.Int.Bits.{bit_xor}
use Rattle.std.proofs.Math.ListN.{get_or-eq_default}
use Rattle.lists.specs.Pick.{pick, pick-false, below_or_not}
use Rattle.lists.specs.Count.{count}
use Rattle.lists.specs.Those.{those, length-those, those-place}
use Rattle.field.specs.Byte.{◌⊕◌, mul}
use Rattle.systems.specs.Coef.{coef}
use Rattle.systems.specs.Cramer.{three}
use Rattle.systems.specs.Matrix.{ent, three_of, dot_of}
use Rattle.parity.specs.Matrix.{pad3, Holds, slot_coef, parity_coef}

-- ---- numbers in an array of three

-- an entry of an array that holds numbers below m: 0 where there are fewer
pub held-lt : (l at : List ℕ) (d m : ℕ) → Holds l at d → 0 < m → ((c : ℕ) → c < length l → get_or l c 0 < m) → (r : ℕ) → r < 3 → get_or at r 0 < m
held-lt l at d m h p b r k =
    subst⁻¹ (λ (x : ℕ). x < m) (ap (λ (z : List ℕ). get_or z r 0) h.at_is ∙ three (λ (r : ℕ). get_or (pad3 l) r 0 ≡ get_or l r 0) refl refl refl r k)
    (below_or_not r (length l) (λ (i : r < length l). b r i) (λ (i : length l ≤ r). subst⁻¹ (λ (x : ℕ). x < m) (get_or-eq_default l 0 i) p))

-- ---- coefficients, from rows of them that are looked up once for all slots

-- the coefficient of slot j, where `lines` has the rows of the parity units
abbrev pub slot_from : List ℕ → List (List ℕ) → Bool → ℕ → ℕ → ℕ
slot_from w lines missing c j = pick missing (get_or w c 0) (dot_of w (three_of (λ r. ent lines r j)))

pub slot_by_lines : (w is : List ℕ) (lines : List (List ℕ)) (missing : Bool) (c j : ℕ) → ((r : ℕ) → r < 3 → ent lines r j ≡ coef (get_or is r 0) j)
    → slot_from w lines missing c j ≡ slot_coef w is missing c j
unfolding slot_coef
slot_by_lines w is lines missing c j e = ap (pick missing (get_or w c 0)) (ap₂ ◌⊕◌ (term 0 (lit< tt)) (ap₂ ◌⊕◌ (term 1 (lit< tt)) (term 2 (lit< tt))))
  where
    term : (r : ℕ) → r < 3 → mul (get_or w r 0) (ent lines r j) ≡ mul (get_or w r 0) (coef (get_or is r 0) j)
    term r h = ap (mul (get_or w r 0)) (e r h)

-- the coefficient of slot j in a parity unit whose row is `own`, where `across` has its coefficients of the lost units
abbrev pub parity_from : List ℕ → List ℕ → List (List ℕ) → Bool → ℕ → ℕ
parity_from own across lines missing j = pick missing 0 (get_or own j 0) ⊕ dot_of across (three_of (λ r. ent lines r j))

pub parity_by_rows : (ks own across : List ℕ) (lines : List (List ℕ)) (missing : Bool) (i j : ℕ) → get_or own j 0 ≡ coef i j
    → across ≡ three_of (λ c. coef i (get_or ks c 0)) → parity_from own across lines missing j ≡ parity_coef ks (three_of (λ r. ent lines r j)) missing i j
unfolding parity_coef
parity_by_rows ks own across lines missing i j eo ea =
    ap₂ ◌⊕◌ (ap (pick missing 0) eo) (ap (λ (l : List ℕ). dot_of l (three_of (λ r. ent lines r j))) ea)

pub parity_coef_made : (missing : Bool) (own : ℕ) {k d x : ℕ} → k ≡ pick (not missing) own 0 → d ≡ x → bit_xor k d ≡ pick missing 0 own ⊕ x
unfolding ◌⊕◌
parity_coef_made missing own ek ed = ap₂ bit_xor (ek ∙ turned missing) ed
  where
    turned : (t : Bool) → pick (not t) own 0 ≡ pick t 0 own
    turned true = refl
    turned false = refl

module _ (missing : Bool) (own : ℕ) {x y : ℕ} (e : x ≡ y) where
  pub parity_coef_missing : missing ≡ true → x ≡ pick missing 0 own ⊕ y
  unfolding ◌⊕◌
  parity_coef_missing t = e ∙ ap (λ (z : Bool). bit_xor (pick z 0 own) y) (sym t)

  pub parity_coef-there : missing ≡ false → bit_xor own x ≡ pick missing 0 own ⊕ y
  unfolding ◌⊕◌
  parity_coef-there t = ap₂ bit_xor (sym (pick-false missing 0 own t)) e

-- ---- the search for at most three numbers that pass a test

-- one more number at the end
pad3_snoc : (l : List ℕ) (n : ℕ) → length l < 3 → set (pad3 l) (length l) n ≡ pad3 (l ++ n ∷ [])
pad3_snoc [] n h = refl
pad3_snoc (a ∷ []) n h = refl
pad3_snoc (a ∷ b ∷ []) n h = refl
pad3_snoc (a ∷ b ∷ c ∷ l) n h = absurd (not-suc-le-zero (le_of_suc-le-suc (le_of_suc-le-suc (le_of_suc-le-suc h))))

pub held : {l found at : List ℕ} {d count : ℕ} → at ≡ found → count ≡ d → Holds l found d → Holds l at count
held p q h = record { count_is = q ∙ h.count_is; at_is = p ∙ h.at_is }

module _ (b : ℕ → Bool) where
  pub found-start : Holds (those b 0) (0 ∷ 0 ∷ 0 ∷ []) 0
  unfolding those
  found-start = record { count_is = refl; at_is = refl }

  module _ (j d : ℕ) (found : List ℕ) (h : Holds (those b j) found d) where
    pub found-one : b j ≡ true → d < 3 → Holds (those b (j + 1)) (set found d j) (d + 1)
    found-one t l =
        record {
          count_is = ap (◌+ 1) h.count_is ∙ sym (ap length more ∙ length-append (those b j) (j ∷ []));
          at_is = ap₂ (λ (l : List ℕ) (k : ℕ). set l k j) h.at_is h.count_is
              ∙ pad3_snoc (those b j) j (subst⁻¹ (λ (x : ℕ). x < 3) (sym h.count_is) l) ∙ ap pad3 (sym more);
        }
      where
        more : those b (j + 1) ≡ those b j ++ j ∷ []
        more = ap (those b) (add-one j) ∙ unfold those in ap (λ (x : Bool). pick x (those b j ++ j ∷ []) (those b j)) t

    pub found_none : b j ≡ false → Holds (those b (j + 1)) found d
    found_none t =
        record { count_is = h.count_is ∙ ap length (sym same); at_is = h.at_is ∙ ap pad3 (sym same) }
      where
        same : those b (j + 1) ≡ those b j
        same = ap (those b) (add-one j) ∙ unfold those in ap (λ (x : Bool). pick x (those b j ++ j ∷ []) (those b j)) t

  -- the rank of a number that passes, among at most three
  pub rank_lt : (n j : ℕ) {c : ℕ} → c ≡ count b j → j < n → b j ≡ true → length (those b n) ≤ 3 → c < 3
  rank_lt n j e h t l = omega (arith, (those-place b n j h t).0)

  -- there is room for one more
  pub room : (n j : ℕ) {d : ℕ} → d ≡ length (those b j) → j < n → b j ≡ true → length (those b n) ≤ 3 → d < 3
  room n j e h t l = omega (arith, length-those b j, (those-place b n j h t).0)
