-- A turn of the loops that fill rows of coefficients and the units of slots; the flags of a part of a group.
use Rattle.std.specs.Prelude.{◌≡◌, refl, Bool, true, false, not, List, [], ℕ, zero, suc, ◌+◌, ◌<◌, ◌≤◌, length, get_or, set, take, drop, replicate}
use Rattle.std.proofs.Common.{sym, ap, ◌∙◌, arith, add-zero, not-suc-le-zero, length-set, get_or-set_same, get_or-set_other, length-take-le, length-drop, get_or-take, get_or-drop}
use Rattle.std.proofs.Math.Path.{subst⁻¹}
use mathlib.Core.Bool.{beq}
use Rattle.lists.specs.Pick.{pick, bit, equal_or_not}
use Rattle.lists.specs.Count.{count, count_next}
use Rattle.lists.specs.Those.{those, those_same}
use Rattle.lists.specs.Tabulate.{zero-at, fill_step}
use Rattle.systems.specs.Matrix.{ent}
use Rattle.parity.specs.Matrix.{set_to}

-- ---- entries, one for each slot

-- the entries of the slots below j are f's, and c of those slots are of missing data units
pub record Filled (f : ℕ → ℕ) (miss : ℕ → Bool) (j : ℕ) (row : List ℕ) (c : ℕ) : Type 0 where
  pub len : length row ≡ 16
  pub count_is : c ≡ count miss j
  pub done : (x : ℕ) → x < j → get_or row x 0 ≡ f x

pub filled-none : (f : ℕ → ℕ) (miss : ℕ → Bool) (row : List ℕ) → length row ≡ 16 → Filled f miss 0 row 0
unfolding count
filled-none f miss row e = record { len = e; count_is = refl; done = λ x h. absurd (not-suc-le-zero h) }

module _ {f : ℕ → ℕ} {miss : ℕ → Bool} {j : ℕ} {row : List ℕ} {c : ℕ} (w : Filled f miss j row c) (h : j < 16) {v : ℕ} (e : v ≡ f j) {row' : List ℕ} {c' : ℕ}
    (er : row' ≡ set row j v) where
  filled-turn : c' ≡ c + bit (miss j) → Filled f miss (j + 1) row' c'
  filled-turn ec =
      record {
        len = ap length er ∙ length-set row j v ∙ w.len;
        count_is = ec ∙ ap (λ (x : ℕ). x + bit (miss j)) w.count_is ∙ sym (count_next miss j);
        done = λ x l. ap (λ (z : List ℕ). get_or z x 0) er ∙ fill_step f row j v 0 (omega (arith, w.len)) e w.done x l;
      }

  pub filled-missing : miss j ≡ true → c' ≡ c + 1 → Filled f miss (j + 1) row' c'
  filled-missing t ec = filled-turn (ec ∙ ap (λ (b : Bool). c + bit b) (sym t))

  pub filled-there : miss j ≡ false → c' ≡ c → Filled f miss (j + 1) row' c'
  filled-there t ec = filled-turn (ec ∙ sym (add-zero c) ∙ ap (λ (b : Bool). c + bit b) (sym t))

-- ---- rows, one for each missing unit

-- what holds of each row from a on below i, and of the one that is stored, holds of each below i + 1
pub row_turn : (P : ℕ → List ℕ → Type 0) (rows : List (List ℕ)) (a i : ℕ) (row : List ℕ) → i < length rows → P i row
    → ((q : ℕ) → a ≤ q → q < i → P q (get_or rows q [])) → (q : ℕ) → a ≤ q → q < i + 1 → P q (get_or (set rows i row) q [])
row_turn P rows a i row h p below q low l =
    equal_or_not q i
    (λ (e : q ≡ i). subst⁻¹ (λ (z : ℕ). P z (get_or (set rows i row) z [])) e (subst⁻¹ (P i) (get_or-set_same rows i row [] h) p))
    (λ (n : q ≡ i → ⊥). subst⁻¹ (P q) (get_or-set_other rows i q row [] n) (below q low (omega arith)))

-- the other rows are as they were
pub row_stays : (rows : List (List ℕ)) (i : ℕ) (row : List ℕ) (q : ℕ) → (q ≡ i → ⊥) → get_or (set rows i row) q [] ≡ get_or rows q []
row_stays rows i row q n = get_or-set_other rows i q row [] n

pub row_of_zeros : (q j : ℕ) → ent (replicate 3 (replicate 16 0)) q j ≡ 0
row_of_zeros zero j = zero-at (replicate 16 0) refl j
row_of_zeros (suc zero) j = zero-at (replicate 16 0) refl j
row_of_zeros (suc (suc zero)) j = zero-at (replicate 16 0) refl j
row_of_zeros (suc (suc (suc q))) j = refl

-- ---- the flags of n units from a on

pub part_of_flags : (wanted : Bool) (flags : List Bool) (a n m : ℕ) (f : ℕ → Bool) → m ≡ n → a + n ≤ length flags
    → ((u : ℕ) → u < n → set_to wanted flags (a + u) ≡ f u)
    → those (set_to wanted (take m (drop a flags))) (length (take m (drop a flags))) ≡ those f n
part_of_flags wanted flags a n m f q h e =
    ap (λ (z : ℕ). those (set_to wanted (take z (drop a flags))) (length (take z (drop a flags)))) q
    ∙ ap (those (set_to wanted (take n (drop a flags)))) (length-take-le n (drop a flags) (omega (arith, length-drop a flags)))
    ∙ those_same _ f n
    (λ u l. ap (λ (b : Bool). pick wanted b (not b)) (get_or-take n (drop a flags) u false l ∙ get_or-drop a flags u false) ∙ e u l)

-- the test of the code
pub set_to_test : (wanted b : Bool) → pick wanted b (not b) ≡ beq b wanted
set_to_test true true = refl
set_to_test true false = refl
set_to_test false true = refl
set_to_test false false = refl
