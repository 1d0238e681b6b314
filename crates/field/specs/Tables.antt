-- "tables of powers and logarithms, 256 entries each": the rule of each, and one test over the whole table that shows it.
use Rattle.std.specs.Prelude.{◌≡◌, Bool, true, List, [], ◌∷◌, ℕ, zero, suc, ◌+◌, ◌<◌, eqb, length, get_or}
use Rattle.std.proofs.Common.{sym, ap, ◌∙◌, not-suc-le-zero, le_of_suc-le-suc, add-zero, zero-add, add-suc, suc-add, arith, eqb-true}
use Rattle.lists.specs.Pick.{both, both_true}
use Rattle.field.specs.Byte.{double}
use Rattle.field.specs.Powers.{power}

-- entry n of a table of powers is 2 to the n
pub record Powers (t : List ℕ) : Type 0 where
  pub power_at : (n : ℕ) → n < 256 → get_or t n 0 ≡ power n

-- in a table of logarithms that of each power is its index, for all 255
pub record Logs (t : List ℕ) : Type 0 where
  pub index_at : (n : ℕ) → n < 255 → get_or t (power n) 0 ≡ n

abbrev pub Tables : List ℕ → List ℕ → Type 0
Tables powers logs = Powers powers × Logs logs

-- ---- powers: the first entry is x, and each next is twice the one before

unfoldable pub doubles : ℕ → List ℕ → Bool
doubles x [] = true
doubles x (y ∷ ys) = both (eqb y x) (doubles (double x) ys)

doubles-at : (l : List ℕ) (m : ℕ) → doubles (power m) l ≡ true → (n : ℕ) → n < length l → get_or l n 0 ≡ power (m + n)
unfolding doubles power
doubles-at [] m t n h = absurd (not-suc-le-zero h)
doubles-at (y ∷ ys) m t zero h = eqb-true y (power m) (both_true (eqb y (power m)) (doubles (double (power m)) ys) t).0 ∙ ap power (sym (add-zero m))
doubles-at (y ∷ ys) m t (suc n) h =
    doubles-at ys (suc m) (both_true (eqb y (power m)) (doubles (double (power m)) ys) t).1 n (le_of_suc-le-suc h)
    ∙ ap power (suc-add m n ∙ sym (add-suc m n))

pub powers_by_test : (t : List ℕ) → length t ≡ 256 → doubles 1 t ≡ true → Powers t
unfolding power
powers_by_test t l d = record { power_at = λ n h. doubles-at t 0 d n (omega (arith, l)) ∙ ap power (zero-add n) }

-- ---- logarithms: at x, at twice x and so on, k in all, stand n, n + 1 and so on

unfoldable pub indexed : List ℕ → ℕ → ℕ → ℕ → Bool
indexed t zero n x = true
indexed t (suc k) n x = both (eqb (get_or t x 0) n) (indexed t k (suc n) (double x))

indexed-at : (t : List ℕ) (k m : ℕ) → indexed t k m (power m) ≡ true → (n : ℕ) → n < k → get_or t (power (m + n)) 0 ≡ m + n
unfolding indexed power
indexed-at t zero m e n h = absurd (not-suc-le-zero h)
indexed-at t (suc k) m e zero h =
    ap (λ (x : ℕ). get_or t (power x) 0) (add-zero m)
    ∙ eqb-true (get_or t (power m) 0) m (both_true (eqb (get_or t (power m) 0) m) (indexed t k (suc m) (double (power m))) e).0 ∙ sym (add-zero m)
indexed-at t (suc k) m e (suc n) h =
    ap (λ (x : ℕ). get_or t (power x) 0) (sym same)
    ∙ indexed-at t k (suc m) (both_true (eqb (get_or t (power m) 0) m) (indexed t k (suc m) (double (power m))) e).1 n (le_of_suc-le-suc h) ∙ same
  where
    same : suc m + n ≡ m + suc n
    same = suc-add m n ∙ sym (add-suc m n)

pub logs_by_test : (t : List ℕ) → indexed t 255 0 1 ≡ true → Logs t
unfolding power
logs_by_test t e =
    record { index_at = λ n h. ap (λ (x : ℕ). get_or t (power x) 0) (sym (zero-add n)) ∙ indexed-at t 255 0 e n h ∙ zero-add n }

-- ---- the logarithm of a byte other than 0 gives the byte back: 255 powers that differ are all of them
