-- "tables of powers and logarithms, 256 entries each": the rule of each, and one test over the whole table that shows it.
use Rattle.std.specs.Prelude.{◌≡◌, List, ℕ, suc, ◌-◌, ◌<◌, get_or}
use Rattle.std.proofs.Common.{ap, ◌∙◌, subst, arith}
use Rattle.lists.specs.Bijection.{Bijection, undone_is_bijection}
use Rattle.field.specs.Powers.{power}
use Rattle.field.proofs.PowersLaws.{power-lt, power_pos}
use Rattle.field.specs.Tables.{Logs}

module _ (t : List ℕ) (logs : Logs t) where
  all_bytes : Bijection 255 (λ n. power n - 1) (λ a. get_or t (suc a) 0)
  all_bytes =
      undone_is_bijection 255 (λ n. power n - 1) (λ a. get_or t (suc a) 0) (λ n h. omega (arith, power-lt n, power_pos n))
      (λ n h. let e : suc (power n - 1) ≡ power n = omega (arith, power_pos n) in ap (λ (x : ℕ). get_or t x 0) e ∙ logs.index_at n h)

  pub log_power : (a : ℕ) → 0 < a → a < 256 → (get_or t a 0 < 255) × (power (get_or t a 0) ≡ a)
  log_power a p h = subst (λ (x : ℕ). (get_or t x 0 < 255) × (power (get_or t x 0) ≡ x)) e (all_bytes.from (a - 1) (omega arith), back)
    where
      e : suc (a - 1) ≡ a
      e = omega arith

      back : power (get_or t (suc (a - 1)) 0) ≡ suc (a - 1)
      back = let b = all_bytes.forth (a - 1) (omega arith) in omega (arith, b, power_pos (get_or t (suc (a - 1)) 0))
