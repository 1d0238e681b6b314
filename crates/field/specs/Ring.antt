-- The sum and the product as operations that do not compute on variables, with their laws, and the set by which `simp` settles
-- an equation of sums of products: it multiplies out, sorts, and takes pairs of equal terms away.
use Rattle.std.specs.Prelude.{◌≡◌, refl, ℕ, ◌<◌}
use Rattle.std.proofs.lemmas.Nat.{xor_comm, xor_lt}
use Rattle.std.specs.Int.Bits.{xor_self, xor_zero_r}
use Rattle.field.specs.Byte.{◌⊕◌, mul}
use Rattle.field.specs.Xor.{xor_assoc, xor-left_comm, xor_cancel}
use Rattle.field.specs.Laws.{mul-xor}

pub ⊕-comm : (a b : ℕ) → a ⊕ b ≡ b ⊕ a
unfolding ◌⊕◌
⊕-comm a b = xor_comm a b

pub ⊕-assoc : (a b c : ℕ) → (a ⊕ b) ⊕ c ≡ a ⊕ (b ⊕ c)
unfolding ◌⊕◌
⊕-assoc a b c = xor_assoc a b c

pub ⊕-left-comm : (a b c : ℕ) → a ⊕ (b ⊕ c) ≡ b ⊕ (a ⊕ c)
unfolding ◌⊕◌
⊕-left-comm a b c = xor-left_comm a b c

pub ⊕-self : (a : ℕ) → a ⊕ a ≡ 0
unfolding ◌⊕◌
⊕-self a = xor_self a

pub ⊕-cancel : (a b : ℕ) → a ⊕ (a ⊕ b) ≡ b
unfolding ◌⊕◌
⊕-cancel a b = xor_cancel a b

pub ⊕-zero : (a : ℕ) → a ⊕ 0 ≡ a
unfolding ◌⊕◌
⊕-zero a = xor_zero_r a

pub zero_⊕ : (a : ℕ) → 0 ⊕ a ≡ a
unfolding ◌⊕◌
zero_⊕ a = refl

pub ⊕-lt : (a b : ℕ) → a < 256 → b < 256 → a ⊕ b < 256
unfolding ◌⊕◌
⊕-lt a b ha hb = xor_lt 8 a b ha hb

pub mul_⊕ : (a b c : ℕ) → mul a (b ⊕ c) ≡ mul a b ⊕ mul a c
unfolding ◌⊕◌
mul_⊕ a b c = mul-xor a b c
