-- The sum and the product as operations that do not compute on variables, with their laws, and the set by which `simp` settles
-- an equation of sums of products: it multiplies out, sorts, and takes pairs of equal terms away.
use Rattle.std.specs.Prelude.{◌≡◌, ℕ}
use Rattle.field.specs.Byte.{◌⊕◌, mul}
use Rattle.field.specs.Laws.{mul-xor, mul-zero}
use Rattle.field.proofs.Laws.{mul_comm, mul_assoc, mul_left_comm, xor-mul, zero-mul}
use Rattle.field.specs.Ring.{⊕-comm, ⊕-assoc, ⊕-left-comm, ⊕-self, ⊕-cancel, ⊕-zero, zero_⊕, mul_⊕}

pub ⊕-mul : (a b c : ℕ) → mul (a ⊕ b) c ≡ mul a c ⊕ mul b c
unfolding ◌⊕◌
⊕-mul a b c = xor-mul a b c

pub ruleset ring = (⊕-comm, ⊕-assoc, ⊕-left-comm, ⊕-self, ⊕-cancel, ⊕-zero, zero_⊕, mul_comm, mul_assoc, mul_left_comm, mul_⊕, ⊕-mul, mul-zero, zero-mul)
