-- What a `?` does to the numbers of answers: it hands the refusal of its call on.
use Rattle.std.specs.Prelude.{◌≡◌, ℕ, Result, Ok, Err}
use Rattle.std.specs.Result.{IsErrAnd}
use Rattle.std.proofs.Common.{ap, ◌∙◌, arith}
use Rattle.lists.specs.declared.Refusal.{Refusal}
use Rattle.lists.specs.declared.Refusal.TheVariants.{Layout, ImageLength, Record, Outside, BufferLength, FailedAlready, Dud, TooManyMissing, BadCatalogue, Full, NotThere, WrongLine, BadTrace, WrongCount, BadPlan, NotRepaired, UnknownEdition}
use Rattle.lists.specs.Numbered.{refusal_number, answer_number}

-- no refusal has the number 0
pub refused : (e : Refusal) → refusal_number e ≡ 0 → ⊥
refused Layout h = omega (arith, h)
refused ImageLength h = omega (arith, h)
refused Record h = omega (arith, h)
refused Outside h = omega (arith, h)
refused BufferLength h = omega (arith, h)
refused FailedAlready h = omega (arith, h)
refused Dud h = omega (arith, h)
refused TooManyMissing h = omega (arith, h)
refused BadCatalogue h = omega (arith, h)
refused Full h = omega (arith, h)
refused NotThere h = omega (arith, h)
refused WrongLine h = omega (arith, h)
refused BadTrace h = omega (arith, h)
refused WrongCount h = omega (arith, h)
refused BadPlan h = omega (arith, h)
refused NotRepaired h = omega (arith, h)
refused UnknownEdition h = omega (arith, h)

-- what is handed on has the number that the call found
pub handed_on : {A : Type 0} (r : Result A Refusal) (e : Refusal) {n : ℕ} → IsErrAnd r (λ y. y ≡ e) → refusal_number e ≡ n → answer_number r ≡ n
handed_on (Ok x) e h p = absurd h
handed_on (Err y) e h p = ap refusal_number h ∙ p

-- and what is made of the answer is what is made of that refusal
pub handed_by : {A B : Type 0} (f : Result A Refusal → B) (r : Result A Refusal) (e : Refusal) {b : B} → IsErrAnd r (λ y. y ≡ e) → f (Err e) ≡ b → f r ≡ b
handed_by f (Ok x) e h p = absurd h
handed_by f (Err y) e h p = ap (λ z. f (Err z)) h ∙ p
