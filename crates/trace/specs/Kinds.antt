-- The kinds of events, and the number that a line names each by.
use Rattle.std.specs.Prelude.{◌≡◌, ℕ, Option, Some, None, Result, MatchResult}
use Rattle.trace.specs.declared.Kind.{Kind}
use Rattle.trace.specs.declared.Kind.TheVariants.{Write, Fail, Repair, Read}
use Rattle.trace.specs.declared.UnknownKind.{UnknownKind}

abbrev pub number_of : Kind → ℕ
number_of Write = 1
number_of Fail = 2
number_of Repair = 3
number_of Read = 4

-- 0 for none
abbrev pub kind_number : Option Kind → ℕ
kind_number None = 0
kind_number (Some kind) = number_of kind

-- no kind has the number
abbrev pub NoKind : ℕ → Type 0
NoKind number = (number ≡ 1 → ⊥) × (number ≡ 2 → ⊥) × (number ≡ 3 → ⊥) × (number ≡ 4 → ⊥)

-- the kind that has the number, or an error where none has it
abbrev pub NamesKind : ℕ → Result Kind UnknownKind → Type 0
NamesKind number r = MatchResult r (λ kind. number_of kind ≡ number) (λ _. NoKind number)
