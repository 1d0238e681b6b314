-- The numbers by which the documents and C know the refusals.
use Rattle.std.specs.Prelude.{ℕ, Result, Ok, Err}
use Rattle.lists.specs.declared.Refusal.{Refusal}
use Rattle.lists.specs.declared.Refusal.TheVariants.{Layout, ImageLength, Record, Outside, BufferLength, FailedAlready, Dud, TooManyMissing, BadCatalogue, Full, NotThere, WrongLine, BadTrace, WrongCount, BadPlan, NotRepaired, UnknownEdition}

abbrev pub refusal_number : Refusal → ℕ
refusal_number Layout = 1
refusal_number ImageLength = 2
refusal_number Record = 3
refusal_number Outside = 4
refusal_number BufferLength = 5
refusal_number FailedAlready = 6
refusal_number Dud = 7
refusal_number TooManyMissing = 8
refusal_number BadCatalogue = 9
refusal_number Full = 10
refusal_number NotThere = 11
refusal_number WrongLine = 12
refusal_number BadTrace = 13
refusal_number WrongCount = 14
refusal_number BadPlan = 15
refusal_number NotRepaired = 16
refusal_number UnknownEdition = 17

-- the number of a call's answer: 0 where it is accepted
abbrev pub answer_number : {A : Type 0} → Result A Refusal → ℕ
answer_number (Ok x) = 0
answer_number (Err e) = refusal_number e
