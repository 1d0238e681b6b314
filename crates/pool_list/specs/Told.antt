-- The numbers by which C knows the answer of a list: of its refusal, 0 where it is accepted, and of the range, 0 where there is none.
use Rattle.std.specs.Prelude.{ℕ, Result, Ok, Err}
use Rattle.std.specs.Option.{unwrap_or}
use Rattle.lists.specs.Numbered.{refusal_number}
use Rattle.pool_list.specs.declared.ListRefusal.{ListRefusal}

abbrev pub told_refusal : {A : Type 0} → Result A ListRefusal → ℕ
told_refusal (Ok x) = 0
told_refusal (Err e) = refusal_number e.refusal

abbrev pub told_range : {A : Type 0} → Result A ListRefusal → ℕ
told_range (Ok x) = 0
told_range (Err e) = unwrap_or e.range 0
