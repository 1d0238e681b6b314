-- `pool_read::read` meets its contract: refused it leaves zeros, accepted the bytes of the file.
use mathlib.Core.Path.{◌≡◌, refl, sym, ◌∙◌}
use mathlib.Core.Bool.{true, false}
use Rattle.std.specs.Prelude.{Result, Ok, Err, is_err}
use Rattle.lists.specs.declared.Refusal.{Refusal}
use Rattle.lists.specs.Numbered.{answer_number}
use Rattle.lists.specs.Pick.{clash}
use Rattle.lists.specs.Refusal.{grant_no, grant_yes}
use Rattle.lists.proofs.Answering.{refused}
use Rattle.pool.specs.Reading.{read_out}
use Rattle.pool.specs.Asked.{range_asked}
use Rattle.pool_read.proofs.read.Goals as goal

accepted : {A : Type 0} (answer : Result A Refusal) → is_err answer ≡ false → answer_number answer ≡ 0
accepted (Ok x) e = refl
accepted (Err x) e = clash true refl e

turned_down : {A : Type 0} (answer : Result A Refusal) → is_err answer ≡ true → answer_number answer ≡ 0 → ⊥
turned_down (Ok x) e z = clash false e refl
turned_down (Err x) e z = refused x z

pub returns-then-is_err : goal.returns-then-is_err
unfolding read_out
returns-then-is_err c = let e = c.check_range-checked.ensures in
    record { answer = e; bytes = c.clear.ensures ∙ sym (grant_no _ _ _ (λ z. turned_down _ (sym c.is_err.ensures.value ∙ c.if-is_err.true) (e ∙ z))) }

pub read_groups-requires : goal.read_groups-requires
read_groups-requires c = range_asked _ _ _ _ _ (sym c.check_range-checked.ensures ∙ accepted _ (sym c.is_err.ensures.value ∙ c.if-is_err.false))

pub returns : goal.returns
unfolding read_out
returns c = let e = sym c.check_range-checked.ensures ∙ accepted _ (sym c.is_err.ensures.value ∙ c.if-is_err.false) in
    record { answer = sym e; bytes = c.read_groups.ensures ∙ sym (grant_yes _ _ _ e) }
