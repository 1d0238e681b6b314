-- `settings::add` meets its contract: refused with nothing changed, or the line put after the used part.
use native.Mathlib.Omega.{arith}
use lib.ListN.{length}
use Rattle.std.proofs.Common.{◌≡◌, ℕ, refl, sym, ◌∙◌, ap}
use Rattle.std.proofs.Math.Dec.{eqb}
use Rattle.lists.specs.Pick.{pick}
use Rattle.settings.specs.LineLaws.{fields_taken, fields_few, fields_fit}
use Rattle.settings.specs.CallLaws.{add_room, adds_fields}
use Rattle.settings.proofs.Handed.{adds_err}
use Rattle.settings.proofs.add.Goals as goal
use Rattle.settings.proofs.add.Goals.{After-field_count}

-- how many fields the version of the call has
count : (c : After-field_count) → c.field_count.result ≡ pick (eqb c.args.version 2) 8 7
count c = c.field_count.ensures ∙ ap (λ (n : ℕ). pick (eqb n 2) 8 7) c.in_ok-known.ensures.0

pub write_fields-end-requires : goal.write_fields-end-requires
write_fields-end-requires c = let a = c.args in
    let room = add_room a.version a.y (length a.buffer.now) a.used refl (sym c.in_ok-known.ensures.1) in
    (fields_few a.version (count (goal.at.write_fields-end-requires c).After-field_count), fields_fit _ a.version a.y (count (goal.at.write_fields-end-requires c).After-field_count) refl (omega (arith, room)))

pub returns : goal.returns
returns c = let a = c.args in
    adds_fields a.version a.y a.buffer.now a.used c.in_ok-known.ensures.1 refl
    (fields_taken a.version (count (goal.at.returns c).After-field_count) refl) c.write_fields-end.ensures.0 c.write_fields-end.ensures.1

pub returns-in_err-known : goal.returns-in_err-known
returns-in_err-known c = let a = c.args in
    adds_err a.version a.y a.buffer.now a.used _ c.in_err-known.field-0.0 c.from_residual.ensures.1 c.in_err-known.ensures
