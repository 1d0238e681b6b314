-- `trace::has_form` meets its contract: kind by kind, the widths are those of the form.
use Prim.Native.Nat.{ℕ, ◌*◌}
use mathlib.Core.Path.{sym, ap, ◌∙◌}
use mathlib.Core.List.{[], ◌∷◌}
use Rattle.trace.specs.Fields.{fields_at}
use Rattle.trace.specs.Forms.{byte_count}
use Rattle.trace.specs.FormLaws.{form_write, form_fail, form_repair, form_read}
use Rattle.trace.specs.Kinds.{number_of}
use Rattle.trace.proofs.has_form.Goals as goal

pub returns-in-Write : goal.returns-in-Write
returns-in-Write c = let line = c.args.line.now in
    c.has_fields.ensures
    ∙ ap (λ (n : ℕ). fields_at line 0 (2 ∷ 16 ∷ 2 * n ∷ [])) c.byte_count-digits.ensures
    ∙ ap (fields_at line 0) (sym (form_write (byte_count line) _ (ap number_of c.in-Write.is)))

pub returns-in-Fail : goal.returns-in-Fail
returns-in-Fail c = c.has_fields-in-Fail.ensures ∙ ap (fields_at c.args.line.now 0) (sym (form_fail (byte_count c.args.line.now) _ (ap number_of c.in-Fail.is)))

pub returns-in-Repair : goal.returns-in-Repair
returns-in-Repair c = c.has_fields-in-Repair.ensures ∙ ap (fields_at c.args.line.now 0) (sym (form_repair (byte_count c.args.line.now) _ (ap number_of c.in-Repair.is)))

pub returns-in-Read : goal.returns-in-Read
returns-in-Read c = c.has_fields-in-Read.ensures ∙ ap (fields_at c.args.line.now 0) (sym (form_read (byte_count c.args.line.now) _ (ap number_of c.in-Read.is)))
