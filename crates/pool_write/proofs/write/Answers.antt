-- `pool_write::write` meets its contract: the tests answer, and what they grant is written as one range.
use mathlib.Core.Path.{refl, sym, ◌∙◌}
use Rattle.lists.proofs.Answering.{refused, handed_on}
use Rattle.pool.specs.Asked.{range_asked}
use Rattle.pool_write.specs.Answers.{writes-refused, writes_granted}
use Rattle.pool_write.proofs.write.Goals as goal

pub returns-in_err-check_range : goal.returns-in_err-check_range
returns-in_err-check_range c = let e = c.in_err-check_range.field-0.0 in
    let h = c.from_residual.ensures.1 in
    writes-refused _ _ _ _ _ _ (handed_on _ e h c.in_err-check_range.ensures) (λ z. refused e (sym (handed_on _ e h refl) ∙ z))

pub write_range-requires : goal.write_range-requires
write_range-requires c = range_asked _ _ _ _ _ (sym c.in_ok-check_range.ensures)

pub returns : goal.returns
returns c = writes_granted _ _ _ _ _ _ _ c.in_ok-check_range.ensures refl c.write_range.ensures
