-- `pool_look::show` meets its contract: it shows the part at the place that `locate` answers.
use mathlib.Core.Path.{◌∙◌}
use native.Mathlib.Omega.{arith}
use Rattle.pool_look.specs.Looks.{part-inside, shows_scratch, shows_image}
use Rattle.pool_look.proofs.show.Goals as goal

pub returns-then-x : goal.returns-then-x
returns-then-x c = shows_scratch _ _ _ _ _ _ _ (c.from-x.ensures ∙ c.locate-found.ensures) c.if-x.true

pub overflow_add-result : goal.overflow_add-result
overflow_add-result c =
    omega (arith, part-inside c.args.y c.args.r c.args.image.now c.args.scratch.now c.args.group c.args.content _ (c.from-x.ensures ∙ c.locate-found.ensures))

-- the part lies in the image
pub slice_bounds-result-end : goal.slice_bounds-result-end
slice_bounds-result-end c = part-inside c.args.y c.args.r c.args.image.now c.args.scratch.now c.args.group c.args.content _ (c.from-x.ensures ∙ c.locate-found.ensures)

pub returns : goal.returns
returns c = shows_image _ _ _ _ _ _ _ (c.from-x.ensures ∙ c.locate-found.ensures) c.if-x.false
