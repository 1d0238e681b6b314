-- `settings::edition_of` meets its contract: by the version.
use mathlib.Core.Path.{sym, ◌∙◌}
use native.Mathlib.Omega.{arith}
use Rattle.settings.specs.LineLaws.{form_room, form_second}
use Rattle.settings.proofs.edition_of.Goals as goal

pub number_at-requires : goal.number_at-requires
number_at-requires c = let h = form_room c.args.line.now c.requires in (omega (arith, h), omega arith)

pub number_at-requires-in-2 : goal.number_at-requires-in-2
number_at-requires-in-2 c = let l = c.args.line.now in
    let h = form_second l c.requires (sym c.number_at.ensures ∙ c.in-2.is) in
    (omega (arith, h), omega arith)
