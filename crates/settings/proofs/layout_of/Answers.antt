-- `settings::layout_of` meets its contract: the six numbers, and the edition.
use native.Mathlib.Omega.{arith}
use Rattle.settings.specs.Settings.{setting_layout}
use Rattle.settings.specs.LineLaws.{form_room}
use Rattle.settings.proofs.layout_of.Goals as goal

pub layout_at-requires : goal.layout_at-requires
layout_at-requires c = let h = form_room c.args.line.now c.requires in omega (arith, h)

pub returns : goal.returns
unfolding setting_layout
returns c = λ i.
    let six = c.layout_at.ensures i in
    record { n = six.n; k = six.k; p = six.p; u = six.u; t = six.t; cookie = six.cookie; edition = c.edition_of.ensures i }
