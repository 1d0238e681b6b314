-- `replay_line::first` meets its contract: each return is what the tests that led there say.
use mathlib.Core.Path.{refl, sym, ◌∙◌}
use native.Mathlib.Omega.{arith}
use Rattle.lists.specs.declared.Refusal.TheVariants.{BadTrace}
use Rattle.lists.proofs.Answering.{refused}
use Rattle.numbers.specs.Refused.{good-layout}
use Rattle.replay_line.specs.FirstLaws.{layout-length, first_malformed_lem, first_bad, first_large, first_good}
use Rattle.replay_line.proofs.FirstLaws.{first_refused, first_handed, first_told}
use Rattle.replay_line.proofs.first.Goals as goal

pub returns-then-not-is_layout : goal.returns-then-not-is_layout
returns-then-not-is_layout c = first_refused c.args.line.now BadTrace (first_malformed_lem c.args.line.now (sym c.is_layout.ensures ∙ c.if-not-is_layout.true))

pub layout_at-layout-requires : goal.layout_at-layout-requires
layout_at-layout-requires c = let l = layout-length c.args.line.now (sym c.is_layout.ensures ∙ c.if-not-is_layout.false) in omega (arith, l)

pub returns-in_err-check : goal.returns-in_err-check
returns-in_err-check c =
    first_handed c.args.line.now _ c.in_err-check.field-0.0 c.from_residual.ensures.1
    (first_bad c.args.line.now (sym c.is_layout.ensures ∙ c.if-not-is_layout.false) c.layout_at-layout.ensures c.in_err-check.ensures (refused _))

pub numbers_of-m-requires : goal.numbers_of-m-requires
numbers_of-m-requires c = good-layout _ c.in_ok-check.ensures refl

pub returns-then-m-gt32768 : goal.returns-then-m-gt32768
returns-then-m-gt32768 c =
    first_refused c.args.line.now BadTrace
    (first_large c.args.line.now (sym c.is_layout.ensures ∙ c.if-not-is_layout.false) c.layout_at-layout.ensures (good-layout _ c.in_ok-check.ensures refl)
    c.numbers_of-m.ensures.image_is c.if-m-gt32768.true)

pub returns : goal.returns
returns c =
    first_told c.args.line.now
    (first_good c.args.line.now (sym c.is_layout.ensures ∙ c.if-not-is_layout.false) c.layout_at-layout.ensures (good-layout _ c.in_ok-check.ensures refl)
    c.numbers_of-m.ensures.image_is (omega arith))
    c.layout_at-layout.ensures c.numbers_of-m.ensures.image_is
