-- `settings::check_adding` meets its contract: each return is what the tests that led there say.
use mathlib.Core.Path.{subst}
use Prim.Native.Nat.{ℕ, ◌-◌, ◌<◌, ◌≤◌}
use native.Mathlib.Omega.{arith}
use Rattle.std.proofs.Common.{refl, ◌∙◌, ap}
use Rattle.lists.proofs.Answering.{refused}
use Rattle.numbers.specs.Refused.{good-layout}
use Rattle.settings.specs.Version.{version_known}
use Rattle.settings.specs.LineLaws.{line_long}
use Rattle.settings.specs.CallLaws.{add-bad, add_unknown, add_edition, add_outside, add_full, add-good}
use Rattle.settings.proofs.Handed.{why_as}
use Rattle.settings.proofs.check_adding.Goals as goal

pub returns-in_err-check : goal.returns-in_err-check
returns-in_err-check c =
    why_as c.args.version c.args.y c.args.room c.args.used _ c.in_err-check.field-0.0 c.from_residual.ensures.1 (add-bad c.args.version c.args.y c.args.room c.args.used c.in_err-check.ensures (refused _))

pub returns-in_err-known : goal.returns-in_err-known
returns-in_err-known c =
    why_as c.args.version c.args.y c.args.room c.args.used _ c.in_err-known.field-0.0 c.from_residual-in_err-known.ensures.1
    (c.in_err-known.ensures.0 ∙ add_unknown c.args.version c.args.y c.args.room c.args.used (good-layout c.args.y c.in_ok-check.ensures refl) c.in_err-known.ensures.1)

pub returns-then-version-y : goal.returns-then-version-y
returns-then-version-y c =
    add_edition c.args.version c.args.y c.args.room c.args.used (good-layout c.args.y c.in_ok-check.ensures refl) (version_known _ c.in_ok-known.ensures) c.if-version-y.true

pub returns-then-room-used : goal.returns-then-room-used
returns-then-room-used c =
    add_outside c.args.version c.args.y c.args.room c.args.used (good-layout c.args.y c.in_ok-check.ensures refl) (version_known _ c.in_ok-known.ensures)
    (omega arith) c.if-room-used.true

pub returns-then-room-used-2 : goal.returns-then-room-used-2
returns-then-room-used-2 c =
    add_full c.args.version c.args.y c.args.room c.args.used (good-layout c.args.y c.in_ok-check.ensures refl) (version_known _ c.in_ok-known.ensures)
    (omega arith) (omega arith)
    (subst (λ (n : ℕ). c.args.room - c.args.used < n) (c.line_length.ensures ∙ ap line_long c.in_ok-known.ensures) c.if-room-used-2.true)

pub returns : goal.returns
returns c = (
  c.in_ok-known.ensures,
  add-good c.args.version c.args.y c.args.room c.args.used (good-layout c.args.y c.in_ok-check.ensures refl) (version_known _ c.in_ok-known.ensures)
      (omega arith) (omega arith)
      (subst (λ (n : ℕ). n ≤ c.args.room - c.args.used) (c.line_length.ensures ∙ ap line_long c.in_ok-known.ensures) (omega arith)),
)
