-- `settings::scan` meets its contract: before the line at `from`, what is left of the text tells the rest.
use mathlib.Core.Path.{sym, ◌∙◌}
use native.Mathlib.Omega.{arith}
use Rattle.line_cursor.specs.CursorLaws.{end-le, end_more}
use Rattle.settings.specs.ScanLaws.{scan_begin, scan_done}
use Rattle.settings.proofs.ScanLaws.{scan_stops, scan_turn}
use Rattle.settings.proofs.scan.Goals as goal

pub loop-from-init : goal.loop-from-init
loop-from-init c = scan_begin c.args.text.now

pub slice_bounds-is_setting-end : goal.slice_bounds-is_setting-end
slice_bounds-is_setting-end c = let k = end-le c.args.text.now c.loop-from.from c.loop-from.invariant.within in omega (arith, c.line_end-end.ensures, k)

pub returns-then-not-is_setting : goal.returns-then-not-is_setting
returns-then-not-is_setting c = let i = c.loop-from in
    let some = i.invariant.some in (
      λ z. omega (arith, z, some),
      scan_stops c.args.text.now i.line i.newest i.from i.invariant c.loop-from-test.true c.line_end-end.ensures
          (sym c.is_setting.ensures ∙ c.if-not-is_setting.true),
    )

pub loop-from-smaller : goal.loop-from-smaller
loop-from-smaller c = let h = end_more c.args.text.now c.loop-from.from c.loop-from-test.true in let k = end-le c.args.text.now c.loop-from.from c.loop-from.invariant.within in omega (arith, c.line_end-end.ensures, h, k)

pub loop-from-preserved : goal.loop-from-preserved
loop-from-preserved c = let i = c.loop-from in
    scan_turn c.args.text.now i.line i.newest i.from i.invariant c.loop-from-test.true c.line_end-end.ensures
    (let h = end_more c.args.text.now c.loop-from.from c.loop-from-test.true in omega (arith, c.line_end-end.ensures, h)) (let k = end-le c.args.text.now c.loop-from.from c.loop-from.invariant.within in omega (arith, c.line_end-end.ensures, k)) (sym c.is_setting.ensures ∙ c.if-not-is_setting.false)

pub returns : goal.returns
returns c = let i = c.loop-from in scan_done c.args.text.now i.line i.newest i.from i.invariant (omega arith)
