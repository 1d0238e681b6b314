-- `settings::read` meets its contract: each return is what the tests that led there say.
use mathlib.Core.Path.{refl, sym}
use native.Mathlib.Omega.{arith}
use lib.Seq.{length-take-le}
use Rattle.settings.specs.Version.{number_of}
use Rattle.settings.specs.CallLaws.{read_outside, read_none, found_inside, found_malformed, found_unknown, found-shown}
use Rattle.settings.proofs.CallLaws.{found_form}
use Rattle.settings.proofs.read.Goals as goal

pub returns-then-buffer-used : goal.returns-then-buffer-used
returns-then-buffer-used c = read_outside (number_of c.args.reader) c.args.buffer.now c.args.used (omega arith)

pub returns-then-used-eq0 : goal.returns-then-used-eq0
returns-then-used-eq0 c = read_none (number_of c.args.reader) c.args.buffer.now c.args.used (omega arith) c.if-used-eq0.true

pub slice_bounds-scan-end : goal.slice_bounds-scan-end
slice_bounds-scan-end c = sym (length-take-le c.args.used c.args.buffer.now (omega arith))

pub returns-in-Err : goal.returns-in-Err
returns-in-Err c =
    found_malformed (number_of c.args.reader) c.args.buffer.now c.args.used (omega arith) (omega arith) c.in-Err.ensures.1 c.in-Err.ensures.0

pub slice_bounds-layout_of-count : goal.slice_bounds-layout_of-count
slice_bounds-layout_of-count c = found_inside (number_of c.args.reader) c.args.buffer.now c.args.used (omega arith) (omega arith) c.in-Ok.ensures

pub layout_of-layout-requires : goal.layout_of-layout-requires
layout_of-layout-requires c = found_form (number_of c.args.reader) c.args.buffer.now c.args.used (omega arith) (omega arith) c.in-Ok.ensures refl

pub returns-then-newest_edition-layout : goal.returns-then-newest_edition-layout
returns-then-newest_edition-layout c =
    found_unknown (number_of c.args.reader) c.args.buffer.now c.args.used (omega arith) (omega arith) c.in-Ok.ensures refl c.layout_of-layout.ensures (omega (arith, c.newest_edition.ensures))

pub returns : goal.returns
returns c = found-shown (number_of c.args.reader) c.args.buffer.now c.args.used (omega arith) (omega arith) c.in-Ok.ensures refl c.layout_of-layout.ensures (omega (arith, c.newest_edition.ensures))
