-- `survey::unit_starts` meets its contract: the closure tells where a place begins.
use Rattle.std.proofs.Common.{◌∙◌, arith, rules, of_calls}
use Rattle.survey.proofs.Filled.{filled}
use Rattle.survey.proofs.unit_starts.Goals as goal

pub returns : goal.returns
returns c k h = let f = filled c.fill_by_units.new.out _ c.args.count 0 c.fill_by_units.ensures.long (omega arith) k h in
    let called = c.fill_by_units.ensures.each k f.0 0 in
    f.1 ∙ search (rules, of_calls)
