-- `survey::own_missing` meets its contract: the closure tells whether a place lies on a failed target.
use Rattle.std.proofs.Common.{false, ◌+◌, ◌∙◌, arith, rules, of_calls}
use Rattle.survey.proofs.Filled.{filled}
use Rattle.survey.proofs.own_missing.Goals as goal

pub returns : goal.returns
returns c k h = let f = filled c.fill_by_units.new.out _ (c.args.y.n + c.args.y.k) false c.fill_by_units.ensures.long (omega arith) k h in
    let called = c.fill_by_units.ensures.each k f.0 false in
    f.1 ∙ search (rules, of_calls)
