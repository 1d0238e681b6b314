-- `pool_count::audit` meets its contract: what every call tests first, then the count afresh.
use Rattle.std.proofs.Common.{refl, sym}
use Rattle.std.proofs.lemmas.Result.{err_from_is_err_and}
use Rattle.lists.proofs.Answering.{refused}
use Rattle.pool.specs.Asked.{repair_asked}
use Rattle.pool_count.specs.Answers.{audit_refused, audit_true, audit_false}
use Rattle.pool_count.proofs.audit.Goals as goal

pub returns-in_err-check_pool : goal.returns-in_err-check_pool
returns-in_err-check_pool c =
    let p = err_from_is_err_and c.from_residual.result c.from_residual.ensures.1 in
    rw (p.1, p.2) (audit_refused _ c.args.r _ c.in_err-check_pool.ensures (refused _))

pub missing_units-fresh-requires : goal.missing_units-fresh-requires
missing_units-fresh-requires c = let s = repair_asked _ _ _ (sym c.in_ok-check_pool.ensures) in (s.valid, s.good)

pub returns-then-r-fresh : goal.returns-then-r-fresh
returns-then-r-fresh c = audit_true _ c.args.r _ c.in_ok-check_pool.ensures refl _ c.missing_units-fresh.ensures c.if-r-fresh.true

pub returns-else-r-fresh : goal.returns-else-r-fresh
returns-else-r-fresh c = audit_false _ c.args.r _ c.in_ok-check_pool.ensures refl _ c.missing_units-fresh.ensures c.if-r-fresh.false
