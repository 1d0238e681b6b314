-- `survey::next` meets its contract: where no target has failed, or all are repaired, nothing is missing; else what stands is planned, and keeps what
-- the plan before it has worked out.
use mathlib.Core.Path.{refl, ◌∙◌}
use Rattle.survey.specs.Steps.{solvable_here, surveyed_of, whole_stands, mended_stands}
use Rattle.survey.proofs.next.Goals as goal

pub returns-then-r-eq0 : goal.returns-then-r-eq0
returns-then-r-eq0 c = let a = c.args in
    let p = c.requires in
    let q = c.plan_whole-plan.ensures in (
      record { to_is = c.tile_to-to.ensures; n_is = q.n_is; k_is = q.k_is; u_is = q.u_is; right = q.right },
      surveyed_of a.y a.r _ _ (whole_stands a.y p.1 a.r p.3 _ c.own_starts-at.result c.if-r-eq0.true c.own_starts-at.ensures) _ _ _ refl refl refl _ q,
    )

pub returns-then-r : goal.returns-then-r
returns-then-r c = let a = c.args in
    let p = c.requires in
    let q = c.plan_whole-plan-then-r.ensures in (
      record { to_is = c.tile_to-to.ensures; n_is = q.n_is; k_is = q.k_is; u_is = q.u_is; right = q.right },
      surveyed_of a.y a.r _ _ (mended_stands a.y p.1 a.r p.3 _ c.new_starts-at.result c.if-r.true c.new_starts-at.ensures) _ _ _ refl refl refl _ q,
    )

pub plan_next-plan-requires : goal.plan_next-plan-requires
plan_next-plan-requires c = let p = c.requires in (p.0.right, solvable_here _ p.1 c.args.r p.3 _ _ p.0 _ c.stand_of-stand.ensures)

pub returns : goal.returns
returns c = let a = c.args in
    let p = c.requires in
    let q = c.plan_next-plan.ensures in (
      record {
        to_is = c.tile_to-to.ensures;
        n_is = q.n_is ∙ p.0.n_is;
        k_is = q.k_is ∙ p.0.k_is;
        u_is = q.u_is ∙ p.0.u_is;
        right = q.right;
      },
      surveyed_of a.y a.r _ _ c.stand_of-stand.ensures _ _ _ p.0.n_is p.0.k_is p.0.u_is _ q,
    )
