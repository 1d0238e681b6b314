-- `plan::plan_next`. What is kept stays right, since only the places change.
use mathlib.Core.Path.{refl, sym, ◌∙◌}
use Rattle.plan.specs.Steps.{flags_same}
use Rattle.plan.proofs.plan_next.Goals as goal

pub returns-then-eq : goal.returns-then-eq
returns-then-eq c = record {
  n_is = refl;
  k_is = refl;
  u_is = refl;
  at_is = refl;
  flags_are = flags_same c.args.last.missing c.args.missing _ (sym c.if-eq.true ∙ c.eq.ensures);
  right = record {
    solvable = c.requires.0.solvable;
    ranks = c.requires.0.ranks;
    slots_are = c.requires.0.slots_are;
    rows_are = c.requires.0.rows_are;
    codes_are = c.requires.0.codes_are;
    gone_is = c.requires.0.gone_is;
  };
}
