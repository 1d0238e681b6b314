-- `plan::plan_anew`. Each part by its callee.
use mathlib.Core.Path.{refl, ◌∙◌}
use native.Mathlib.Omega.{arith}
use Rattle.lists.specs.Those.{length-those}
use Rattle.parity.specs.Made.{gone_most}
use Rattle.plan.proofs.plan_anew.Goals as goal

pub missing_below-gone-requires : goal.missing_below-gone-requires
missing_below-gone-requires c = (omega (arith, c.requires.0.data_max, c.requires.0.parity_max), gone_most _ _ _ c.requires.0)

pub lines_for-requires : goal.lines_for-requires
lines_for-requires c = (c.requires.0, c.missing_below-gone.ensures.count_is)

pub returns : goal.returns
returns c = record {
  n_is = refl;
  k_is = refl;
  u_is = refl;
  at_is = refl;
  flags_are = λ i h. refl;
  right = record {
    solvable = c.requires.0;
    ranks = c.ranks.ensures;
    slots_are = c.slots.ensures;
    rows_are = c.lines_for.ensures;
    codes_are = c.requires.1;
    gone_is = c.missing_below-gone.ensures.count_is ∙ length-those _ _;
  };
}
