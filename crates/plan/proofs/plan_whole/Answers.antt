-- `plan::plan_whole`. Each part is what a group that misses nothing asks for.
use mathlib.Core.Path.{refl}
use Rattle.plan.specs.Whole.{whole_solvable, whole_ranks, whole_slots, whole-rows, whole-gone}
use Rattle.plan.proofs.plan_whole.Goals as goal

pub returns : goal.returns
returns c = let p = c.requires in
    record {
      n_is = refl;
      k_is = refl;
      u_is = refl;
      at_is = refl;
      flags_are = λ i h. refl;
      right = record {
        solvable = whole_solvable _ _ p.0 p.1;
        ranks = whole_ranks _ _ p.0 p.1;
        slots_are = whole_slots _ _ p.0 p.1;
        rows_are = λ q h. absurd (whole-rows _ _ p.0 p.1 q h);
        codes_are = c.codes.ensures;
        gone_is = whole-gone _ _ p.0 p.1;
      };
    }
