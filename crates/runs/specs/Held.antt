-- Runs of bytes: of a list, and of a content.
use Rattle.std.specs.Prelude.{◌≡◌, List, ℕ, ◌+◌, ◌*◌, get_or}
use Rattle.std.proofs.Common.{ap, add_assoc}
use Rattle.plan.specs.declared.Plan.{Plan}
use Rattle.plan.specs.Plans.{held}

-- the bytes of a list from `from` on
unfoldable pub run_of : List ℕ → ℕ → ℕ → ℕ
run_of src from o = get_or src (from + o) 0

pub run_of_more : (src : List ℕ) (from i o : ℕ) → run_of src (from + i) o ≡ run_of src from (i + o)
unfolding run_of
run_of_more src from i o = ap (λ (x : ℕ). get_or src x 0) (add_assoc from i o)

-- zeros
unfoldable pub zero_byte : ℕ → ℕ
zero_byte o = 0

-- the bytes of content c from unit offset lo on, as they stand or rebuilt
unfoldable pub held_run : Plan → List ℕ → ℕ → ℕ → ℕ → ℕ
held_run P img lo c o = held P img (lo + o) c

-- where a missing content is kept in the scratch, once rebuilt
abbrev pub rank_place : Plan → ℕ → ℕ
rank_place P c = get_or P.rank c 0 * 4096
