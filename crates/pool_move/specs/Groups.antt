-- A move group after group: what is in hand at a group, what it leaves, and how far the whole has come.
use Rattle.std.specs.Prelude.{◌≡◌, true, List, ℕ, ◌<◌, ltb}
use Rattle.lists.specs.Pick.{pick}
use Rattle.lists.specs.Lays.{Lays}
use Rattle.numbers.specs.declared.Layout.{Layout}
use Rattle.numbers.specs.declared.Shape.{Shape}
use Rattle.numbers.specs.Layouts.{Valid, width, contents, all_groups, image_length}
use Rattle.numbers.specs.Answers.{Shaped}
use Rattle.place.specs.Bytes.{spot}
use Rattle.plan.specs.declared.Plan.{Plan}
use Rattle.plan.specs.Plans.{at_of, Fits, Apart}
use Rattle.survey.specs.declared.Survey.{Survey}
use Rattle.survey.specs.Surveyed.{Surveying}
use Rattle.group_move.specs.Moved.{Meets, moved_byte}

-- group g of the new pool, of layout z: its survey is at the group, each content at its own place, and the plan P finds the group in the old image,
-- of `old` bytes. The new image has `new` bytes
pub record Ready (z : Layout) (s : Shape) (g : ℕ) (P : Plan) (w : Survey) (old new : ℕ) : Type 0 where
  pub valid : Valid z
  pub shape : Shaped z s
  pub group : g < all_groups z
  pub n_is : P.n ≡ z.n
  pub k_is : P.k ≡ z.k
  pub u_is : P.u ≡ z.u
  pub source : Fits P old
  pub surveying : Surveying z w
  pub meets : Meets P w.plan
  pub own : (c : ℕ) → c < contents z → at_of w.plan c ≡ spot z g c 0
  pub fits : Fits w.plan (image_length z)
  pub apart : Apart w.plan
  pub len_is : new ≡ image_length z

-- where unit u of group g begins
abbrev pub unit_start : Layout → ℕ → ℕ → ℕ
unit_start z g u = spot z g u 0

-- byte o of unit u: of a content what is moved, of a spare zero
unfoldable pub unit_stored : Layout → Plan → List ℕ → ℕ → ℕ → ℕ
unit_stored z P old u o = pick (ltb u (contents z)) (moved_byte P old u o) 0

-- all units of group g are stored, and nothing else
abbrev pub GroupLaid : Layout → ℕ → Plan → List ℕ → List ℕ → List ℕ → Type 0
GroupLaid z g P old new new' = Lays (width z) z.u (unit_start z g) (λ u o. true) (unit_stored z P old) new new'
