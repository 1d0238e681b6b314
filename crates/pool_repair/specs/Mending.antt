-- Repair group after group: what is in hand at a group, what it leaves, and how far the whole has come.
use Rattle.std.specs.Prelude.{◌≡◌, Bool, List, ℕ, ◌*◌, ◌≤◌, ◌<◌, length, get_or}
use Rattle.lists.specs.Lays.{Lays}
use Rattle.lists.specs.Sweep.{upto}
use Rattle.numbers.specs.declared.Layout.{Layout}
use Rattle.numbers.specs.declared.Shape.{Shape}
use Rattle.numbers.specs.Layouts.{Valid, contents, all_groups, image_length}
use Rattle.numbers.specs.Answers.{Shaped}
use Rattle.place.specs.Bytes.{offset_here}
use Rattle.homes.specs.declared.Record.{Record}
use Rattle.homes.specs.Records.{Good}
use Rattle.pool.specs.Counting.{missing_pairs}
use Rattle.pool.specs.Contents.{content_byte}
use Rattle.pool.specs.Repairing.{mends}
use Rattle.pool.specs.Asked.{Sound}
use Rattle.survey.specs.declared.Survey.{Survey}
use Rattle.survey.specs.Surveyed.{Surveyed, Surveying}
use Rattle.survey.specs.Placing.{start_of, group_here, content_here, placed}

-- the survey is at group g
pub record InHand (y : Layout) (s : Shape) (R : Record) (g : ℕ) (w : Survey) : Type 0 where
  pub valid : Valid y
  pub shape : Shaped y s
  pub good : Good y R
  pub group : g < all_groups y
  pub surveying : Surveying y w
  pub surveyed : Surveyed y R R.q g w.plan

-- "stores every missing content at its home under the whole list": what is stored at byte o of content c of group g, and where
abbrev pub mends_at : Layout → Record → ℕ → ℕ → ℕ → Bool
mends_at y R g c o = mends y R g o c

abbrev pub mended_at : Layout → Record → List ℕ → ℕ → ℕ → ℕ → ℕ
mended_at y R img g c o = content_byte y R img g o c

-- those of group g are stored
abbrev pub GroupMended : Layout → Record → ℕ → List ℕ → List ℕ → Type 0
GroupMended y R g img img' = Lays (contents y) y.u (start_of y R R.k g) (mends_at y R g) (mended_at y R img g) img img'

-- the same by its other name
abbrev pub Mended : Layout → Record → ℕ → List ℕ → List ℕ → Type 0
Mended y R g img img' = GroupMended y R g img img'

-- byte x once the groups below g are repaired
module _ (y : Layout) (v : Valid y) (R : Record) (good : Good y R) where
  abbrev pub mended_to : List ℕ → ℕ → ℕ → ℕ
  mended_to img g x =
      upto (all_groups y) (contents y) y.u (image_length y) (start_of y R R.k) (group_here y) (content_here y R R.k) (offset_here y)
      (placed y v R R.k good.few) (mends_at y R) (mended_at y R) 0 img g x

-- the groups below g are repaired, and n contents were missing in them
pub record MendedBelow (y : Layout) (R : Record) (img₀ : List ℕ) (g n : ℕ) (img : List ℕ) : Type 0 where
  pub sound : Sound y R (length img₀)
  pub same : length img ≡ length img₀
  pub done : (x : ℕ) → x < length img₀ → get_or img x 0 ≡ mended_to y sound.valid R sound.good img₀ g x
  pub pairs : n ≡ missing_pairs y R g
  pub few : n ≤ 3 * g
