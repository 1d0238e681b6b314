-- What the code of homes is handed and hands back: a group's targets and homes as arrays.
use Rattle.std.specs.Prelude.{◌≡◌, Bool, false, List, ℕ, ◌+◌, ◌/◌, ◌≤◌, ◌<◌, get_or}
use Rattle.lists.specs.Tabulate.{at}
use Rattle.numbers.specs.declared.Layout.{Layout}
use Rattle.numbers.specs.declared.Shape.{Shape}
use Rattle.numbers.specs.Layouts.{Valid, width, all_groups}
use Rattle.numbers.specs.Answers.{Shaped}
use Rattle.place.specs.Places.{tile_permutation}
use Rattle.homes.specs.Listed.{listed}
use Rattle.homes.specs.Homes.{homes}
use Rattle.homes.specs.Records.{failed}
use Rattle.homes.specs.Missing.{target_at}

-- a tile's permutation in hand, for one of its groups
pub record InTile (y : Layout) (s : Shape) (to : List ℕ) (g : ℕ) : Type 0 where
  pub valid : Valid y
  pub shape : Shaped y s
  pub tile : to ≡ tile_permutation y (g / s.c)
  pub group : g < all_groups y

-- `targets` are those of the units of group g
abbrev pub TargetsAre : Layout → ℕ → List ℕ → Type 0
TargetsAre y g targets = (u : ℕ) → u < width y → at targets u ≡ target_at y g u

-- room for m contents and the spares, and each home is one of the group's units
pub record Units (targets homes : List ℕ) (m spares : ℕ) : Type 0 where
  pub few-contents : m ≤ 19
  pub few_units : m + spares ≤ 22
  pub units : (c : ℕ) → c < m → at homes c < m + spares

-- the same of targets alone, which are different, with j entries of a list
pub record Standing (targets : List ℕ) (m spares j : ℕ) : Type 0 where
  pub few-contents : m ≤ 19
  pub few_spares : spares ≤ 3
  pub few : j ≤ spares
  pub apart : (d d' : ℕ) → d < m + spares → d' < m + spares → at targets d ≡ at targets d' → d ≡ d'

abbrev pub HomesAre : List ℕ → ℕ → ℕ → List ℕ → ℕ → List ℕ → Type 0
HomesAre targets m spares failed j r = (c : ℕ) → c < m → at r c ≡ homes (at targets) m spares (at failed) j c

abbrev pub MissingAre : List ℕ → List ℕ → ℕ → List ℕ → ℕ → List Bool → Type 0
MissingAre targets homes m failed k r = (c : ℕ) → c < m → get_or r c false ≡ listed (at failed) k (at targets (at homes c))
