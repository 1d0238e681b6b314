-- Where a group's units begin, and its contents.
use Rattle.std.specs.Prelude.{◌≡◌, false, List, ℕ, ◌<◌, get_or}
use Rattle.numbers.specs.declared.Layout.{Layout}
use Rattle.numbers.specs.Layouts.{width, contents}
use Rattle.place.specs.Bytes.{spot}
use Rattle.homes.specs.declared.Record.{Record}
use Rattle.homes.specs.Missing.{home, missing}
use Rattle.homes.specs.Standing.{TargetsAre}
use Rattle.survey.specs.declared.Sites.{Sites}
use Rattle.survey.specs.declared.Shift.{Shift}
use Rattle.survey.specs.declared.Stand.{Stand}

-- the units of group g
pub record Sited (y : Layout) (g : ℕ) (x : Sites) : Type 0 where
  pub targets_are : TargetsAre y g x.targets
  pub starts_are : (u : ℕ) → u < width y → get_or x.starts u 0 ≡ spot y g u 0

-- where each content's home under the first j entries begins
abbrev pub StartsUnder : Layout → Record → ℕ → ℕ → List ℕ → Type 0
StartsUnder y R j g at = (c : ℕ) → c < contents y → get_or at c 0 ≡ spot y g (home y R j g c) 0

-- the same under the whole lists of two records
pub record Shifts (y : Layout) (R S : Record) (g : ℕ) (x : Shift) : Type 0 where
  pub from_are : StartsUnder y R R.k g x.from
  pub to_are : StartsUnder y S S.k g x.to

pub record Stands (y : Layout) (R : Record) (g : ℕ) (x : Stand) : Type 0 where
  pub starts : StartsUnder y R R.q g x.at
  pub flags : (c : ℕ) → c < contents y → get_or x.missing c false ≡ missing y R g c
