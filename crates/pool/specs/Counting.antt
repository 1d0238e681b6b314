-- How many units await repair, and by how many a failure raises that.
use Rattle.std.specs.Prelude.{◌≡◌, Bool, ℕ, eqb}
use Rattle.lists.specs.Count.{count, sum}
use Rattle.numbers.specs.declared.Layout.{Layout}
use Rattle.numbers.specs.Layouts.{all_groups, contents}
use Rattle.homes.specs.declared.Record.{Record}
use Rattle.homes.specs.Missing.{target_at, home, missing}

-- the missing (group, content) pairs of the groups below g, and "how many units await repair"
abbrev pub missing_pairs : Layout → Record → ℕ → ℕ
missing_pairs y R g = sum (λ h. count (missing y R h) (contents y)) g

unfoldable pub missing_units : Layout → Record → ℕ
missing_units y R = missing_pairs y R (all_groups y)

-- the count that a record carries is theirs
abbrev pub TrueCount : Layout → Record → Type 0
TrueCount y R = R.waiting ≡ missing_units y R

-- "the contents whose home under the first q entries was on that target": content c of group g is one of them, and how many they are
abbrev pub home_on : Layout → Record → ℕ → ℕ → ℕ → Bool
home_on y R target g c = eqb (target_at y g (home y R R.q g c)) target

unfoldable pub on_target : Layout → Record → ℕ → ℕ
on_target y R target = sum (λ g. count (home_on y R target g) (contents y)) (all_groups y)
