-- The one way in which a call changes the image: some contents are stored at their homes, byte by byte. `on g o c` tells whether byte o of
-- content c of group g is stored, and `val g o c` what.
use Rattle.std.specs.Prelude.{◌≡◌, Bool, true, List, ℕ, ◌<◌, eqb, ltb, length}
use Rattle.lists.specs.Pick.{pick, both}
use Rattle.lists.specs.Search.{lowest}
use Rattle.lists.specs.Tabulate.{at, tabulate}
use Rattle.numbers.specs.declared.Layout.{Layout}
use Rattle.numbers.specs.Layouts.{all_groups, contents}
use Rattle.place.specs.Bytes.{spot, unit_here, offset_here}
use Rattle.homes.specs.declared.Record.{Record}
use Rattle.homes.specs.Missing.{home}

-- the content whose home under the first j entries is unit u of group g; the number of contents where there is none
unfoldable pub owner : Layout → Record → ℕ → ℕ → ℕ → ℕ
owner y R j g u = lowest (λ c. eqb (home y R j g c) u) (contents y)

-- of m contents: the new value of a byte that is stored, else the old one
unfoldable pub cell_after : ℕ → (ℕ → ℕ → ℕ → Bool) → (ℕ → ℕ → ℕ → ℕ) → ℕ → ℕ → ℕ → ℕ → ℕ
cell_after m on val g o c old = pick (both (ltb c m) (on g o c)) (val g o c) old

-- the image afterwards: which unit lies at image byte x, which content has its home there under the first j entries, and is it stored
unfoldable pub storing : Layout → Record → ℕ → (ℕ → ℕ → ℕ → Bool) → (ℕ → ℕ → ℕ → ℕ) → List ℕ → List ℕ
storing y R j on val img =
    tabulate (length img)
    (λ x. cell_after (contents y) on val (unit_here y x).group (offset_here y x) (owner y R j (unit_here y x).group (unit_here y x).unit) (at img x))

-- image byte x is byte o of content c of group g at its home under the first j entries, and it is stored
pub record Stores (y : Layout) (R : Record) (j : ℕ) (on : ℕ → ℕ → ℕ → Bool) (x : ℕ) : Type 0 where
  pub g : ℕ
  pub o : ℕ
  pub c : ℕ
  pub g-lt : g < all_groups y
  pub o_lt : o < y.u
  pub c_lt : c < contents y
  pub is_at : x ≡ spot y g (home y R j g c) o
  pub is_on : on g o c ≡ true
