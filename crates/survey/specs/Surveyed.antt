-- A plan is that of group g under a failure record: where the contents' homes under the first j entries begin, and which contents are missing.
-- What the plan says of a byte is then what the pool's definitions say of it.
use Rattle.std.specs.Prelude.{◌≡◌, List, ℕ, ◌+◌, ◌-◌, ◌≤◌, ◌<◌}
use Rattle.std.proofs.Common.{sym, ◌∙◌, arith}
use Rattle.std.proofs.Math.Path.{ap}
use Rattle.std.proofs.Math.ListN.{get_or}
use Rattle.numbers.specs.declared.Layout.{Layout}
use Rattle.numbers.specs.Layouts.{Valid, contents, all_groups, image_length}
use Rattle.place.specs.declared.Unit.{Unit}
use Rattle.place.specs.Bytes.{spot_of, spot, unit_here}
use Rattle.place.specs.ByteLaws.{spot_in, unit_there}
use Rattle.parity.specs.Group.{rebuilt}
use Rattle.parity.specs.Local.{rebuilt_cong}
use Rattle.homes.specs.declared.Record.{Record}
use Rattle.homes.specs.Records.{Good}
use Rattle.homes.specs.Missing.{home, missing}
use Rattle.homes.proofs.MissingLaws.{home-lt, home_apart}
use Rattle.pool.specs.Contents.{stored, content_byte}
use Rattle.pool.specs.Holds.{solvable}
use Rattle.plan.specs.declared.Plan.{Plan}
use Rattle.plan.specs.Plans.{at_of, miss_of, Right, Fits, Apart, column, held}
use Rattle.plan.specs.Same.{missing_same}
use Rattle.place.specs.Places.{tile_permutation}
use Rattle.survey.specs.declared.Survey.{Survey}

pub record Surveyed (y : Layout) (R : Record) (j g : ℕ) (P : Plan) : Type 0 where
  pub n_is : P.n ≡ y.n
  pub k_is : P.k ≡ y.k
  pub u_is : P.u ≡ y.u
  pub at_is : (c : ℕ) → c < contents y → at_of P c ≡ spot y g (home y R j g c) 0
  pub flags_are : (c : ℕ) → c < contents y → miss_of P c ≡ missing y R g c
  pub right : Right P

-- while one group after another is looked at: the permutation in hand is that of its tile, and the plan's numbers are the layout's
pub record Surveying (y : Layout) (w : Survey) : Type 0 where
  pub to_is : w.to ≡ tile_permutation y w.tile
  pub n_is : w.plan.n ≡ y.n
  pub k_is : w.plan.k ≡ y.k
  pub u_is : w.plan.u ≡ y.u
  pub right : Right w.plan

-- the bytes of a unit follow each other
pub spot_plus : (y : Layout) (g u o : ℕ) → spot y g u 0 + o ≡ spot y g u o
unfolding spot_of
spot_plus y g u o = omega arith

module _ (y : Layout) (v : Valid y) (R : Record) (good : Good y R) (j : ℕ) (le : j ≤ y.k) (g : ℕ) (hg : g < all_groups y) (P : Plan) (s : Surveyed y R j g P) where
  content-lt : (c : ℕ) → c < P.n + P.k → c < contents y
  content-lt c h = omega (arith, s.n_is, s.k_is)

  byte_is : (c o : ℕ) → c < contents y → at_of P c + o ≡ spot y g (home y R j g c) o
  byte_is c o h = ap (λ (a : ℕ). a + o) (s.at_is c h) ∙ spot_plus y g (home y R j g c) o

  -- every unit lies in the image
  pub fits : Fits P (image_length y)
  fits =
      record {
        right = s.right;
        u-max = omega (arith, s.u_is, v.few_bytes);
        inside = λ c h.
            let b = content-lt c h in
            let last = spot_in y v g (home y R j g c) (y.u - 1) hg (home-lt y v R g j le c b) (omega (arith, v.some_bytes)) in
            omega (arith, last, byte_is c (y.u - 1) b, s.u_is, v.some_bytes);
      }

  unit_of_byte : (c o : ℕ) → c < contents y → o < P.u → (unit_here y (at_of P c + o)).unit ≡ home y R j g c
  unit_of_byte c o b h =
      ap (λ (x : ℕ). (unit_here y x).unit) (byte_is c o b)
      ∙ ap (λ (u : Unit). u.unit) (unit_there y v g (home y R j g c) o hg (home-lt y v R g j le c b) (omega (arith, s.u_is)))

  -- and no two meet
  pub apart : Apart P
  apart =
      record {
        apart = λ c d x z hc hd hx hz e.
            let bc = content-lt c hc in
            let bd = content-lt d hd in
            (home_apart y v R g j le).differ c d bc bd (sym (unit_of_byte c x bc hx) ∙ ap (λ (b : ℕ). (unit_here y b).unit) e ∙ unit_of_byte d z bd hz);
      }

module _ (y : Layout) (v : Valid y) (R : Record) (good : Good y R) (g : ℕ) (P : Plan) (s : Surveyed y R R.q g P) where
  -- what stands there is what is stored of the contents
  pub column_is : (img : List ℕ) (o c : ℕ) → c < contents y → column P img o c ≡ stored y R img g o c
  unfolding column stored
  column_is img o c h = ap (λ (x : ℕ). get_or img x 0) (ap (λ (a : ℕ). a + o) (s.at_is c h) ∙ spot_plus y g (home y R R.q g c) o)

  -- and with the missing ones rebuilt, the contents
  pub held_is : (img : List ℕ) (o c : ℕ) → c < contents y → held P img o c ≡ content_byte y R img g o c
  unfolding held content_byte
  held_is img o c h =
      (λ i. rebuilt (s.n_is i) (s.k_is i) (miss_of P) (column P img o) c)
      ∙ missing_same y.n y.k (miss_of P) (missing y R g) s.flags_are (column P img o) c h
      ∙ rebuilt_cong y.n y.k (missing y R g) (solvable y R v good g) (column P img o) (stored y R img g o) (λ u b t. column_is img o u b) c h
