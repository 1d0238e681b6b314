-- A layout and the same one in the other edition.
use Rattle.std.specs.Prelude.{◌≡◌, ◌-◌}
use Rattle.std.proofs.Math.Path.{refl, ap}
use Rattle.std.proofs.Common.{arith}
use Rattle.numbers.specs.Layouts.{Valid, block, rows, groups, all_groups, capacity, image_length}
use Rattle.numbers.specs.Answers.{shape_of, Shaped, numbers_of}
use Rattle.numbers.specs.declared.Layout.{Layout}
use Rattle.numbers.specs.declared.Numbers.{Numbers}
use Rattle.numbers.specs.declared.Shape.{Shape}

-- document 02, order 9: "the other edition, all N, K, P, U, T and cookie kept"
unfoldable pub other_edition : Layout → Layout
other_edition y = record { n = y.n; k = y.k; p = y.p; u = y.u; t = y.t; cookie = y.cookie; edition = 3 - y.edition }

pub other_valid : (y : Layout) → Valid y → Valid (other_edition y)
unfolding other_edition
other_valid y v = omega arith

pub other-other : (y : Layout) → Valid y → other_edition (other_edition y) ≡ y
unfolding other_edition
other-other y v =
    let same : 3 - (3 - y.edition) ≡ y.edition = omega arith in
    λ i. record { n = y.n; k = y.k; p = y.p; u = y.u; t = y.t; cookie = y.cookie; edition = same i }

-- no number that follows from a layout's own hangs on the edition
module _ (y : Layout) where
  pub other_numbers : numbers_of (other_edition y) ≡ numbers_of y
  unfolding numbers_of other_edition rows groups block
  other_numbers = refl

  pub other-groups : all_groups (other_edition y) ≡ all_groups y
  unfolding numbers_of
  other-groups = ap (λ (m : Numbers). m.groups) other_numbers

  pub other-capacity : capacity (other_edition y) ≡ capacity y
  unfolding numbers_of
  other-capacity = ap (λ (m : Numbers). m.capacity) other_numbers

  pub other_image : image_length (other_edition y) ≡ image_length y
  unfolding numbers_of
  other_image = ap (λ (m : Numbers). m.image) other_numbers

  pub other_shaped : (s : Shape) → Shaped y s → Shaped (other_edition y) s
  unfolding other_edition shape_of rows groups block
  other_shaped s h =
      record {
        is = h.is;
        w_is = h.w_is;
        b_is = h.b_is;
        l_is = h.l_is;
        c_is = h.c_is;
        l_some = h.l_some;
        l_few = h.l_few;
        c_some = h.c_some;
        c-few = h.c-few;
        whole = h.whole;
      }
