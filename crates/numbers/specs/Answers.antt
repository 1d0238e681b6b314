-- W, B, L, C and the numbers that follow, as the code hands them over, with the orders that its callers' arithmetic wants.
use Rattle.std.specs.Prelude.{◌≡◌, refl, ◌*◌, ◌≤◌, ◌<◌}
use Rattle.std.proofs.Common.{arith}
use Rattle.numbers.specs.Layouts.{Valid, width, block, rows, groups, frames, all_groups, capacity, image_length}
use Rattle.numbers.specs.Shapes.{rows_pos, rows-le, groups_pos, groups-le, width-groups-rows, layout_products}
use Rattle.numbers.specs.declared.Layout.{Layout}
use Rattle.numbers.specs.declared.Shape.{Shape}
use Rattle.numbers.specs.declared.Numbers.{Numbers}

unfoldable pub shape_of : Layout → Shape
shape_of y = record { w = width y; b = block y; l = rows y; c = groups y }

pub record Shaped (y : Layout) (r : Shape) : Type 0 where
  pub is : r ≡ shape_of y
  pub w_is : r.w ≡ width y
  pub b_is : r.b ≡ block y
  pub l_is : r.l ≡ rows y
  pub c_is : r.c ≡ groups y
  pub l_some : 0 < r.l
  pub l_few : r.l ≤ 22
  pub c_some : 0 < r.c
  pub c-few : r.c ≤ 64
  pub whole : r.w * r.c ≡ y.p * r.l

pub shaped : (y : Layout) → Valid y → Shaped y (shape_of y)
unfolding shape_of
shaped y v =
    record {
      is = refl;
      w_is = refl;
      b_is = refl;
      l_is = refl;
      c_is = refl;
      l_some = rows_pos y v;
      l_few = omega (arith, rows-le y v);
      c_some = groups_pos y v;
      c-few = omega (arith, groups-le y v);
      whole = width-groups-rows y v;
    }

unfoldable pub numbers_of : Layout → Numbers
numbers_of y =
    record {
      w = width y;
      b = block y;
      l = rows y;
      c = groups y;
      frames = frames y;
      groups = all_groups y;
      capacity = capacity y;
      image = image_length y;
    }

pub record Numbered (y : Layout) (r : Numbers) : Type 0 where
  pub is : r ≡ numbers_of y
  pub shape : Shaped y (record { w = r.w; b = r.b; l = r.l; c = r.c })
  pub frames_is : r.frames ≡ frames y
  pub groups_is : r.groups ≡ all_groups y
  pub capacity_is : r.capacity ≡ capacity y
  pub image_is : r.image ≡ image_length y
  pub frames-few : r.frames ≤ 1441792
  pub groups-few : r.groups ≤ 4194304
  pub capacity-few : r.capacity ≤ 274877906944
  pub image_few : r.image ≤ 377957122048

pub numbered : (y : Layout) → Valid y → Numbered y (numbers_of y)
unfolding numbers_of shape_of
numbered y v =
    record {
      is = refl;
      shape = shaped y v;
      frames_is = refl;
      groups_is = refl;
      capacity_is = refl;
      image_is = refl;
      frames-few = (layout_products y v).frames;
      groups-few = (layout_products y v).groups;
      capacity-few = (layout_products y v).capacity;
      image_few = (layout_products y v).image;
    }
