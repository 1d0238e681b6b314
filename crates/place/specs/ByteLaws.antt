-- File bytes, image bytes and bytes of units: each is found from the other.
use Rattle.std.specs.Prelude.{◌≡◌}
use Rattle.std.proofs.Math.Path.{refl, sym, ap, subst}
use Rattle.std.proofs.Common.{◌∙◌, mul_assoc, mul_left_comm, mul-pos, arith}
use Prim.Native.Nat.{ℕ, ◌+◌, ◌*◌, ◌/◌, ◌%◌, ◌<◌}
use Rattle.std.proofs.Math.Nat.{mul_comm, div-add-mod, mod-lt, add_assoc}
use Rattle.lists.specs.Digits.{div_of, mod_of, digits_below, div_below}
use Rattle.numbers.specs.declared.Layout.{Layout}
use Rattle.numbers.specs.Layouts.{Valid, width, groups, frames, all_groups, capacity, image_length}
use Rattle.numbers.specs.Shapes.{rows_pos}
use Rattle.place.specs.declared.Place.{Place}
use Rattle.place.specs.declared.Unit.{Unit}
use Rattle.place.specs.Places.{place_of, unit_of}
use Rattle.place.specs.PlaceLaws.{place_in, unit_in_lem, there_and_back, back_and_there}
use Rattle.place.specs.Bytes.{group_of, unit_in, byte_in, offset_of, spot_of, spot, image_byte, target_here, frame_here, offset_here, unit_here}

module _ (y : Layout) (v : Valid y) where
  pub data_bytes : 0 < y.n * y.u
  data_bytes = mul-pos v.some_data v.some_bytes

  -- ---- a file offset by its digits

  pub byte_lt : (x : ℕ) → byte_in y x < y.u
  unfolding byte_in
  byte_lt x = mod-lt (x % (y.n * y.u)) v.some_bytes

  pub unit_lt : (x : ℕ) → unit_in y x < y.n
  unfolding unit_in
  unit_lt x = div_below (x % (y.n * y.u)) y.u y.n v.some_bytes (subst (λ (m : ℕ). x % (y.n * y.u) < m) (mul_comm y.n y.u) (mod-lt x data_bytes))

  pub group_lt : (x : ℕ) → x < capacity y → group_of y x < all_groups y
  unfolding group_of
  group_lt x h = div_below x (y.n * y.u) (all_groups y) data_bytes (subst (λ (m : ℕ). x < m) regroup h)
    where
      regroup : y.t * groups y * y.n * y.u ≡ y.n * y.u * (all_groups y)
      regroup = simp (mul_assoc, mul_comm, mul_left_comm) refl

  pub unit_in_width : (x : ℕ) → unit_in y x < width y
  unit_in_width x = let h = unit_lt x in omega arith

  -- there and back
  pub offset_is : (x : ℕ) → offset_of y (group_of y x) (unit_in y x) (byte_in y x) ≡ x
  unfolding group_of unit_in byte_in offset_of
  offset_is x = ap (λ (r : ℕ). y.n * y.u * (x / (y.n * y.u)) + r) (div-add-mod (x % (y.n * y.u)) y.u) ∙ div-add-mod x (y.n * y.u)

  in_data : (c o : ℕ) → c < y.n → o < y.u → y.u * c + o < y.n * y.u
  in_data c o hc ho = subst (λ (m : ℕ). y.u * c + o < m) (mul_comm y.u y.n) (digits_below hc ho)

  pub offset_lt : (g c o : ℕ) → g < all_groups y → c < y.n → o < y.u → offset_of y g c o < capacity y
  unfolding offset_of
  offset_lt g c o hg hc ho = subst (λ (m : ℕ). y.n * y.u * g + (y.u * c + o) < m) regroup (digits_below hg (in_data c o hc ho))
    where
      regroup : y.n * y.u * all_groups y ≡ y.t * groups y * y.n * y.u
      regroup = simp (mul_assoc, mul_comm, mul_left_comm) refl

  -- and back: the digits of the file offset of byte o of data unit c of group g
  module _ (g c o : ℕ) (hc : c < y.n) (ho : o < y.u) where
    pub offset_group : group_of y (offset_of y g c o) ≡ g
    unfolding group_of offset_of
    offset_group = div_of (y.n * y.u) g (in_data c o hc ho)

    offset_rest : offset_of y g c o % (y.n * y.u) ≡ y.u * c + o
    unfolding offset_of
    offset_rest = mod_of (y.n * y.u) g (in_data c o hc ho)

    pub offset_unit : unit_in y (offset_of y g c o) ≡ c
    unfolding unit_in
    offset_unit = ap (λ (r : ℕ). r / y.u) offset_rest ∙ div_of y.u c ho

    pub offset_byte : byte_in y (offset_of y g c o) ≡ o
    unfolding byte_in
    offset_byte = ap (λ (r : ℕ). r % y.u) offset_rest ∙ mod_of y.u c ho

  -- ---- a byte of the image by its digits

  spot_digits : (a : Place) (i : ℕ) → spot_of y a i ≡ frames y * y.u * a.target + (y.u * a.frame + i)
  unfolding spot_of
  spot_digits a i =
      add_assoc (a.target * (frames y * y.u)) (a.frame * y.u) i
      ∙ (λ j. mul_comm a.target (frames y * y.u) j + (mul_comm a.frame y.u j + i))

  frames_pos : 0 < frames y
  frames_pos = mul-pos (rows_pos y v) v.some_tiles

  drive_pos : 0 < frames y * y.u
  drive_pos = mul-pos frames_pos v.some_bytes

  module _ (a : Place) (i : ℕ) (hf : a.frame < frames y) (hi : i < y.u) where
    in_drive : y.u * a.frame + i < frames y * y.u
    in_drive = subst (λ (m : ℕ). y.u * a.frame + i < m) (mul_comm y.u (frames y)) (digits_below hf hi)

    pub here_target : target_here y (spot_of y a i) ≡ a.target
    unfolding target_here
    here_target = ap (λ (x : ℕ). x / (frames y * y.u)) (spot_digits a i) ∙ div_of (frames y * y.u) a.target in_drive

    here_rest : spot_of y a i % (frames y * y.u) ≡ y.u * a.frame + i
    here_rest = ap (λ (x : ℕ). x % (frames y * y.u)) (spot_digits a i) ∙ mod_of (frames y * y.u) a.target in_drive

    pub here_frame : frame_here y (spot_of y a i) ≡ a.frame
    unfolding frame_here
    here_frame = ap (λ (x : ℕ). x / y.u) here_rest ∙ div_of y.u a.frame hi

    pub here_offset : offset_here y (spot_of y a i) ≡ i
    unfolding offset_here
    here_offset = ap (λ (x : ℕ). x % y.u) here_rest ∙ mod_of y.u a.frame hi

  pub here_back : (x : ℕ) → spot_of y (record { frame = frame_here y x; target = target_here y x }) (offset_here y x) ≡ x
  unfolding target_here frame_here offset_here
  here_back x =
      spot_digits (record { frame = x % (frames y * y.u) / y.u; target = x / (frames y * y.u) }) (x % (frames y * y.u) % y.u)
      ∙ ap (λ (r : ℕ). frames y * y.u * (x / (frames y * y.u)) + r) (div-add-mod (x % (frames y * y.u)) y.u)
      ∙ div-add-mod x (frames y * y.u)

  pub target_here-lt : (x : ℕ) → x < image_length y → target_here y x < y.p
  unfolding target_here
  target_here-lt x h = div_below x (frames y * y.u) y.p drive_pos (subst (λ (m : ℕ). x < m) regroup h)
    where
      regroup : image_length y ≡ frames y * y.u * y.p
      regroup = simp (mul_assoc, mul_comm, mul_left_comm) refl

  pub frame_here-lt : (x : ℕ) → frame_here y x < frames y
  unfolding frame_here
  frame_here-lt x =
      div_below (x % (frames y * y.u)) y.u (frames y) v.some_bytes
      (subst (λ (m : ℕ). x % (frames y * y.u) < m) (mul_comm (frames y) y.u) (mod-lt x drive_pos))

  pub offset_here-lt : (x : ℕ) → offset_here y x < y.u
  unfolding offset_here
  offset_here-lt x = mod-lt (x % (frames y * y.u)) v.some_bytes

  pub spot-lt : (a : Place) (i : ℕ) → a.target < y.p → a.frame < frames y → i < y.u → spot_of y a i < image_length y
  spot-lt a i ht hf hi =
      subst (λ (s : ℕ). s < image_length y) (sym (spot_digits a i))
      (subst (λ (m : ℕ). frames y * y.u * a.target + (y.u * a.frame + i) < m) regroup (digits_below ht (in_drive a i hf hi)))
    where
      regroup : frames y * y.u * y.p ≡ image_length y
      regroup = simp (mul_assoc, mul_comm, mul_left_comm) refl

  -- ---- by group, unit and offset
  module _ (g u o : ℕ) (hg : g < all_groups y) (hu : u < width y) (ho : o < y.u) where
    pub spot_in : spot y g u o < image_length y
    spot_in = let p = place_in y v g u hu hg in spot-lt (place_of y g u) o p.1 p.0 ho

    pub unit_there : unit_here y (spot y g u o) ≡ record { group = g; unit = u }
    unfolding unit_here
    unit_there =
        let p = place_in y v g u hu hg in
        (λ j. unit_of y (here_frame (place_of y g u) o p.0 ho j) (here_target (place_of y g u) o p.0 ho j)) ∙ there_and_back y v g u hu

    pub group_there : (unit_here y (spot y g u o)).group ≡ g
    group_there = ap (λ (a : Unit). a.group) unit_there

    pub unit_there' : (unit_here y (spot y g u o)).unit ≡ u
    unit_there' = ap (λ (a : Unit). a.unit) unit_there

    pub offset_there : offset_here y (spot y g u o) ≡ o
    offset_there = here_offset (place_of y g u) o (place_in y v g u hu hg).0 ho

    pub target_there : target_here y (spot y g u o) ≡ (place_of y g u).target
    target_there = here_target (place_of y g u) o (place_in y v g u hu hg).0 ho

  module _ (x : ℕ) (h : x < image_length y) where
    pub place_here : place_of y (unit_here y x).group (unit_here y x).unit ≡ record { frame = frame_here y x; target = target_here y x }
    unfolding unit_here
    place_here = back_and_there y v (frame_here y x) (target_here y x) (target_here-lt x h)

    pub spot-here : spot y (unit_here y x).group (unit_here y x).unit (offset_here y x) ≡ x
    spot-here = ap (λ (a : Place). spot_of y a (offset_here y x)) place_here ∙ here_back x

    pub group_here-lt : (unit_here y x).group < all_groups y
    unfolding unit_here
    group_here-lt = (unit_in_lem y v (frame_here y x) (target_here y x) (target_here-lt x h) (frame_here-lt x)).0

    pub unit_here-lt : (unit_here y x).unit < width y
    unfolding unit_here
    unit_here-lt = (unit_in_lem y v (frame_here y x) (target_here y x) (target_here-lt x h) (frame_here-lt x)).1

    -- a byte of a data unit is the image byte of its file offset
    pub image_back : (unit_here y x).unit < y.n → image_byte y (offset_of y (unit_here y x).group (unit_here y x).unit (offset_here y x)) ≡ x
    unfolding image_byte
    image_back d = (λ j. spot y (offset_group g c o d ho j) (offset_unit g c o d ho j) (offset_byte g c o d ho j)) ∙ spot-here
      where
        g : ℕ
        g = (unit_here y x).group

        c : ℕ
        c = (unit_here y x).unit

        o : ℕ
        o = offset_here y x

        ho : o < y.u
        ho = offset_here-lt x

  -- ---- no two bytes of the file share a byte of the image

  pub image_apart : (x x' : ℕ) → x < capacity y → x' < capacity y → image_byte y x ≡ image_byte y x' → x ≡ x'
  unfolding image_byte
  image_apart x x' h h' e =
      sym (offset_is x)
      ∙ (λ j. offset_of y (units j).group (units j).unit (bytes j))
      ∙ offset_is x'
    where
      bytes : byte_in y x ≡ byte_in y x'
      bytes =
          sym (offset_there (group_of y x) (unit_in y x) (byte_in y x) (group_lt x h) (unit_in_width x) (byte_lt x))
          ∙ ap (offset_here y) e
          ∙ offset_there (group_of y x') (unit_in y x') (byte_in y x') (group_lt x' h') (unit_in_width x') (byte_lt x')

      units : ◌≡◌ {A = Unit} (record { group = group_of y x; unit = unit_in y x }) (record { group = group_of y x'; unit = unit_in y x' })
      units =
          sym (unit_there (group_of y x) (unit_in y x) (byte_in y x) (group_lt x h) (unit_in_width x) (byte_lt x))
          ∙ ap (unit_here y) e
          ∙ unit_there (group_of y x') (unit_in y x') (byte_in y x') (group_lt x' h') (unit_in_width x') (byte_lt x')
