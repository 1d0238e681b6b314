-- What the code makes of an image byte with the rows in hand is the byte's place, its unit, its byte there and its file offset.
use Rattle.std.specs.Prelude.{◌≡◌, ℕ, ◌*◌, ◌/◌, ◌%◌, ◌≤◌, ◌<◌, ltb}
use Rattle.std.proofs.Math.Path.{ap, subst⁻¹}
use Rattle.std.proofs.Common.{◌∙◌, mul-le-mul, mul-pos, arith}
use Rattle.numbers.specs.declared.Layout.{Layout}
use Rattle.numbers.specs.Layouts.{Valid, rows, frames, all_groups, image_length}
use Rattle.place.specs.declared.Unit.{Unit}
use Rattle.place.specs.Places.{unit_of}
use Rattle.place.specs.Bytes.{target_here, frame_here, offset_here, unit_here}
use Rattle.place.specs.ByteLaws.{target_here-lt, frame_here-lt, offset_here-lt, group_here-lt}
use Rattle.layout.specs.declared.Traced.{Traced}
use Rattle.layout.specs.Offsets.{file_offset}

-- the bytes of a target: some, and few enough to be counted in 64 bits
pub record DriveFits (y : Layout) (l : ℕ) : Type 0 where
  pub frames : l * y.t ≤ 1441792
  pub bytes : l * y.t * y.u ≤ 5905580032
  pub some : 0 < l * y.t * y.u

pub drive_fits : (y : Layout) → Valid y → (l : ℕ) → 0 < l → l ≤ 22 → DriveFits y l
drive_fits y v l some few =
    let frames : l * y.t ≤ 1441792 = omega (arith, mul-le-mul few v.few_tiles) in
    record { frames = frames; bytes = omega (arith, mul-le-mul frames v.few_bytes); some = mul-pos (mul-pos some v.some_tiles) v.some_bytes }

-- the bounds of what stands on the way to the file offset of a byte of a data unit
pub record OffsetFits (y : Layout) (g c : ℕ) : Type 0 where
  pub whole : y.n * y.u ≤ 65536
  pub before : y.n * y.u * g ≤ 274877906944
  pub within : y.u * c ≤ 65536

pub offset_fits : (y : Layout) → Valid y → (g c : ℕ) → g ≤ 4194304 → c < y.n → OffsetFits y g c
offset_fits y v g c hg hc =
    let whole : y.n * y.u ≤ 65536 = omega (arith, mul-le-mul v.few_data v.few_bytes) in
    let unit : c ≤ 16 = omega arith in
    record { whole = whole; before = omega (arith, mul-le-mul whole hg); within = omega (arith, mul-le-mul v.few_bytes unit) }

-- the answer for byte o of unit a whose file offset is f
abbrev answered : Layout → Unit → ℕ → ℕ → Traced
answered y a o f = record { refusal = 0; group = a.group; unit = a.unit; byte = o; is_data = ltb a.unit y.n; offset = f }

-- an image byte by the rows in hand
module _ (y : Layout) (x l : ℕ) (is : l ≡ rows y) where
  pub byte_place : Valid y → x < image_length y → (x % (l * y.t * y.u) / y.u < frames y) × (x / (l * y.t * y.u) < y.p)
  unfolding frame_here target_here
  byte_place v h =
      subst⁻¹ (λ (r : ℕ). (x % (r * y.t * y.u) / y.u < frames y) × (x / (r * y.t * y.u) < y.p)) is (frame_here-lt y v x, target_here-lt y v x h)

  byte_is : x % (l * y.t * y.u) % y.u ≡ offset_here y x
  unfolding offset_here
  byte_is = ap (λ (r : ℕ). x % (r * y.t * y.u) % y.u) is

  -- and by the unit that was found there
  module _ (a : Unit) (found : a ≡ unit_of y (x % (l * y.t * y.u) / y.u) (x / (l * y.t * y.u))) where
    unit_is : a ≡ unit_here y x
    unfolding unit_here frame_here target_here
    unit_is = found ∙ ap (λ (r : ℕ). unit_of y (x % (r * y.t * y.u) / y.u) (x / (r * y.t * y.u))) is

    pub found_inside : Valid y → x < image_length y → (a.group < all_groups y) × (x % (l * y.t * y.u) % y.u < y.u)
    found_inside v h =
        (subst⁻¹ (λ (b : Unit). b.group < all_groups y) unit_is (group_here-lt y v x h), subst⁻¹ (λ (o : ℕ). o < y.u) byte_is (offset_here-lt y v x))

    pub found-answer : (f : ℕ) → f ≡ file_offset y a (x % (l * y.t * y.u) % y.u)
        → answered y a (x % (l * y.t * y.u) % y.u) f ≡ answered y (unit_here y x) (offset_here y x) (file_offset y (unit_here y x) (offset_here y x))
    found-answer f e = ap (answered y a (x % (l * y.t * y.u) % y.u)) e ∙ (λ i. answered y (unit_is i) (byte_is i) (file_offset y (unit_is i) (byte_is i)))
