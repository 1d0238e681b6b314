-- The bytes of a group's data are those of the file from the group's first byte on.
use Rattle.std.specs.Prelude.{◌≡◌, refl, List, ℕ, ◌+◌, ◌*◌, ◌/◌, ◌%◌, ◌≤◌, ◌<◌, ltb, length, get_or}
use Rattle.std.proofs.Math.Path.{sym, ap}
use Rattle.std.proofs.Common.{subst, ◌∙◌, mul_comm, mul_assoc, mul_left_comm, mul-le-mul_right, mul-le-mul, mul-pos, add-mul, one-mul, div-mul-le_self, arith}
use Rattle.lists.specs.Pick.{pick, below_or_not}
use Rattle.lists.specs.Tabulate.{length-tabulate}
use Rattle.lists.specs.Digits.{div_of, mod_of, div_below}
use Rattle.numbers.specs.declared.Layout.{Layout}
use Rattle.numbers.specs.Layouts.{Valid, all_groups, capacity}
use Rattle.numbers.specs.Shapes.{layout_products}
use Rattle.place.specs.Bytes.{group_of, unit_in, byte_in}
use Rattle.homes.specs.declared.Record.{Record}
use Rattle.homes.specs.Records.{Good}
use Rattle.pool.specs.Contents.{content_byte, file_byte}
use Rattle.plan.specs.declared.Plan.{Plan}
use Rattle.plan.specs.Plans.{held}
use Rattle.groups.specs.Read.{group_byte, group_read, file_step}
use Rattle.survey.specs.Surveyed.{Surveyed, held_is}

-- the first byte of the group that holds an offset is not after it
pub first_byte : (offset size : ℕ) → offset / size * size ≤ offset
first_byte offset size = div-mul-le_self offset size

module _ (y : Layout) (v : Valid y) where
  -- a group whose first byte is one of the file is one of the pool
  pub group_in : (g : ℕ) → g * (y.n * y.u) < capacity y → g < all_groups y
  group_in g h =
      below_or_not g (all_groups y) (λ (l : g < all_groups y). l)
      (λ (l : all_groups y ≤ g). let m = mul-le-mul_right (y.n * y.u) l in absurd (omega (arith, m, h, regroup)))
    where
      regroup : all_groups y * (y.n * y.u) ≡ capacity y
      regroup = simp (mul_assoc, mul_comm, mul_left_comm) refl

  -- numbers that fit
  pub small : (y.n * y.u ≤ 65536) × (capacity y ≤ 274877906944) × (all_groups y ≤ 4194304) × (0 < y.n * y.u)
  small = (omega (arith, mul-le-mul v.few_data v.few_bytes), (layout_products y v).capacity, (layout_products y v).groups, mul-pos v.some_data v.some_bytes)

  module _ (R : Record) (good : Good y R) (g : ℕ) (P : Plan) (s : Surveyed y R R.q g P) (img : List ℕ) where
    pub group_file : (z : ℕ) → z < P.n * P.u → group_byte P img z ≡ file_byte y R img (g * (y.n * y.u) + z)
    unfolding group_byte file_byte group_of unit_in byte_in
    group_file z h =
        ap (λ (u : ℕ). held P img (z % u) (z / u)) s.u_is
        ∙ held_is y v R good g P s img (z % y.u) (z / y.u) (omega (arith, unit_lt))
        ∙ sym
        ((λ i. content_byte y R img (group i) (rest i % y.u) (rest i / y.u)))
      where
        inside : z < y.n * y.u
        inside = (subst (λ (n : ℕ). z < n) (λ i. s.n_is i * s.u_is i) h)

        unit_lt : z / y.u < y.n
        unit_lt = div_below z y.u y.n v.some_bytes (subst (λ (n : ℕ). z < n) (mul_comm y.n y.u) inside)

        at_is : g * (y.n * y.u) + z ≡ y.n * y.u * g + z
        at_is = ap (λ (m : ℕ). m + z) (mul_comm g (y.n * y.u))

        group : (g * (y.n * y.u) + z) / (y.n * y.u) ≡ g
        group = ap (λ (x : ℕ). x / (y.n * y.u)) at_is ∙ div_of (y.n * y.u) g inside

        rest : (g * (y.n * y.u) + z) % (y.n * y.u) ≡ z
        rest = ap (λ (x : ℕ). x % (y.n * y.u)) at_is ∙ mod_of (y.n * y.u) g inside

    -- a turn of the loop: the group's bytes are read
    pub read_turn : (offset from : ℕ) (out₀ out out' : List ℕ) → from ≡ g * (y.n * y.u) → length out ≡ length out₀
        → ((x : ℕ) → x < length out₀ → get_or out x 0 ≡ pick (ltb (offset + x) from) (file_byte y R img (offset + x)) (get_or out₀ x 0))
        → out' ≡ group_read P img from offset out
        → (x : ℕ) → x < length out₀ → get_or out' x 0 ≡ pick (ltb (offset + x) (from + y.n * y.u)) (file_byte y R img (offset + x)) (get_or out₀ x 0)
    read_turn offset from out₀ out out' e el done r x h =
        file_step (file_byte y R img) offset out₀ P img from out out' el
        (λ z b. group_file z b ∙ ap (λ (f : ℕ). file_byte y R img (f + z)) (sym e)) done r x h
        ∙ (λ i. pick (ltb (offset + x) (from + s.n_is i * s.u_is i)) (file_byte y R img (offset + x)) (get_or out₀ x 0))

pub length_read : (P : Plan) (img : List ℕ) (s a : ℕ) (out out' : List ℕ) → out' ≡ group_read P img s a out → length out' ≡ length out
unfolding group_read
length_read P img s a out out' e = ap length e ∙ length-tabulate (length out) _

pub next_first : (g d : ℕ) → g * d + d ≡ (g + 1) * d
next_first g d = sym (add-mul g 1 d ∙ ap (λ (x : ℕ). g * d + x) (one-mul d))
