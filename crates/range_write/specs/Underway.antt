-- A write under way, group by group: what is done once the groups below g are written, one group more, and the end.
use Rattle.std.specs.Prelude.{◌≡◌, refl, true, not, List, ℕ, ◌+◌, ◌*◌, ◌/◌, ◌<◌, ◌≤◌, length, get_or}
use Rattle.std.proofs.Common.{subst, ◌∙◌, mul_comm, mul_assoc, mul_left_comm, mul-le-mul, mul-le-mul_left, mod-lt, arith}
use Rattle.std.proofs.Math.Path.{subst⁻¹}
use Rattle.std.proofs.Math.Nat.{div-add-mod}
use Rattle.lists.specs.Pick.{both_true}
use Rattle.lists.specs.Digits.{div_of, div_below}
use Rattle.numbers.specs.declared.Layout.{Layout}
use Rattle.numbers.specs.Layouts.{Valid, contents, all_groups, capacity, image_length}
use Rattle.numbers.specs.Shapes.{layout_products}
use Rattle.place.specs.Bytes.{offset_here}
use Rattle.place.specs.ByteLaws.{data_bytes}
use Rattle.homes.specs.declared.Record.{Record}
use Rattle.homes.specs.Missing.{missing}
use Rattle.pool.specs.Asked.{Sound}
use Rattle.pool.specs.Storing.{storing, cell_after}
use Rattle.pool.specs.Writing.{written_image}
use Rattle.pool.specs.Cuts.{writes_span}
use Rattle.plan.specs.declared.Plan.{Plan}
use Rattle.plan.specs.Plans.{at_of, Fits, Apart}
use Rattle.lists.specs.Lays.{Lays}
use Rattle.groups.specs.Write.{on_at, val_at, Named}
use Rattle.lists.specs.Between.{between, between_in}
use Rattle.lists.specs.Sweep.{byte_after, upto, upto-none, sweep_step, upto_done}
use Rattle.survey.specs.Surveyed.{Surveyed, fits, apart}
use Rattle.survey.specs.Placing.{start_of, group_here, content_here, placed}
use Rattle.range_write.specs.Columns.{stores_at, stored_at, lays_here, stored_local}

-- the data bytes of a group
abbrev pub data_span : Layout → ℕ
data_span y = y.n * y.u

module _ (y : Layout) (R : Record) (len : ℕ) (s : Sound y R len) where
  pub repaired_few : R.q ≤ y.k
  repaired_few = omega (arith, s.good.mended, s.good.few)

  -- byte x once the groups from the first that is named on and below g are written
  abbrev pub part_written : ℕ → List ℕ → List ℕ → ℕ → ℕ → ℕ
  part_written offset bytes img g x =
      upto (all_groups y) (contents y) y.u (image_length y) (start_of y R R.q) (group_here y) (content_here y R R.q) (offset_here y) (placed y s.valid R R.q repaired_few)
      (stores_at y R offset (length bytes)) (stored_at y R offset bytes) (offset / data_span y) img g x

pub record Underway (y : Layout) (R : Record) (img₀ : List ℕ) (offset : ℕ) (bytes : List ℕ) (g from : ℕ) (img : List ℕ) : Type 0 where
  pub sound : Sound y R (length img₀)
  pub range : offset + length bytes ≤ capacity y
  pub first : offset / data_span y ≤ g
  pub from_is : from ≡ data_span y * g
  pub same : length img ≡ length img₀
  pub done : (x : ℕ) → x < length img₀ → get_or img x 0 ≡ part_written y R (length img₀) sound offset bytes img₀ g x

-- ---- groups and file bytes

module _ (y : Layout) (v : Valid y) where
  pub span_few : data_span y ≤ 65536
  span_few = mul-le-mul v.few_data v.few_bytes

  span_capacity : capacity y ≡ data_span y * all_groups y
  span_capacity = simp (mul_assoc, mul_comm, mul_left_comm) refl

  -- a group that begins before another does comes before it
  earlier : (g h : ℕ) → data_span y * g < data_span y * h → g < h
  earlier g h lt =
      subst (λ (q : ℕ). q < h) (div_of (data_span y) g (data_bytes y v))
      (div_below (data_span y * g + 0) (data_span y) h (data_bytes y v) (omega arith))

  -- the first group that is named holds the first byte that is named
  pub first_holds : (offset g : ℕ) → offset / data_span y ≤ g → offset < data_span y * g + data_span y
  first_holds offset g le =
      omega (arith, div-add-mod offset (data_span y), mod-lt offset (data_bytes y v), mul-le-mul_left (data_span y) le)

pub underway-start : (y : Layout) (R : Record) (img : List ℕ) (offset : ℕ) (bytes : List ℕ) → Sound y R (length img) → offset + length bytes ≤ capacity y
    → Underway y R img offset bytes (offset / data_span y) (data_span y * (offset / data_span y)) img
underway-start y R img offset bytes s range =
    record {
      sound = s;
      range = range;
      first = omega arith;
      from_is = refl;
      same = refl;
      done = λ x h.
          upto-none (all_groups y) (contents y) y.u (image_length y) (start_of y R R.q) (group_here y) (content_here y R R.q) (offset_here y)
          (placed y s.valid R R.q (repaired_few y R (length img) s)) (stores_at y R offset (length bytes)) (stored_at y R offset bytes) (offset / data_span y) img x;
    }

module _ (y : Layout) (R : Record) (img₀ : List ℕ) (offset : ℕ) (bytes : List ℕ) (g from : ℕ) (img : List ℕ) (w : Underway y R img₀ offset bytes g from img) where
  -- ---- one group more
  module _ (more : from < offset + length bytes) where
    pub group_inside : g < all_groups y
    group_inside = earlier y w.sound.valid g (all_groups y) (omega (arith, w.range, w.from_is, span_capacity y w.sound.valid))

    module _ (P : Plan) (s : Surveyed y R R.q g P) where
      pub fits_here : Fits P (length img)
      fits_here =
          subst⁻¹ (Fits P) (w.same ∙ w.sound.len_is)
          (fits y w.sound.valid R w.sound.good R.q (repaired_few y R (length img₀) w.sound) g group_inside P s)

      pub apart_here : Apart P
      apart_here = apart y w.sound.valid R w.sound.good R.q (repaired_few y R (length img₀) w.sound) g group_inside P s

      pub named_here : Named P.n P.u from offset (length bytes)
      named_here =
          let v = w.sound.valid in
          let few = (layout_products y v).capacity in
          let holds : offset < from + data_span y = omega (arith, first_holds y v offset g w.first, w.from_is) in
          record {
            n_pos = omega (arith, s.n_is, v.some_data);
            u_pos = omega (arith, s.u_is, v.some_bytes);
            s-max = omega (arith, few, w.range);
            e_max = omega (arith, few, w.range);
            before = subst⁻¹ (λ (n : ℕ). offset < from + n * P.u) s.n_is (subst⁻¹ (λ (u : ℕ). offset < from + y.n * u) s.u_is holds);
            after = more;
          }

      pub underway_next : (img' : List ℕ)
          → Lays (P.n + P.k) P.u (at_of P) (on_at P from offset (length bytes)) (val_at P img bytes from offset) img img'
          → Underway y R img₀ offset bytes (g + 1) (from + data_span y) img'
      underway_next img' l =
          let v = w.sound.valid in
          record {
            sound = w.sound;
            range = w.range;
            first = omega (arith, w.first);
            from_is = omega (arith, w.from_is);
            same = l.same ∙ w.same;
            done =
                sweep_step (all_groups y) (contents y) y.u (image_length y) (start_of y R R.q) (group_here y) (content_here y R R.q) (offset_here y)
                (placed y w.sound.valid R R.q (repaired_few y R (length img₀) w.sound)) (stores_at y R offset (length bytes)) (stored_at y R offset bytes)
                (offset / data_span y) g w.first group_inside img₀ img img'
                (λ c o hc ho. stored_local y v R w.sound.good g P s from w.from_is offset bytes img img₀ c o)
                w.sound.len_is w.same w.done
                (lays_here y v R w.sound.good g P s from w.from_is offset bytes img img' l);
          }

  -- ---- the end
  module _ (over : offset + length bytes ≤ from) where
    -- a group in which something is stored is one of those written
    stores_between : (h c o : ℕ) → h < all_groups y → c < contents y → o < y.u → stores_at y R offset (length bytes) h c o ≡ true
        → between (offset / data_span y) g h ≡ true
    stores_between h c o hh hc ho t =
        let v = w.sound.valid in
        let b = writes_span y offset (length bytes) h o c ho (both_true (not (missing y R h c)) _ t).1 in
        between_in (offset / data_span y) g h
        (let z = div_below offset (data_span y) (h + 1) (data_bytes y v) (omega (arith, b.1)) in omega arith)
        (earlier y v h g (omega (arith, b.0, w.from_is)))

    pub underway-done : img ≡ written_image y R img₀ offset bytes
    unfolding storing cell_after byte_after
    underway-done =
        upto_done (all_groups y) (contents y) y.u (image_length y) (start_of y R R.q) (group_here y) (content_here y R R.q) (offset_here y)
        (placed y w.sound.valid R R.q (repaired_few y R (length img₀) w.sound)) (stores_at y R offset (length bytes)) (stored_at y R offset bytes) (offset / data_span y) g img₀ img
        w.sound.len_is w.same stores_between w.done
