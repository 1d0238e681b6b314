-- The image holds a file: each present content is what encoding the file puts there. Zeros hold zeros; then every content can be told, and a
-- read shows the file.
use Rattle.std.specs.Prelude.{◌≡◌, refl, Bool, true, false, List, ℕ, zero, suc, ◌+◌, ◌-◌, ◌<◌, ltb, length}
use Rattle.std.proofs.Common.{sym, ap₂, ◌∙◌, subst, arith, lit<}
use Rattle.std.proofs.Math.Path.{ap}
use Rattle.lists.specs.Pick.{pick}
use Rattle.lists.specs.Tabulate.{at, zeros, length-tabulate, get_d_tabulate, tabulate_ext}
use Rattle.lists.specs.Refusal.{grant_yes}
use Rattle.numbers.specs.declared.Layout.{Layout}
use Rattle.numbers.specs.Layouts.{Valid, all_groups, contents, capacity, image_length}
use Rattle.place.specs.Bytes.{group_of, unit_in, byte_in, offset_of}
use Rattle.place.specs.ByteLaws.{spot_in, offset_lt, offset_is, group_lt, unit_lt, byte_lt}
use Rattle.field.specs.Byte.{◌⊕◌, mul}
use Rattle.field.specs.Laws.{mul-zero}
use Rattle.field.specs.Ring.{⊕-zero}
use Rattle.field.specs.Sum.{sum_to}
use Rattle.systems.specs.Coef.{coef}
use Rattle.parity.specs.Group.{parity_of, content, Solvable}
use Rattle.parity.specs.Content.{content_data, content_cong}
use Rattle.parity.specs.Restores.{restores}
use Rattle.parity.specs.Lowest.{Rebuilds, rebuilds}
use Rattle.homes.specs.declared.Record.{Record}
use Rattle.homes.specs.Records.{Good}
use Rattle.homes.specs.Missing.{home, missing}
use Rattle.homes.proofs.MissingLaws.{home-lt, few-missing}
use Rattle.pool.specs.Contents.{home_spot, stored, content_byte, file_byte}
use Rattle.pool.specs.Refusals.{range_refusal}
use Rattle.pool.specs.Reading.{read_out}
use Rattle.pool.specs.Files.{part, encoded}
use Rattle.pool.specs.Asked.{range_asked}

pub record Holds (y : Layout) (R : Record) (img file : List ℕ) : Type 0 where
  pub image_length_lem : length img ≡ image_length y
  pub file_length : length file ≡ capacity y
  pub file_bytes : (x : ℕ) → x < length file → at file x < 256
  pub present : (g o c : ℕ) → g < all_groups y → o < y.u → c < contents y → missing y R g c ≡ false → stored y R img g o c ≡ encoded y file g o c

-- a home is a byte of the image
pub home-spot-lt : (y : Layout) (R : Record) → Valid y → Good y R → (g o c : ℕ) → g < all_groups y → o < y.u → c < contents y → home_spot y R g o c < image_length y
home-spot-lt y R v r g o c hg ho hc =
    let f = r.few in
    let q = r.mended in
    spot_in y v g (home y R R.q g c) o hg (home-lt y v R g R.q (omega arith) c hc) ho

-- what the code's algebra asks: at most K contents of a group are missing
pub solvable : (y : Layout) (R : Record) → Valid y → Good y R → (g : ℕ) → Solvable y.n y.k (missing y R g)
solvable y R v r g = record { data_max = v.few_data; parity_max = v.few_parity; few = few-missing y v R g r }

-- ---- zeros hold zeros

sum-zero : (n : ℕ) (f : ℕ → ℕ) → sum_to n (λ j. mul (f j) 0) ≡ 0
unfolding sum_to
sum-zero zero f = refl
sum-zero (suc n) f = ap₂ ◌⊕◌ (sum-zero n f) (mul-zero (f n)) ∙ ⊕-zero 0

content-zero : (n u : ℕ) → content n (λ j. 0) u ≡ 0
unfolding content parity_of
content-zero n u = by (ltb u n)
  where
    by : (t : Bool) → pick t 0 (sum_to n (λ j. mul (coef (u - n) j) 0)) ≡ 0
    by true = refl
    by false = sum-zero n (coef (u - n))

pub zeros_hold : (y : Layout) (R : Record) → Valid y → Good y R → Holds y R (zeros (image_length y)) (zeros (capacity y))
unfolding stored encoded
zeros_hold y R v r =
    record {
      image_length_lem = length-tabulate (image_length y) _;
      file_length = length-tabulate (capacity y) _;
      file_bytes = λ x h. subst (λ (b : ℕ). b < 256) (sym (get_d_tabulate (capacity y) _ x 0 (subst (λ (m : ℕ). x < m) (length-tabulate (capacity y) (λ i. 0)) h))) (lit< tt);
      present = λ g o c hg ho hc m.
          get_d_tabulate (image_length y) (λ i. 0) (home_spot y R g o c) 0 (home-spot-lt y R v r g o c hg ho hc)
          ∙ sym (content_cong y.n _ (λ j. 0) (λ j b. get_d_tabulate (capacity y) (λ i. 0) (offset_of y g j o) 0 (offset_lt y v g j o hg b ho)) c ∙ content-zero y.n c);
    }

-- ---- every content is what the file encodes to, also one that is missing

module _ (y : Layout) (R : Record) (img file : List ℕ) (v : Valid y) (r : Good y R) (k : Holds y R img file) where
  file_byte_lt : (g o j : ℕ) → g < all_groups y → o < y.u → j < y.n → at file (offset_of y g j o) < 256
  file_byte_lt g o j hg ho hj = k.file_bytes (offset_of y g j o) (subst (λ (m : ℕ). offset_of y g j o < m) (sym k.file_length) (offset_lt y v g j o hg hj ho))

  -- the one use of the code's algebra
  pub content_holds : (g o c : ℕ) → g < all_groups y → o < y.u → c < contents y → content_byte y R img g o c ≡ encoded y file g o c
  unfolding content_byte encoded
  content_holds g o c hg ho hc =
      restores y.n y.k (missing y R g) (solvable y R v r g) (stored y R img g o)
      (λ j. at file (offset_of y g j o)) (λ j b. file_byte_lt g o j hg ho b)
      (λ u b t. k.present g o u hg ho b t) c hc

  pub data_holds : (g o c : ℕ) → g < all_groups y → o < y.u → c < y.n → content_byte y R img g o c ≡ at file (offset_of y g c o)
  unfolding encoded
  data_holds g o c hg ho hc = content_holds g o c hg ho (omega arith) ∙ content_data y.n _ c hc

  pub file_shown : (x : ℕ) → x < capacity y → file_byte y R img x ≡ at file x
  unfolding file_byte
  file_shown x h =
      data_holds (group_of y x) (byte_in y x) (unit_in y x) (group_lt y v x h) (byte_lt y v x) (unit_lt y v x) ∙ ap (at file) (offset_is y v x)

-- ---- a read shows the file

pub read_right : (y : Layout) (R : Record) (img file : List ℕ) → Holds y R img file → (offset size : ℕ) → range_refusal y R (length img) offset size ≡ 0
    → read_out y R img offset size ≡ part file offset size
unfolding read_out
read_right y R img file k offset size z =
    let a = range_asked y R (length img) offset size z in
    let b = a.1 in
    grant_yes (range_refusal y R (length img) offset size) _ _ z
    ∙ tabulate_ext 0 size _ _ (λ i h. file_shown y R img file a.0.valid a.0.good k (offset + i) (omega arith))

-- ---- on any image of bytes a content is what a rebuilding from "the N lowest present units" promises

pub content_rebuilds : (y : Layout) (R : Record) (img : List ℕ) → Valid y → Good y R → (g o : ℕ) → ((c : ℕ) → c < contents y → stored y R img g o c < 256)
    → Rebuilds y.n y.k (missing y R g) (stored y R img g o) (content_byte y R img g o)
unfolding content_byte
content_rebuilds y R img v r g o bytes = rebuilds y.n y.k (missing y R g) (solvable y R v r g) (stored y R img g o) bytes
