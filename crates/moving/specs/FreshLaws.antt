-- A new pool that holds a file: what stands at each content's own place and in the spares, that it holds the file, what reads of it show, and that
-- an image with zero spares and the parity of its own data is the new pool of the file that it shows.
use Rattle.std.specs.Prelude.{◌≡◌, List, ℕ, ◌≤◌, ◌<◌, ltb, length}
use Rattle.std.proofs.Math.Path.{refl, sym, ap}
use Rattle.std.proofs.Common.{◌∙◌, not-suc-le-zero, lt-ltb, le-ltb}
use native.Mathlib.Omega.{arith}
use Rattle.lists.specs.Pick.{pick_true, pick-false, below_or_not}
use Rattle.lists.specs.Tabulate.{at, length-tabulate, get_d_tabulate, tabulated}
use Rattle.numbers.specs.declared.Layout.{Layout}
use Rattle.numbers.specs.Layouts.{Valid, width, all_groups, contents, capacity, image_length}
use Rattle.place.specs.Bytes.{spot, group_of, unit_in, byte_in, offset_of, unit_here, offset_here}
use Rattle.place.specs.ByteLaws.{spot_in, spot-here, group_there, unit_there', offset_there, group_here-lt, offset_here-lt}
use Rattle.place.specs.ByteLaws.{group_lt, unit_lt, byte_lt, offset_is, offset_lt, offset_group, offset_unit, offset_byte}
use Rattle.parity.specs.Group.{rebuilt}
use Rattle.parity.specs.Content.{content_data, content_cong}
use Rattle.homes.specs.declared.Record.{Record}
use Rattle.homes.specs.Records.{Good}
use Rattle.homes.proofs.MissingLaws.{home-own, unfailed-present}
use Rattle.pool.specs.Contents.{stored, content_byte, file_byte}
use Rattle.pool.specs.Files.{encoded}
use Rattle.pool.specs.Asked.{Sound}
use Rattle.pool.specs.Holds.{Holds}
use Rattle.moving.specs.Fresh.{unfailed, fresh_byte, fresh_image, Clean}
use Rattle.moving.specs.Moving.{shown_file}

-- ---- under an empty list each content is at its own place

pub unfailed-good : (y : Layout) (room : List ℕ) → Good y (unfailed room)
unfailed-good y room = record { few = omega arith; mended = omega arith; below = λ i b. absurd (not-suc-le-zero b); once = λ i b. absurd (not-suc-le-zero b) }

pub unfailed-sound : (y : Layout) → Valid y → (room : List ℕ) (len : ℕ) → len ≡ image_length y → Sound y (unfailed room) len
unfailed-sound y v room len e = record { valid = v; len_is = e; good = unfailed-good y room; within = omega arith }

module _ (y : Layout) (room img : List ℕ) (g o c : ℕ) where
  pub stored-own : stored y (unfailed room) img g o c ≡ at img (spot y g c o)
  unfolding stored
  stored-own = ap (λ (u : ℕ). at img (spot y g u o)) (home-own y (unfailed room) g 0 c refl)

  pub content-own : content_byte y (unfailed room) img g o c ≡ at img (spot y g c o)
  unfolding content_byte rebuilt
  content-own = pick-false _ _ _ (unfailed-present y (unfailed room) refl g c) ∙ stored-own

-- ---- the file that a pool shows, by group, unit and byte

module _ (y : Layout) (v : Valid y) (R : Record) (img : List ℕ) where
  pub shown-length : length (shown_file y R img) ≡ capacity y
  unfolding shown_file
  shown-length = length-tabulate (capacity y) (file_byte y R img)

  pub shown-at : (x : ℕ) → x < capacity y → at (shown_file y R img) x ≡ file_byte y R img x
  unfolding shown_file
  shown-at x h = get_d_tabulate (capacity y) (file_byte y R img) x 0 h

  pub shown-content : (g o j : ℕ) → g < all_groups y → o < y.u → j < y.n → at (shown_file y R img) (offset_of y g j o) ≡ content_byte y R img g o j
  unfolding file_byte
  shown-content g o j hg ho hj =
      shown-at (offset_of y g j o) (offset_lt y v g j o hg hj ho)
      ∙ (λ i. content_byte y R img (offset_group y v g j o hj ho i) (offset_byte y v g j o hj ho i) (offset_unit y v g j o hj ho i))

-- ---- the new pool

module _ (y : Layout) (v : Valid y) (file : List ℕ) where
  pub fresh_length : length (fresh_image y file) ≡ image_length y
  unfolding fresh_image
  fresh_length = length-tabulate (image_length y) _

  fresh_here : (x : ℕ) → x < image_length y → at (fresh_image y file) x ≡ fresh_byte y file (unit_here y x).group (offset_here y x) (unit_here y x).unit
  unfolding fresh_image
  fresh_here x h = get_d_tabulate (image_length y) _ x 0 h

  -- every content at its own place
  pub fresh_at : (g o c : ℕ) → g < all_groups y → o < y.u → c < contents y → at (fresh_image y file) (spot y g c o) ≡ encoded y file g o c
  unfolding fresh_byte
  fresh_at g o c hg ho hc =
      let hu : c < width y = omega arith in
      fresh_here (spot y g c o) (spot_in y v g c o hg hu ho)
      ∙ (λ i. fresh_byte y file (group_there y v g c o hg hu ho i) (offset_there y v g c o hg hu ho i) (unit_there' y v g c o hg hu ho i))
      ∙ pick_true (ltb c (contents y)) _ _ (lt-ltb c (contents y) hc)

  -- "zero spares"
  pub fresh_spare : (x : ℕ) → x < image_length y → contents y ≤ (unit_here y x).unit → at (fresh_image y file) x ≡ 0
  unfolding fresh_byte
  fresh_spare x h le = fresh_here x h ∙ pick-false (ltb (unit_here y x).unit (contents y)) _ _ (le-ltb (unit_here y x).unit (contents y) le)

  -- it holds the file
  pub fresh_holds : (room : List ℕ) → length file ≡ capacity y → ((x : ℕ) → x < length file → at file x < 256) → Holds y (unfailed room) (fresh_image y file) file
  fresh_holds room len bytes =
      record {
        image_length_lem = fresh_length;
        file_length = len;
        file_bytes = bytes;
        present = λ g o c hg ho hc m. stored-own y room (fresh_image y file) g o c ∙ fresh_at g o c hg ho hc;
      }

  -- reads of it show the file, whatever its numbers are
  pub fresh_shown : (room : List ℕ) (x : ℕ) → x < capacity y → file_byte y (unfailed room) (fresh_image y file) x ≡ at file x
  unfolding file_byte encoded
  fresh_shown room x h =
      let hc = unit_lt y v x in
      content-own y room (fresh_image y file) (group_of y x) (byte_in y x) (unit_in y x)
      ∙ fresh_at (group_of y x) (byte_in y x) (unit_in y x) (group_lt y v x h) (byte_lt y v x) (omega arith)
      ∙ content_data y.n _ (unit_in y x) hc
      ∙ ap (at file) (offset_is y v x)

  pub fresh_file : (room : List ℕ) → length file ≡ capacity y → shown_file y (unfailed room) (fresh_image y file) ≡ file
  unfolding shown_file
  fresh_file room len = sym (tabulated (capacity y) _ file 0 len (λ x h. sym (fresh_shown room x h)))

  -- and it has zero spares and the parity of its own data
  pub fresh_clean : Clean y (fresh_image y file)
  unfolding encoded
  fresh_clean =
      record {
        len_is = fresh_length;
        spares = fresh_spare;
        parity = λ g o c hg ho l hc.
            fresh_at g o c hg ho hc
            ∙ content_cong y.n _ (λ j. at (fresh_image y file) (spot y g j o)) (λ j b. sym (fresh_at g o j hg ho (omega arith) ∙ content_data y.n _ j b)) c;
      }

-- ---- an image that has both is the new pool of the file that it shows

module _ (y : Layout) (v : Valid y) (room img : List ℕ) (k : Clean y img) where
  abbrev shown : List ℕ
  shown = shown_file y (unfailed room) img

  encodes : (g o c : ℕ) → g < all_groups y → o < y.u → c < contents y → encoded y shown g o c ≡ at img (spot y g c o)
  unfolding encoded
  encodes g o c hg ho hc =
      content_cong y.n _ (λ j. at img (spot y g j o))
      (λ j b. shown-content y v (unfailed room) img g o j hg ho b ∙ content-own y room img g o j) c
      ∙ below_or_not c y.n (λ (l : c < y.n). content_data y.n _ c l) (λ (l : y.n ≤ c). sym (k.parity g o c hg ho l hc))

  pub clean_fresh : img ≡ fresh_image y shown
  unfolding fresh_image fresh_byte
  clean_fresh = tabulated (image_length y) _ img 0 k.len_is by
    where
      by : (x : ℕ) → x < image_length y → at img x ≡ fresh_byte y shown (unit_here y x).group (offset_here y x) (unit_here y x).unit
      by x h =
          let g = (unit_here y x).group in
          let o = offset_here y x in
          let u = (unit_here y x).unit in
          below_or_not u (contents y)
          (λ (l : u < contents y).
          ap (at img) (sym (spot-here y v x h))
          ∙ sym (encodes g o u (group_here-lt y v x h) (offset_here-lt y v x) l)
          ∙ sym (pick_true (ltb u (contents y)) _ _ (lt-ltb u (contents y) l)))
          (λ (l : contents y ≤ u). k.spares x h l ∙ sym (pick-false (ltb u (contents y)) _ _ (le-ltb u (contents y) l)))

-- a pool with an empty list that holds a file, as every run of writes leaves it, has the parity of its own data
pub holds_clean : (y : Layout) (room img file : List ℕ) → Holds y (unfailed room) img file
    → ((x : ℕ) → x < image_length y → contents y ≤ (unit_here y x).unit → at img x ≡ 0) → Clean y img
unfolding encoded
holds_clean y room img file k spares =
    record {
      len_is = k.image_length_lem;
      spares = spares;
      parity = λ g o c hg ho l hc.
          held g o c hg ho hc
          ∙ content_cong y.n _ (λ j. at img (spot y g j o)) (λ j b. sym (held g o j hg ho (omega arith) ∙ content_data y.n _ j b)) c;
    }
  where
    held : (g o c : ℕ) → g < all_groups y → o < y.u → c < contents y → at img (spot y g c o) ≡ encoded y file g o c
    held g o c hg ho hc = sym (stored-own y room img g o c) ∙ k.present g o c hg ho hc (unfailed-present y (unfailed room) refl g c)
