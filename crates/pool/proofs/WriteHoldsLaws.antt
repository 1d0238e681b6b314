-- After a write the image holds the file with the bytes laid on.
use Rattle.std.specs.Prelude.{◌≡◌, true, ℕ, ◌-◌, ◌≤◌, ◌<◌}
use Rattle.std.proofs.Math.Path.{sym, ap, subst}
use Rattle.std.proofs.Common.{◌∙◌, arith}
use Rattle.std.proofs.Math.Logic.{⊎_elim}
use Rattle.std.proofs.Math.Bool.{false}
use mathlib.Core.List.{List}
use borrow.Author.Tests.{ltb-true}
use Rattle.std.proofs.Math.Dec.{ltb}
use Rattle.std.proofs.Math.ListN.{length}
use Rattle.lists.specs.Pick.{pick, pick_true, pick-false, either_way, equal_or_not}
use Rattle.lists.specs.Part.{within, within_of}
use Rattle.lists.specs.Search.{any, any_none}
use Rattle.lists.specs.Tabulate.{at, length-tabulate, get_d_tabulate}
use Rattle.lists.specs.Refusal.{grant_yes, grant_no}
use Rattle.numbers.specs.declared.Layout.{Layout}
use Rattle.numbers.specs.Layouts.{Valid, all_groups, contents}
use Rattle.place.specs.Bytes.{offset_of}
use Rattle.place.specs.ByteLaws.{offset_lt}
use Rattle.parity.specs.Group.{content}
use Rattle.parity.specs.Content.{content_data, content_cong}
use Rattle.homes.specs.declared.Record.{Record}
use Rattle.homes.specs.Missing.{missing}
use Rattle.pool.specs.Contents.{home_spot, stored}
use Rattle.pool.specs.Refusals.{range_refusal}
use Rattle.pool.specs.Writing.{named, touched, writes, laid, written_image, write_image}
use Rattle.pool.specs.Files.{written, encoded}
use Rattle.pool.specs.Asked.{Sound, range_asked}
use Rattle.pool.specs.StoringLaws.{storing-at, storing-length}
use Rattle.pool.specs.Holds.{Holds, data_holds}
use Rattle.pool.specs.WriteHolds.{write_refused}

-- an accepted one stores
pub write_accepted : (y : Layout) (R : Record) (img : List ℕ) (offset : ℕ) (bytes : List ℕ) → range_refusal y R (length img) offset (length bytes) ≡ 0
    → write_image y R img offset bytes ≡ written_image y R img offset bytes
unfolding write_image
write_accepted y R img offset bytes z = grant_yes (range_refusal y R (length img) offset (length bytes)) _ img z

pub write_length : (y : Layout) (R : Record) (img : List ℕ) (offset : ℕ) (bytes : List ℕ) → length (write_image y R img offset bytes) ≡ length img
write_length y R img offset bytes =
    equal_or_not (range_refusal y R (length img) offset (length bytes)) 0
    (λ z. ap length (write_accepted y R img offset bytes z) ∙ storing-length y R R.q _ _ img)
    (λ z. ap length (write_refused y R img offset bytes z))

module _ (y : Layout) (R : Record) (img file : List ℕ) (k : Holds y R img file) (offset : ℕ) (bytes : List ℕ)
    (ok : (i : ℕ) → i < length bytes → at bytes i < 256) (z : range_refusal y R (length img) offset (length bytes) ≡ 0) where
  s : Sound y R (length img)
  s = (range_asked y R (length img) offset (length bytes) z).0

  v : Valid y
  v = s.valid

  q_few : R.q ≤ y.k
  q_few = let f = s.good.few in let m = s.good.mended in omega arith

  module _ (g o : ℕ) (hg : g < all_groups y) (ho : o < y.u) where
    file_at : (c : ℕ) → c < y.n
        → at (written file offset bytes) (offset_of y g c o) ≡ pick (named y offset (length bytes) g o c) (at bytes (offset_of y g c o - offset)) (at file (offset_of y g c o))
    unfolding written
    file_at c hc = get_d_tabulate (length file) _ (offset_of y g c o) 0 (subst (λ (m : ℕ). offset_of y g c o < m) (sym k.file_length) (offset_lt y v g c o hg hc ho))

    laid_right : (c : ℕ) → c < y.n → laid y R img offset bytes g o c ≡ at (written file offset bytes) (offset_of y g c o)
    unfolding laid
    laid_right c hc = ap (pick (named y offset (length bytes) g o c) _) (data_holds y R img file v s.good k g o c hg ho hc) ∙ sym (file_at c hc)

    new_right : (c : ℕ) → content y.n (laid y R img offset bytes g o) c ≡ encoded y (written file offset bytes) g o c
    unfolding encoded
    new_right c = content_cong y.n _ _ laid_right c

    kept_byte : (c : ℕ) → c < y.n → named y offset (length bytes) g o c ≡ false → at file (offset_of y g c o) ≡ at (written file offset bytes) (offset_of y g c o)
    kept_byte c hc e = sym (file_at c hc ∙ pick-false (named y offset (length bytes) g o c) _ _ e)

    -- a content that the write does not store encodes as before
    kept_right : (c : ℕ) → writes y offset (length bytes) g o c ≡ false → encoded y file g o c ≡ encoded y (written file offset bytes) g o c
    unfolding encoded writes touched
    kept_right c e =
        ⊎_elim
        (λ (t : ltb c y.n ≡ true).
        let hc : c < y.n = ltb-true c y.n t in
        content_data y.n _ c hc
        ∙ kept_byte c hc (sym (pick_true (ltb c y.n) (named y offset (length bytes) g o c) (any (λ c. named y offset (length bytes) g o c) y.n) t) ∙ e)
        ∙ sym (content_data y.n _ c hc))
        (λ (t : ltb c y.n ≡ false).
        let none : any (λ c. named y offset (length bytes) g o c) y.n ≡ false =
        sym (pick-false (ltb c y.n) (named y offset (length bytes) g o c) (any (λ c. named y offset (length bytes) g o c) y.n) t) ∙ e in
        content_cong y.n _ _ (λ j b. kept_byte j b (any_none (λ c. named y offset (length bytes) g o c) y.n none j b)) c)
        (either_way (ltb c y.n))

    stored-after : (c : ℕ) → c < contents y → missing y R g c ≡ false
        → stored y R (write_image y R img offset bytes) g o c ≡ pick (writes y offset (length bytes) g o c) (content y.n (laid y R img offset bytes g o) c) (stored y R img g o c)
    unfolding stored
    stored-after c hc m =
        ap (λ (i : List ℕ). at i (home_spot y R g o c)) (write_accepted y R img offset bytes z)
        ∙ storing-at y v R R.q _ _ img s.len_is q_few g o c hg ho hc
        ∙ simp m

  written_byte : (x : ℕ) → x < length (written file offset bytes) → at (written file offset bytes) x < 256
  unfolding written
  written_byte x h =
      let hx : x < length file = subst (λ (m : ℕ). x < m) (length-tabulate (length file) _) h in
      subst (λ (b : ℕ). b < 256) (sym (get_d_tabulate (length file) _ x 0 hx))
      (⊎_elim
      (λ (t : within offset (length bytes) x ≡ true).
      subst (λ (b : ℕ). b < 256) (sym (pick_true (within offset (length bytes) x) (at bytes (x - offset)) (at file x) t))
      (ok (x - offset) (within_of offset (length bytes) x t).1))
      (λ (t : within offset (length bytes) x ≡ false).
      subst (λ (b : ℕ). b < 256) (sym (pick-false (within offset (length bytes) x) (at bytes (x - offset)) (at file x) t)) (k.file_bytes x hx))
      (either_way (within offset (length bytes) x)))

  -- the image after the write holds the file after the write
  pub write_right : Holds y R (write_image y R img offset bytes) (written file offset bytes)
  unfolding written
  write_right =
      record {
        image_length_lem = write_length y R img offset bytes ∙ k.image_length_lem;
        file_length = length-tabulate (length file) _ ∙ k.file_length;
        file_bytes = written_byte;
        present = λ g o c hg ho hc m.
            stored-after g o hg ho c hc m
            ∙ ⊎_elim
            (λ (t : writes y offset (length bytes) g o c ≡ true). pick_true (writes y offset (length bytes) g o c) _ _ t ∙ new_right g o hg ho c)
            (λ (t : writes y offset (length bytes) g o c ≡ false).
            pick-false (writes y offset (length bytes) g o c) _ _ t ∙ k.present g o c hg ho hc m ∙ kept_right g o hg ho c t)
            (either_way (writes y offset (length bytes) g o c));
      }
