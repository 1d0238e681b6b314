-- A repair keeps what the image holds: missing contents are stored at their new homes, present ones stay at theirs, and nothing is missing
-- afterwards.
use Rattle.std.specs.Prelude.{◌≡◌, refl, true, false, ℕ, ◌<◌, length}
use Rattle.std.proofs.Common.{sym, ◌∙◌, ⊎_elim}
use Rattle.std.proofs.Math.Path.{ap, subst}
use mathlib.Core.List.{List, []}
use Rattle.std.proofs.Math.Nat.{le_refl}
use Rattle.lists.specs.Pick.{pick, pick_true, pick-false, either_way, equal_or_not}
use Rattle.lists.specs.Tabulate.{at}
use Rattle.lists.specs.Refusal.{refusal_by, grant_yes, grant_no, grant-either}
use Rattle.numbers.specs.declared.Layout.{Layout}
use Rattle.numbers.specs.Layouts.{Valid, all_groups, contents}
use Rattle.place.specs.Bytes.{spot}
use Rattle.homes.specs.declared.Record.{Record}
use Rattle.homes.specs.Records.{Good}
use Rattle.homes.specs.Missing.{home, missing}
use Rattle.homes.proofs.MissingLaws.{repaired_present, home_stays}
use Rattle.pool.specs.Contents.{stored, content_byte}
use Rattle.pool.specs.Refusals.{repair_refusal}
use Rattle.pool.specs.Repairing.{mended_image, repair_image, mended, repair_record}
use Rattle.pool.specs.Asked.{Sound, sound-passes, repair_asked}
use Rattle.pool.specs.StoringLaws.{storing-at, storing-length}
use Rattle.pool.specs.Holds.{Holds, content_holds}
use Rattle.pool.specs.FailHolds.{Kept}

module _ (y : Layout) (R : Record) where
  -- no content is missing afterwards
  pub none-missing : Valid y → Good y R → (g c : ℕ) → c < contents y → missing y (mended R) g c ≡ false
  none-missing v r g c hc = repaired_present y v (mended R) g r.few refl c hc

  -- a refused repair leaves the image
  pub repair_refused : (img : List ℕ) → (repair_refusal y R (length img) ≡ 0 → ⊥) → repair_image y R img ≡ img
  unfolding repair_image
  repair_refused img z = grant_no (repair_refusal y R (length img)) _ img z

  -- an accepted one stores
  pub repair_accepted : (img : List ℕ) → repair_refusal y R (length img) ≡ 0 → repair_image y R img ≡ mended_image y R img
  unfolding repair_image
  repair_accepted img z = grant_yes (repair_refusal y R (length img)) _ img z

  pub repair_length : (img : List ℕ) → length (repair_image y R img) ≡ length img
  repair_length img =
      equal_or_not (repair_refusal y R (length img)) 0
      (λ z. ap length (repair_accepted img z) ∙ storing-length y R _ _ _ img)
      (λ z. ap length (repair_refused img z))

  -- what stands at a content's home under the whole list after a repair
  pub stored-mended : (img : List ℕ) → repair_refusal y R (length img) ≡ 0 → (g o c : ℕ) → g < all_groups y → o < y.u → c < contents y
      → stored y (mended R) (repair_image y R img) g o c ≡ pick (missing y R g c) (content_byte y R img g o c) (at img (spot y g (home y R R.k g c) o))
  unfolding stored home
  stored-mended img z g o c hg ho hc =
      let s = repair_asked y R (length img) z in
      ap (λ (i : List ℕ). at i (spot y g (home y R R.k g c) o)) (repair_accepted img z)
      ∙ storing-at y s.valid R R.k _ _ img s.len_is s.good.few g o c hg ho hc

  -- and where the content was present that is its old home
  pub stored_stays : {len : ℕ} (img : List ℕ) → Sound y R len → (g o c : ℕ) → missing y R g c ≡ false → at img (spot y g (home y R R.k g c) o) ≡ stored y R img g o c
  unfolding stored
  stored_stays img s g o c m = ap (λ (u : ℕ). at img (spot y g u o)) (home_stays y s.valid R g s.good.mended c m)

  mend_holds : (img file : List ℕ) → Holds y R img file → repair_refusal y R (length img) ≡ 0 → Holds y (mended R) (repair_image y R img) file
  mend_holds img file k z =
      let s = repair_asked y R (length img) z in
      record {
        image_length_lem = repair_length img ∙ k.image_length_lem;
        file_length = k.file_length;
        file_bytes = k.file_bytes;
        present = λ g o c hg ho hc m'.
            stored-mended img z g o c hg ho hc
            ∙ ⊎_elim
            (λ (m : missing y R g c ≡ true). pick_true (missing y R g c) _ _ m ∙ content_holds y R img file s.valid s.good k g o c hg ho hc)
            (λ (m : missing y R g c ≡ false).
            pick-false (missing y R g c) _ _ m ∙ stored_stays img s g o c m ∙ k.present g o c hg ho hc m)
            (either_way (missing y R g c));
      }

  pub repair_right : (img file : List ℕ) → Holds y R img file → Holds y (repair_record y R (length img)) (repair_image y R img) file
  unfolding repair_record
  repair_right img file k =
      grant-either (repair_refusal y R (length img)) (mended R) R (λ (S : Record). Holds y S (repair_image y R img) file) (mend_holds img file k)
      (λ z. subst (λ (i : List ℕ). Holds y R i file) (sym (repair_refused img z)) k)

  pub repair_kept : (len : ℕ) → Kept y R → Kept y (repair_record y R len)
  unfolding repair_record
  repair_kept len r =
      grant-either (repair_refusal y R len) (mended R) R (λ (S : Record). Kept y S)
      (λ z. record { room = r.room; good = record { few = r.good.few; mended = le_refl R.k; below = r.good.below; once = r.good.once } })
      (λ z. r)

  -- a sound pool's repair is accepted, and then no content is missing
  pub all_repaired : (len : ℕ) → Sound y R len → (g c : ℕ) → c < contents y → missing y (repair_record y R len) g c ≡ false
  unfolding repair_record repair_refusal refusal_by
  all_repaired len s g c h =
      ap (λ (S : Record). missing y S g c) (grant_yes (repair_refusal y R len) (mended R) R (sound-passes y R len s []))
      ∙ none-missing s.valid s.good g c h
