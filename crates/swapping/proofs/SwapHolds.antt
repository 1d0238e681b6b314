-- What a swap keeps: demand 3, a good record with a true count, and that nothing hangs on a failed drive's bytes, the new one's among them.
use Rattle.std.specs.Prelude.{◌≡◌, false, ℕ, ◌<◌, length}
use Rattle.std.proofs.Math.Path.{sym, subst}
use Rattle.std.proofs.Common.{ap, ◌∙◌}
use mathlib.Core.List.{List}
use Rattle.lists.specs.Tabulate.{at, length-tabulate}
use Rattle.lists.specs.Refusal.{grant-either}
use Rattle.numbers.specs.declared.Layout.{Layout}
use Rattle.numbers.specs.Layouts.{Valid}
use Rattle.place.specs.Bytes.{target_here}
use Rattle.homes.specs.declared.Record.{Record}
use Rattle.homes.specs.Records.{failed, Good}
use Rattle.homes.specs.Dropping.{entry_without, without}
use Rattle.pool.specs.Counting.{TrueCount}
use Rattle.pool.specs.CountLaws.{repaired_clear}
use Rattle.pool.specs.Asked.{Sound}
use Rattle.pool.specs.Holds.{Holds}
use Rattle.pool.specs.FailHolds.{Kept}
use Rattle.pool.specs.ScribbleHolds.{scribble_any}
use Rattle.pool.proofs.ScribbleHoldsLaws.{scribble_right}
use Rattle.pool.specs.Blind.{Agree}
use Rattle.pool.specs.Elsewhere.{AgreeElsewhere, agree_of, elsewhere_of}
use Rattle.swapping.specs.Swapping.{swap_refusal, swap_image, swap_record}
use Rattle.swapping.specs.SwapLaws.{less_good, less_repaired, none_before}
use Rattle.swapping.proofs.SwapLaws.{swap_asked, swap_refused, swap_length, stored_swapped}

module _ (y : Layout) (R : Record) (d : ℕ) where
  -- ".. which on a pool that demand 3 can reach is what encoding afresh would put there"
  pub swap_right : (img file : List ℕ) → Holds y R img file → Holds y (swap_record y R (length img) d) (swap_image y R img d) file
  unfolding swap_record
  swap_right img file k =
      grant-either (swap_refusal y R (length img) d) (without R d) R (λ (S : Record). Holds y S (swap_image y R img d) file)
      (λ z.
      record {
        image_length_lem = swap_length y R d img ∙ k.image_length_lem;
        file_length = k.file_length;
        file_bytes = k.file_bytes;
        present = λ g o c hg ho hc m.
            stored_swapped y R d img z g o c hg ho hc ∙ k.present g o c hg ho hc (none_before y R d (swap_asked y R (length img) d z) g c hc);
      })
      (λ z. subst (λ (i : List ℕ). Holds y R i file) (sym (swap_refused y R d img z)) k)

  -- "the new drive's bytes may be anything before the call": of any image that differs on failed targets alone, d among them
  pub swap_any_drive : (img img' file : List ℕ) → Valid y → Good y R → Holds y R img file → length img' ≡ length img
      → ((x : ℕ) → x < length img → failed R (target_here y x) ≡ false → at img' x ≡ at img x)
      → Holds y (swap_record y R (length img') d) (swap_image y R img' d) file
  swap_any_drive img img' file v r k len same =
      swap_right img' file
      (subst (λ (i : List ℕ). Holds y R i file) (sym (scribble_any y R img img' len same)) (scribble_right y R v r img file (at img') k))

  pub swap_kept : (len : ℕ) → Kept y R → Kept y (swap_record y R len d)
  unfolding swap_record
  swap_kept len r =
      grant-either (swap_refusal y R len d) (without R d) R (λ (S : Record). Kept y S)
      (λ z. record { room = length-tabulate 3 (entry_without R d); good = less_good y R d (swap_asked y R len d z) })
      (λ z. r)

  -- the count stays what it is: a true one is 0, before and afterwards
  pub swap_keeps_true : (len : ℕ) → TrueCount y R → TrueCount y (swap_record y R len d)
  unfolding swap_record
  swap_keeps_true len e =
      grant-either (swap_refusal y R len d) (without R d) R (λ (S : Record). TrueCount y S)
      (λ z.
      let a = swap_asked y R len d z in
      e ∙ repaired_clear y R a.sound.valid a.sound.good a.repaired
      ∙ sym (repaired_clear y (without R d) a.sound.valid (less_good y R d a) (less_repaired y R d a)))
      (λ z. e)

  -- ---- two images that agree on present contents agree there afterwards

  module _ (img img' : List ℕ) (agree : Agree y R img img') where
    pub swap_number_agrees : swap_refusal y R (length img) d ≡ swap_refusal y R (length img') d
    swap_number_agrees = ap (λ (n : ℕ). swap_refusal y R n d) (sym agree.same_length)

    nor : (swap_refusal y R (length img) d ≡ 0 → ⊥) → swap_refusal y R (length img') d ≡ 0 → ⊥
    nor f z = f (swap_number_agrees ∙ z)

    swapped_agree : swap_refusal y R (length img) d ≡ 0 → Agree y (without R d) (swap_image y R img d) (swap_image y R img' d)
    swapped_agree z =
        let a = swap_asked y R (length img) d z in
        record {
          same_length = swap_length y R d img' ∙ agree.same_length ∙ sym (swap_length y R d img);
          present = λ s g o c hg ho hc m.
              stored_swapped y R d img z g o c hg ho hc
              ∙ agree.present a.sound g o c hg ho hc (none_before y R d a g c hc)
              ∙ sym (stored_swapped y R d img' (sym swap_number_agrees ∙ z) g o c hg ho hc);
        }

    pub swap_agree : Agree y (swap_record y R (length img) d) (swap_image y R img d) (swap_image y R img' d)
    unfolding swap_record
    swap_agree =
        grant-either (swap_refusal y R (length img) d) (without R d) R (λ (S : Record). Agree y S (swap_image y R img d) (swap_image y R img' d)) swapped_agree
        (λ z.
        subst (λ (i : List ℕ). Agree y R i (swap_image y R img' d)) (sym (swap_refused y R d img z))
        (subst (λ (i : List ℕ). Agree y R img i) (sym (swap_refused y R d img' (nor z))) agree))

  -- images that agree elsewhere, but on failed targets and unused spares, agree elsewhere afterwards
  pub swap_elsewhere : (img img' : List ℕ) → AgreeElsewhere y R img img'
      → AgreeElsewhere y (swap_record y R (length img) d) (swap_image y R img d) (swap_image y R img' d)
  unfolding swap_record
  swap_elsewhere img img' a =
      grant-either (swap_refusal y R (length img) d) (without R d) R (λ (S : Record). AgreeElsewhere y S (swap_image y R img d) (swap_image y R img' d))
      (λ z. elsewhere_of y (without R d) (swap_image y R img d) (swap_image y R img' d) (after z) (swapped_agree img img' (agree_of y R img img' a) z))
      (λ z.
      subst (λ (i : List ℕ). AgreeElsewhere y R i (swap_image y R img' d)) (sym (swap_refused y R d img z))
      (subst (λ (i : List ℕ). AgreeElsewhere y R img i) (sym (swap_refused y R d img' (nor img img' (agree_of y R img img' a) z))) a))
    where
      after : swap_refusal y R (length img) d ≡ 0 → Sound y (without R d) (length (swap_image y R img d))
      after z =
          let s = swap_asked y R (length img) d z in
          record { valid = s.sound.valid; len_is = swap_length y R d img ∙ s.sound.len_is; good = less_good y R d s; within = s.sound.within }
