-- "entries from k on are never read", of a swap: two records that agree on k, q, the count and the first k entries make it answer the same and leave the same
-- image, and the records that come back agree likewise.
use Rattle.std.specs.Prelude.{◌≡◌, true, List, [], ◌∷◌, ℕ, ◌-◌, ◌≤◌, ◌<◌, eqb, ltb, length}
use Rattle.std.proofs.Math.Path.{refl}
use Rattle.std.proofs.Common.{sym, ap, ◌∙◌, arith}
use Rattle.lists.specs.Search.{lowest, lowest_same}
use Rattle.numbers.specs.declared.Layout.{Layout}
use Rattle.homes.specs.declared.Record.{Record}
use Rattle.homes.specs.Listed.{listed, listed_same}
use Rattle.homes.specs.Records.{entry, failed}
use Rattle.homes.specs.Dropping.{list_place, skip, without}
use Rattle.homes.specs.DroppingLaws.{entry-without, skip-few}
use Rattle.pool.specs.Unread.{Alike, grant_same}
use Rattle.pool.proofs.UnreadLaws.{alike_after, homes_unread, stored_unread, storing_unread, own_unread}
use Rattle.swapping.specs.Swapping.{swap_refusal, swap_image, swap_record}
use Rattle.swapping.specs.SwapLaws.{few-entries, less_good}
use Rattle.swapping.proofs.SwapLaws.{swap_asked}

module _ (y : Layout) (R R' : Record) (alike : Alike R R') (d : ℕ) where
  listed_unread : failed R d ≡ failed R' d
  listed_unread = listed_same (entry R) (entry R') R.k d alike.same_entries ∙ ap (λ (k : ℕ). listed (entry R') k d) alike.same_k

  place_unread : list_place R d ≡ list_place R' d
  place_unread =
      lowest_same (λ i. eqb (entry R i) d) (λ i. eqb (entry R' i) d) R.k (λ i b. ap (λ (t : ℕ). eqb t d) (alike.same_entries i b))
      ∙ ap (lowest (λ i. eqb (entry R' i) d)) alike.same_k

  pub swap_number_unread : (len : ℕ) → swap_refusal y R len d ≡ swap_refusal y R' len d
  unfolding swap_refusal
  swap_number_unread len =
      own_unread y R R' alike len _ _ (λ le. λ i. (ltb d y.p, 4) ∷ (listed_unread i, 11) ∷ (eqb (alike.same_q i) (alike.same_k i), 16) ∷ [])

  module _ (room : R.k ≤ 3) (in_List : failed R d ≡ true) where
    without_unread : Alike (without R d) (without R' d)
    without_unread =
        record {
          same_k = ap (λ (k : ℕ). k - 1) alike.same_k;
          same_q = ap (λ (q : ℕ). q - 1) alike.same_q;
          same_waiting = alike.same_waiting;
          same_entries = λ i b.
              let b' : i < R'.k - 1 = omega (arith, b, alike.same_k) in
              entry-without R d room in_List i b
              ∙ alike.same_entries (skip (list_place R d) i) (skip-few (list_place R d) i R.k b)
              ∙ ap (λ (p : ℕ). entry R' (skip p i)) place_unread
              ∙ sym (entry-without R' d (omega (arith, room, alike.same_k)) (sym listed_unread ∙ in_List) i b');
        }

  pub swap_image_unread : (img : List ℕ) → swap_image y R img d ≡ swap_image y R' img d
  unfolding swap_image
  swap_image_unread img =
      grant_same (swap_refusal y R (length img) d) (swap_refusal y R' (length img) d) _ _ img (swap_number_unread (length img))
      (λ z.
      let a = swap_asked y R (length img) d z in
      let w = without_unread (few-entries y R d a) a.is_failed in
      storing_unread y (without R d) (without R' d) w (R.q - 1) (R'.q - 1) (homes_unread y (without R d) (without R' d) w (less_good y R d a).mended)
      (λ g o c. true) (λ g o c. true) refl _ _ (stored_unread y R R' alike a.sound.good.mended img) img)

  pub swap_record_unread : (len : ℕ) → Alike (swap_record y R len d) (swap_record y R' len d)
  unfolding swap_record
  swap_record_unread len =
      alike_after y R R' alike (without R d) (without R' d) (swap_refusal y R len d) (swap_refusal y R' len d) (swap_number_unread len)
      (λ z. let a = swap_asked y R len d z in without_unread (few-entries y R d a) a.is_failed)
