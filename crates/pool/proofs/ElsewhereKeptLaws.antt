-- Two images that agree elsewhere, but on failed targets and unused spares, agree elsewhere after every call, under the record that it returns.
use Rattle.std.specs.Prelude.{◌≡◌, Bool, true, false, not, ℕ, suc, ◌≤◌, ◌<◌, eqb, leb, length}
use Rattle.std.proofs.Common.{sym, ap, ◌∙◌, ⊎_elim, arith}
use Rattle.std.proofs.Math.Path.{subst}
use mathlib.Core.List.{List}
use Rattle.std.proofs.Math.Nat.{le_refl}
use Rattle.std.proofs.lemmas.Bool.{not-true}
use Rattle.lists.specs.Pick.{pick, both, pick_true, pick-false, either_way, both_true, clash, equal_or_not}
use Rattle.lists.specs.Search.{any, any_same}
use Rattle.lists.specs.Tabulate.{at}
use Rattle.lists.specs.Refusal.{grant-either}
use Rattle.numbers.specs.declared.Layout.{Layout}
use Rattle.numbers.specs.Layouts.{contents}
use Rattle.place.specs.Bytes.{target_here, unit_here}
use Rattle.homes.specs.declared.Record.{Record}
use Rattle.homes.specs.Listed.{unlisted_sub, listed_same}
use Rattle.homes.specs.Records.{entry, failed}
use Rattle.homes.specs.Missing.{home, missing}
use Rattle.pool.specs.Refusals.{range_refusal, fail_refusal, repair_refusal}
use Rattle.pool.specs.Writing.{write_image}
use Rattle.pool.specs.Failing.{grown, fail_record}
use Rattle.pool.specs.Repairing.{mended, repair_image, repair_record}
use Rattle.pool.specs.Asked.{Sound, range_asked, fail_asked, repair_asked}
use Rattle.pool.specs.WriteHolds.{write_refused}
use Rattle.pool.proofs.WriteHoldsLaws.{write_length}
use Rattle.pool.specs.FailHolds.{entry_same, home-grown}
use Rattle.pool.proofs.RepairHolds.{repair_refused, repair_length}
use Rattle.pool.proofs.ChangesLaws.{write_changes}
use Rattle.pool.proofs.BlindLaws.{also, write_blind, mended_agree}
use Rattle.pool.specs.Elsewhere.{is_home, unused_spare, unseen, home_seen, AgreeElsewhere, agree_of, elsewhere_of}
use Rattle.pool.specs.ElsewhereKept.{unseen-grown}

module _ (y : Layout) (R : Record) (img img' : List ℕ) (a : AgreeElsewhere y R img img') where
  pub write_elsewhere : (offset : ℕ) (bytes : List ℕ) → AgreeElsewhere y R (write_image y R img offset bytes) (write_image y R img' offset bytes)
  write_elsewhere offset bytes =
      record {
        same_length = write_length y R img' offset bytes ∙ a.same_length ∙ sym (write_length y R img offset bytes);
        elsewhere = λ x h e.
            let h' : x < length img = subst (λ (n : ℕ). x < n) (write_length y R img offset bytes) h in
            write_blind y R img img' (agree_of y R img img' a) offset bytes x h' (a.elsewhere x h' e);
      }

  pub fail_elsewhere : (t : ℕ) → AgreeElsewhere y (fail_record y R (length img) t) img img'
  unfolding fail_record
  fail_elsewhere t =
      grant-either (fail_refusal y R (length img) t) (grown y R t) R (λ (S : Record). AgreeElsewhere y S img img')
      (λ z.
      let s = (fail_asked y R (length img) t z).sound in
      record { same_length = a.same_length; elsewhere = λ x h e. a.elsewhere x h (unseen-grown y R t x s.good.mended e) })
      (λ z. a)

  pub repair_elsewhere : AgreeElsewhere y (repair_record y R (length img)) (repair_image y R img) (repair_image y R img')
  unfolding repair_record
  repair_elsewhere =
      grant-either (repair_refusal y R (length img)) (mended R) R (λ (S : Record). AgreeElsewhere y S (repair_image y R img) (repair_image y R img'))
      (λ z. elsewhere_of y (mended R) (repair_image y R img) (repair_image y R img') (mended-sound z) (mended_agree y R img img' (agree_of y R img img' a) z))
      (λ z.
      subst (λ (i : List ℕ). AgreeElsewhere y R i (repair_image y R img')) (sym (repair_refused y R img z))
      (subst (λ (i : List ℕ). AgreeElsewhere y R img i)
      (sym (repair_refused y R img' (also y R img img' (agree_of y R img img' a) (repair_refusal y R) z))) a))
    where
      mended-sound : repair_refusal y R (length img) ≡ 0 → Sound y (mended R) (length (repair_image y R img))
      mended-sound z =
          let s = repair_asked y R (length img) z in
          record {
            valid = s.valid;
            len_is = repair_length y R img ∙ s.len_is;
            good = record { few = s.good.few; mended = le_refl R.k; below = s.good.below; once = s.good.once };
            within = omega arith;
          }

-- a write changes none of those bytes
pub write_spares_unseen : (y : Layout) (R : Record) (img : List ℕ) (offset : ℕ) (bytes : List ℕ) (x : ℕ) → x < length img → unseen y R x ≡ true
    → at (write_image y R img offset bytes) x ≡ at img x
write_spares_unseen y R img offset bytes x h e =
    equal_or_not (range_refusal y R (length img) offset (length bytes)) 0
    (λ (z : range_refusal y R (length img) offset (length bytes) ≡ 0).
    let s = (range_asked y R (length img) offset (length bytes) z).0 in
    ⊎_elim (λ q. q)
    (λ w. clash (unseen y R x) e
    (ap (unseen y R) w.is_at
    ∙ home_seen y R s.valid s.good w.g w.o w.c w.g-lt w.o_lt w.c_lt (not-true (missing y R w.g w.c) (both_true (not (missing y R w.g w.c)) _ w.is_on).0)))
    (write_changes y R img offset bytes x h))
    (λ (z : range_refusal y R (length img) offset (length bytes) ≡ 0 → ⊥). ap (λ (i : List ℕ). at i x) (write_refused y R img offset bytes z))
