-- A failure keeps what the image holds, since what is present afterwards was present before; and the record stays good.
use Rattle.std.specs.Prelude.{◌≡◌, true, false, List}
use Rattle.std.proofs.Math.Path.{sym, ap}
use Rattle.std.proofs.Common.{◌∙◌, subst, ⊎_elim, le_refl, lt_irrefl, eq-or-lt_of_le, le_of_suc-le-suc, length-set, get_or-set_same, get_or-set_other}
use Prim.Native.Nat.{ℕ, suc, ◌≤◌, ◌<◌}
use native.Mathlib.Omega.{arith}
use Rattle.std.proofs.Math.ListN.{length}
use Rattle.lists.specs.Tabulate.{at}
use Rattle.lists.specs.Refusal.{grant_yes, grant-either}
use Rattle.numbers.specs.declared.Layout.{Layout}
use Rattle.numbers.specs.Layouts.{contents}
use Rattle.place.specs.Bytes.{spot}
use Rattle.homes.specs.declared.Record.{Record}
use Rattle.homes.specs.Listed.{listed, listed_same, listed_at, unlisted_sub}
use Rattle.homes.proofs.HomesLaws.{homes_same}
use Rattle.homes.specs.Records.{entry, failed, Good}
use Rattle.homes.specs.Missing.{target_at, home, missing}
use Rattle.pool.specs.Contents.{stored}
use Rattle.pool.specs.Refusals.{fail_refusal}
use Rattle.pool.specs.Failing.{grown, fail_record}
use Rattle.pool.specs.Asked.{FailAsked, fail_asked}
use Rattle.pool.specs.Holds.{Holds}

-- ---- the record with one more entry

module _ (y : Layout) (R : Record) (t : ℕ) where
  -- entries below k are as they were
  pub entry_same : (i : ℕ) → i < R.k → entry (grown y R t) i ≡ entry R i
  entry_same i b = get_or-set_other R.failed R.k i t 0 (λ (e : i ≡ R.k). lt_irrefl R.k (subst (λ (x : ℕ). x < R.k) e b))

  pub home-grown : (j g c : ℕ) → j ≤ R.k → home y (grown y R t) j g c ≡ home y R j g c
  unfolding home
  home-grown j g c le =
      ap (λ (h : ℕ → ℕ). h c) (homes_same (target_at y g) (contents y) y.k (entry (grown y R t)) (entry R) j (λ i b. entry_same i (omega arith)))

  -- what is present afterwards was present before
  pub present-grown : (g c : ℕ) → R.q ≤ R.k → missing y (grown y R t) g c ≡ false → missing y R g c ≡ false
  unfolding missing
  present-grown g c le m =
      sym (listed_same (entry (grown y R t)) (entry R) R.k _ entry_same
      ∙ ap (λ (u : ℕ). listed (entry R) R.k (target_at y g u)) (home-grown R.q g c le))
      ∙ unlisted_sub (entry (grown y R t)) R.k (suc R.k) _ (omega arith) m

  grown-good : {len : ℕ} → length R.failed ≡ 3 → FailAsked y R len t → Good y (grown y R t)
  grown-good room a =
      record {
        few = a.room;
        mended = let h = a.sound.good.mended in omega arith;
        below = λ i b. ⊎_elim
            (λ (e : i ≡ R.k). subst (λ (x : ℕ). x < y.p) (sym (ap (entry (grown y R t)) e ∙ last)) a.target_lt)
            (λ (l : i < R.k). subst (λ (x : ℕ). x < y.p) (sym (entry_same i l)) (a.sound.good.below i l))
            (eq-or-lt_of_le (le_of_suc-le-suc b));
        once = λ i b. ⊎_elim
            (λ (e : i ≡ R.k).
            (λ j. listed (entry (grown y R t)) (e j) (entry (grown y R t) (e j)))
            ∙ ap (listed (entry (grown y R t)) R.k) last ∙ listed_same _ _ R.k t entry_same ∙ a.new)
            (λ (l : i < R.k).
            ap (listed (entry (grown y R t)) i) (entry_same i l) ∙ listed_same _ _ i (entry R i) (λ n b. entry_same n (omega arith)) ∙ a.sound.good.once i l)
            (eq-or-lt_of_le (le_of_suc-le-suc b));
      }
    where
      last : entry (grown y R t) R.k ≡ t
      last = get_or-set_same R.failed R.k t 0 (let r = a.room in let p = a.sound.valid.few_parity in omega arith)

  grown_holds : (img file : List ℕ) → R.q ≤ R.k → Holds y R img file → Holds y (grown y R t) img file
  unfolding stored
  grown_holds img file le k =
      record {
        image_length_lem = k.image_length_lem;
        file_length = k.file_length;
        file_bytes = k.file_bytes;
        present = λ g o c hg ho hc m.
            ap (λ (u : ℕ). at img (spot y g u o)) (home-grown R.q g c le) ∙ k.present g o c hg ho hc (present-grown g c le m);
      }

-- ---- fail, accepted or refused

module _ (y : Layout) (R : Record) (len t : ℕ) where
  pub fail_right : (img file : List ℕ) → Good y R → Holds y R img file → Holds y (fail_record y R len t) img file
  unfolding fail_record
  fail_right img file r k =
      grant-either (fail_refusal y R len t) (grown y R t) R (λ (S : Record). Holds y S img file) (λ z. grown_holds y R t img file r.mended k) (λ z. k)

  -- an accepted failure lists its target
  pub fail_listed : length R.failed ≡ 3 → fail_refusal y R len t ≡ 0 → failed (fail_record y R len t) t ≡ true
  unfolding fail_record
  fail_listed room z =
      ap (λ (S : Record). failed S t) (grant_yes (fail_refusal y R len t) (grown y R t) R z)
      ∙ ap (listed (entry (grown y R t)) (suc R.k)) (sym (get_or-set_same R.failed R.k t 0 lt))
      ∙ listed_at (entry (grown y R t)) (suc R.k) R.k (le_refl (suc R.k))
    where
      lt : R.k < length R.failed
      lt = let a = fail_asked y R len t z in let b = a.room in let p = a.sound.valid.few_parity in omega arith

-- room for three entries, and a good record
pub record Kept (y : Layout) (R : Record) : Type 0 where
  pub room : length R.failed ≡ 3
  pub good : Good y R

pub fail_kept : (y : Layout) (R : Record) (len t : ℕ) → Kept y R → Kept y (fail_record y R len t)
unfolding fail_record
fail_kept y R len t r =
    grant-either (fail_refusal y R len t) (grown y R t) R (λ (S : Record). Kept y S)
    (λ z. record { room = length-set R.failed R.k t ∙ r.room; good = grown-good y R t r.room (fail_asked y R len t z) }) (λ z. r)
