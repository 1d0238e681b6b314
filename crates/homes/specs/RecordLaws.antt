-- The record's test says what `Good` says; it reads no entry from k on.
use Rattle.std.specs.Prelude.{◌≡◌, Bool, true, not, List, ℕ, ◌<◌, ltb, leb}
use Rattle.std.proofs.Math.Path.{ap, ap₂}
use Rattle.std.proofs.Common.{◌∙◌, arith, leb-true, ltb-true, le-leb, lt-ltb}
use Rattle.std.proofs.lemmas.Bool.{not-true}
use Rattle.lists.specs.Pick.{both, both_true, both_hold}
use Rattle.lists.specs.Search.{all, all-at, all_true, all_same}
use Rattle.numbers.specs.declared.Layout.{Layout}
use Rattle.homes.specs.declared.Record.{Record}
use Rattle.homes.specs.Listed.{listed, listed_same}
use Rattle.homes.specs.Records.{entry, entry_good, record_good, Good}

pub record_good_lem : (y : Layout) (R : Record) → record_good y R ≡ true → Good y R
unfolding record_good
record_good_lem y R e =
    record {
      few = leb-true R.k y.k a.0;
      mended = leb-true R.q R.k b.0;
      below = λ i h. ltb-true (entry R i) y.p (each i h).0;
      once = λ i h. not-true (listed (entry R) i (entry R i)) (each i h).1;
    }
  where
    a : (leb R.k y.k ≡ true) × (both (leb R.q R.k) (all (entry_good y R) R.k) ≡ true)
    a = both_true (leb R.k y.k) _ e

    b : (leb R.q R.k ≡ true) × (all (entry_good y R) R.k ≡ true)
    b = both_true (leb R.q R.k) _ a.1

    each : (i : ℕ) → i < R.k → (ltb (entry R i) y.p ≡ true) × (not (listed (entry R) i (entry R i)) ≡ true)
    each i h = both_true (ltb (entry R i) y.p) _ (all-at (entry_good y R) R.k b.1 i h)

pub good-true : (y : Layout) (R : Record) → Good y R → record_good y R ≡ true
unfolding record_good
good-true y R r =
    both_hold (leb R.k y.k) _ (le-leb R.k y.k r.few)
    (both_hold (leb R.q R.k) _ (le-leb R.q R.k r.mended)
    (all_true (entry_good y R) R.k
    (λ i b. both_hold (ltb (entry R i) y.p) _ (lt-ltb (entry R i) y.p (r.below i b)) (ap not (r.once i b)))))

-- "entries from k on are never read"
module _ (y : Layout) (l l' : List ℕ) (k q n : ℕ)
    (same : (i : ℕ) → i < k → entry (record { failed = l; k = k; q = q; waiting = n }) i ≡ entry (record { failed = l'; k = k; q = q; waiting = n }) i) where
  pub good_unread : record_good y (record { failed = l; k = k; q = q; waiting = n }) ≡ record_good y (record { failed = l'; k = k; q = q; waiting = n })
  unfolding record_good
  good_unread =
      ap (λ (b : Bool). both (leb k y.k) (both (leb q k) b))
      (all_same _ _ k
      (λ i b. ap₂ (λ (x : ℕ) (t : Bool). both (ltb x y.p) (not t)) (same i b)
      (ap (listed _ i) (same i b) ∙ listed_same _ _ i _ (λ n h. same n (omega arith)))))
