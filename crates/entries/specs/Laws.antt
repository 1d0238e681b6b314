-- What follows of the definitions: a legal catalogue stays legal, and what a lookup gives after an insertion and after a deletion.
use Rattle.std.specs.Prelude.{◌≡◌, refl, ℕ, zero, suc, ◌≤◌, Bool, true, false, List, [], ◌∷◌, ◌++◌, leb, length, take, drop}
use Rattle.std.proofs.Common.{sym, ap, ◌∙◌, subst, arith, append_assoc, length-append, le-leb}
use Rattle.std.proofs.lemmas.Bool.{false≢true}
use Rattle.std.proofs.Math.Seq.{take-append_seam}
use Rattle.lists.specs.Pick.{pick, both_true, both_hold}
use Rattle.lists.specs.Passing.{passing_yes, passing_no, passing-append, passing-none, over}
use Rattle.lists.specs.Refusal.{grant}
use Rattle.entries.specs.declared.Entry.{Entry}
use Rattle.entries.specs.declared.Key.{Key}
use Rattle.entries.specs.Wide.{nought}
use Rattle.entries.specs.Blank.{blank}
use Rattle.entries.specs.Key.{key_of, key_lt, key_eq, rising, rising_from}
use Rattle.entries.specs.Orders.{Lt, lt_of, lt_trans, lt_irrefl, lt_ne, gt_ne, eq_refl, Cmp, below, equal, above, cmp, same, less}
use Rattle.entries.specs.Splits.{first_lt, rest_rises, cons_rises, above_all, Split, new, old, split, rising-tail}
use Rattle.entries.specs.Looks.{held_cob, found_is}
use Rattle.entries.specs.Catalogue.{before, holders, after, sound, found_by, lookup_of, inserted, insert_number, insert_of}
use Rattle.entries.specs.Catalogue.{inserted_list, removed, delete_number, delete_of, deleted_list, changed, changed_list}

-- ---- rising lists
pub lower : (a b : Key) (xs : List Entry) → Lt a b → rising_from b xs ≡ true → rising_from a xs ≡ true
lower a b [] l h = refl
lower a b (x ∷ xs) l h = cons_rises a x xs (lt_trans l (first_lt b x xs h)) (rest_rises b x xs h)

-- what stands from the first record on that is not below k
here-inserted : (r x : Entry) (xs : List Entry) → Cmp (key_of x) (key_of r) → key_lt (key_of x) (key_of r) ≡ false → rising_from (key_of x) xs ≡ true
    → rising_from (key_of r) (after (key_of r) (x ∷ xs)) ≡ true
here-inserted r x xs (below p q s) n h = absurd (false≢true (sym n ∙ p))
here-inserted r x xs (equal e p q s) n h =
    ap (rising_from (key_of r)) (passing_no (λ y. key_lt (key_of r) (key_of y)) x xs s ∙ (above_all (key_of r) (key_of x) xs (same (sym e)) h).1.1)
    ∙ subst (λ (z : Key). rising_from z xs ≡ true) e h
here-inserted r x xs (above p q s) n h =
    ap (rising_from (key_of r)) (passing_yes (λ y. key_lt (key_of r) (key_of y)) x xs s ∙ ap {B = List Entry} (λ t. x ∷ t) (above_all (key_of r)
    (key_of x) xs (less (lt_of (key_of r) (key_of x) s)) h).1.1)
    ∙ cons_rises (key_of r) x xs (lt_of (key_of r) (key_of x) s) h

none_before : (k : Key) (x : Entry) (xs : List Entry) → Cmp (key_of x) k → key_lt (key_of x) k ≡ false → rising_from (key_of x) xs ≡ true
    → before k (x ∷ xs) ≡ []
none_before k x xs (below p q s) n h = absurd (false≢true (sym n ∙ p))
none_before k x xs (equal e p q s) n h = passing_no (λ y. key_lt (key_of y) k) x xs p ∙ (above_all k (key_of x) xs (same (sym e)) h).0
none_before k x xs (above p q s) n h = passing_no (λ y. key_lt (key_of y) k) x xs p ∙ (above_all k (key_of x) xs (less (lt_of k (key_of x) s)) h).0

-- the two shapes of a list at its first record
below_shape : (k : Key) (r x : Entry) (xs : List Entry) → Lt (key_of x) k → (before k (x ∷ xs) ≡ x ∷ before k xs) × (after k (x ∷ xs) ≡ after k xs)
below_shape k r x xs l = by_cmp (cmp (key_of x) k)
  where
    by_cmp : Cmp (key_of x) k → (before k (x ∷ xs) ≡ x ∷ before k xs) × (after k (x ∷ xs) ≡ after k xs)
    by_cmp (below p q s) = (passing_yes (λ y. key_lt (key_of y) k) x xs p, passing_no (λ y. key_lt k (key_of y)) x xs s)
    by_cmp (equal e p q s) = absurd (lt_irrefl (subst (λ (z : Key). Lt z k) e l))
    by_cmp (above p q s) = absurd (lt_irrefl (lt_trans l (lt_of k (key_of x) s)))

data Place (k : Key) (x : Entry) (xs : List Entry) : Type 0 where
  past : Lt (key_of x) k → Place k x xs
  reached : Cmp (key_of x) k → key_lt (key_of x) k ≡ false → Place k x xs

place : (k : Key) (x : Entry) (xs : List Entry) → Place k x xs
place k x xs = by_cmp (cmp (key_of x) k)
  where
    by_cmp : Cmp (key_of x) k → Place k x xs
    by_cmp (below p q s) = past (lt_of (key_of x) k p)
    by_cmp (equal e p q s) = reached (equal e p q s) p
    by_cmp (above p q s) = reached (above p q s) p

inserted_from : (a : Key) (r : Entry) (xs : List Entry) → Lt a (key_of r) → rising_from a xs ≡ true → rising_from a (inserted r xs) ≡ true
inserted_from a r [] l h = cons_rises a r [] l refl
inserted_from a r (x ∷ xs) l h = by_place (place (key_of r) x xs) (λ m. inserted_from (key_of x) r xs m (rest_rises a x xs h))
  where
    by_place : Place (key_of r) x xs → (Lt (key_of x) (key_of r) → rising_from (key_of x) (inserted r xs) ≡ true)
        → rising_from a (inserted r (x ∷ xs)) ≡ true
    by_place (past m) i =
        ap (rising_from a) (ap (λ (t : List Entry). t ++ r ∷ after (key_of r) (x ∷ xs)) (below_shape (key_of r) r x xs m).0 ∙ ap (λ
        (t : List Entry). x ∷ (before (key_of r) xs ++ r ∷ t)) (below_shape (key_of r) r x xs m).1)
        ∙ cons_rises a x (inserted r xs) (first_lt a x xs h) (i m)
    by_place (reached c n) i =
        ap (λ (t : List Entry). rising_from a (t ++ r ∷ after (key_of r) (x ∷ xs))) (none_before (key_of r) x xs c n (rest_rises a x xs h))
        ∙ cons_rises a r (after (key_of r) (x ∷ xs)) l (here-inserted r x xs c n (rest_rises a x xs h))

pub inserted_rises : (r : Entry) (xs : List Entry) → rising xs ≡ true → rising (inserted r xs) ≡ true
inserted_rises r [] h = refl
inserted_rises r (x ∷ xs) h = by_place (place (key_of r) x xs)
  where
    by_place : Place (key_of r) x xs → rising (inserted r (x ∷ xs)) ≡ true
    by_place (past m) =
        ap rising (ap (λ (t : List Entry). t ++ r ∷ after (key_of r) (x ∷ xs)) (below_shape (key_of r) r x xs m).0 ∙ ap (λ (t : List Entry). x ∷
        (before (key_of r) xs ++ r ∷ t)) (below_shape (key_of r) r x xs m).1)
        ∙ inserted_from (key_of x) r xs m h
    by_place (reached c n) =
        ap (λ (t : List Entry). rising (t ++ r ∷ after (key_of r) (x ∷ xs))) (none_before (key_of r) x xs c n h) ∙ here-inserted r x xs c n h

-- the same without the record
removed_from : (a : Key) (r : Entry) (xs : List Entry) → rising_from a xs ≡ true → rising_from a (removed r xs) ≡ true
removed_from a r [] h = refl
removed_from a r (x ∷ xs) h = by_cmp (cmp (key_of x) (key_of r)) (removed_from (key_of x) r xs (rest_rises a x xs h))
  where
    rest : rising_from (key_of x) xs ≡ true
    rest = rest_rises a x xs h

    lt : Lt a (key_of x)
    lt = first_lt a x xs h

    by_cmp : Cmp (key_of x) (key_of r) → rising_from (key_of x) (removed r xs) ≡ true → rising_from a (removed r (x ∷ xs)) ≡ true
    by_cmp (below p q s) i =
        ap (rising_from a) (ap (λ (t : List Entry). t ++ after (key_of r) (x ∷ xs)) (passing_yes (λ y. key_lt (key_of y) (key_of r)) x xs p) ∙ ap (λ
        (t : List Entry). x ∷ (before (key_of r) xs ++ t)) (passing_no (λ y. key_lt (key_of r) (key_of y)) x xs s))
        ∙ cons_rises a x (removed r xs) lt i
    by_cmp (equal e p q s) i =
        ap (rising_from a) (ap (λ (t : List Entry). t ++ after (key_of r) (x ∷ xs)) (none_before (key_of r) x xs (equal e p q s) p rest) ∙ passing_no
        (λ y. key_lt (key_of r) (key_of y)) x xs s ∙ (above_all (key_of r) (key_of x) xs (same (sym e)) rest).1.1)
        ∙ lower a (key_of x) xs lt rest
    by_cmp (above p q s) i =
        ap (rising_from a) (ap (λ (t : List Entry). t ++ after (key_of r) (x ∷ xs)) (none_before (key_of r) x xs (above p q s) p rest) ∙ passing_yes
        (λ y. key_lt (key_of r) (key_of y)) x xs s ∙ ap {B = List Entry} (λ t. x ∷ t) (above_all (key_of r) (key_of x) xs (less (lt_of (key_of r)
        (key_of x) s)) rest).1.1)
        ∙ h

pub removed_rises : (r : Entry) (xs : List Entry) → rising xs ≡ true → rising (removed r xs) ≡ true
removed_rises r [] h = refl
removed_rises r (x ∷ xs) h = by_cmp (cmp (key_of x) (key_of r))
  where
    by_cmp : Cmp (key_of x) (key_of r) → rising (removed r (x ∷ xs)) ≡ true
    by_cmp (below p q s) =
        ap rising (ap (λ (t : List Entry). t ++ after (key_of r) (x ∷ xs)) (passing_yes (λ y. key_lt (key_of y) (key_of r)) x xs p) ∙ ap (λ
        (t : List Entry). x ∷ (before (key_of r) xs ++ t)) (passing_no (λ y. key_lt (key_of r) (key_of y)) x xs s))
        ∙ removed_from (key_of x) r xs h
    by_cmp (equal e p q s) =
        ap rising (ap (λ (t : List Entry). t ++ after (key_of r) (x ∷ xs)) (none_before (key_of r) x xs (equal e p q s) p h) ∙ passing_no (λ y. key_lt
        (key_of r) (key_of y)) x xs s ∙ (above_all (key_of r) (key_of x) xs (same (sym e)) h).1.1)
        ∙ rising-tail (key_of x) xs h
    by_cmp (above p q s) =
        ap rising (ap (λ (t : List Entry). t ++ after (key_of r) (x ∷ xs)) (none_before (key_of r) x xs (above p q s) p h) ∙ passing_yes (λ y. key_lt
        (key_of r) (key_of y)) x xs s ∙ ap {B = List Entry} (λ t. x ∷ t) (above_all (key_of r) (key_of x) xs (less (lt_of (key_of r)
        (key_of x) s)) h).1.1)
        ∙ h

sound_by : (n : ℕ) (ys : List Entry) → n ≤ length ys → rising (take n ys) ≡ true → sound n ys ≡ true
sound_by n ys l h = both_hold (leb n (length ys)) (rising (take n ys)) (le-leb n (length ys) l) h

-- ---- a slice with a rising list in its first places is sound at that list's length
over-sound : (zs more ys : List Entry) → rising zs ≡ true → sound (length zs) ((zs ++ more) ++ ys) ≡ true
over-sound zs more ys h =
    sound_by (length zs) ((zs ++ more) ++ ys) (omega (arith, length-append (zs ++ more) ys, length-append zs more)) (ap rising (ap (take (length zs))
    (append_assoc zs more ys) ∙ take-append_seam zs (more ++ ys)) ∙ h)

-- what an accepted change left, at its new count
record Kept (m : ℕ) (zs ws : List Entry) : Type 0 where
  legal : sound m ws ≡ true
  first : take m ws ≡ zs

kept_over : (zs more ys : List Entry) → rising zs ≡ true → Kept (length zs) zs ((zs ++ more) ++ ys)
kept_over zs more ys h =
    record { legal = over-sound zs more ys h; first = ap (take (length zs)) (append_assoc zs more ys) ∙ take-append_seam zs (more ++ ys) }

insert_kept : (r : Entry) (n : ℕ) (ys : List Entry) → rising (take n ys) ≡ true → insert_number r n ys ≡ 0
    → Kept (insert_of r n ys).count (inserted r (take n ys)) (inserted_list r n ys)
insert_kept r n ys h e = subst (λ (m : ℕ). Kept (grant m (length zs) n) zs (grant m (over zs ys) ys)) (sym e) plain
  where
    zs : List Entry
    zs = inserted r (take n ys)

    plain : Kept (length zs) zs (over zs ys)
    plain =
        record {
          legal = sound_by (length zs) (over zs ys) (omega (arith, length-append zs (drop (length zs) ys))) (ap rising (take-append_seam zs
              (drop (length zs) ys)) ∙ inserted_rises r (take n ys) h);
          first = take-append_seam zs (drop (length zs) ys);
        }

delete_kept : (r : Entry) (n : ℕ) (ys : List Entry) → rising (take n ys) ≡ true → delete_number r n ys ≡ 0
    → Kept (delete_of r n ys).count (removed r (take n ys)) (deleted_list r n ys)
delete_kept r n ys h e =
    subst (λ (m : ℕ). Kept (grant m (length zs) n) zs (grant m (over (zs ++ blank ∷ []) ys) ys)) (sym e) (kept_over zs (blank ∷ []) (drop (length
    (zs ++ blank ∷ [])) ys) (removed_rises r (take n ys) h))
  where
    zs : List Entry
    zs = removed r (take n ys)

-- ---- a legal catalogue stays legal, whether the change is accepted or refused
decided : (number n : ℕ) (xs zs ys : List Entry) → (number ≡ 0 → sound (changed number n xs).count (changed_list number zs ys) ≡ true)
    → sound n ys ≡ true → sound (changed number n xs).count (changed_list number zs ys) ≡ true
decided zero n xs zs ys h s = h refl
decided (suc m) n xs zs ys h s = s

pub insert_legal : (r : Entry) (n : ℕ) (ys : List Entry) → sound n ys ≡ true → sound (insert_of r n ys).count (inserted_list r n ys) ≡ true
insert_legal r n ys s =
    decided (insert_number r n ys) n (inserted r (take n ys)) (inserted r (take n ys)) ys (λ e. (insert_kept r n ys (both_true (leb n (length ys))
    (rising (take n ys)) s).1 e).legal) s

pub delete_legal : (r : Entry) (n : ℕ) (ys : List Entry) → sound n ys ≡ true → sound (delete_of r n ys).count (deleted_list r n ys) ≡ true
delete_legal r n ys s =
    decided (delete_number r n ys) n (removed r (take n ys)) (removed r (take n ys) ++ blank ∷ []) ys (λ e. (delete_kept r n ys (both_true (leb n
    (length ys)) (rising (take n ys)) s).1 e).legal) s

-- ---- what is looked up afterwards
-- of the two parts of a list, none holds the key
parts_same : (k : Key) (xs : List Entry) → (holders k (before k xs) ≡ []) × (holders k (after k xs) ≡ [])
parts_same k xs = (
  passing-none (λ x. key_lt (key_of x) k) (λ x. key_eq (key_of x) k) xs (λ x h. lt_ne (key_of x) k h),
  passing-none (λ x. key_lt k (key_of x))
      (λ x. key_eq (key_of x) k) xs (λ x h. gt_ne (key_of x) k h),
)

-- and of another key they hold all that the list holds
parts_other : (j k : Key) (xs : List Entry) → key_eq k j ≡ false → rising xs ≡ true → holders j xs ≡ holders j (before k xs) ++ holders j (after k xs)
parts_other j k xs n h = by_split (split k xs h)
  where
    by_split : Split k xs → holders j xs ≡ holders j (before k xs) ++ holders j (after k xs)
    by_split (new e p) = ap (holders j) p ∙ passing-append (λ x. key_eq (key_of x) j) (before k xs) (after k xs)
    by_split (old z g e p) =
        ap (holders j) p ∙ passing-append (λ x. key_eq (key_of x) j) (before k xs) (z ∷ after k xs)
        ∙ ap (λ (t : List Entry). holders j (before k xs) ++ t) (passing_no (λ x. key_eq (key_of x) j) z (after k xs) (ap (λ (y : Key). key_eq y j) g
        ∙ n))

inserted_same : (r : Entry) (xs : List Entry) → holders (key_of r) (inserted r xs) ≡ r ∷ []
inserted_same r xs =
    passing-append (λ x. key_eq (key_of x) (key_of r)) (before (key_of r) xs) (r ∷ after (key_of r) xs)
    ∙ ap (λ (t : List Entry). t ++ holders (key_of r) (r ∷ after (key_of r) xs)) (parts_same (key_of r) xs).0
    ∙ passing_yes (λ x. key_eq (key_of x) (key_of r)) r (after (key_of r) xs) (eq_refl (key_of r))
    ∙ ap {B = List Entry} (λ t. r ∷ t) (parts_same (key_of r) xs).1

inserted-other : (j : Key) (r : Entry) (xs : List Entry) → key_eq (key_of r) j ≡ false → rising xs ≡ true → holders j (inserted r xs) ≡ holders j xs
inserted-other j r xs n h =
    passing-append (λ x. key_eq (key_of x) j) (before (key_of r) xs) (r ∷ after (key_of r) xs)
    ∙ ap (λ (t : List Entry). holders j (before (key_of r) xs) ++ t) (passing_no (λ x. key_eq (key_of x) j) r (after (key_of r) xs) n)
    ∙ sym (parts_other j (key_of r) xs n h)

removed_same : (r : Entry) (xs : List Entry) → holders (key_of r) (removed r xs) ≡ []
removed_same r xs =
    passing-append (λ x. key_eq (key_of x) (key_of r)) (before (key_of r) xs) (after (key_of r) xs)
    ∙ ap (λ (t : List Entry). t ++ holders (key_of r) (after (key_of r) xs)) (parts_same (key_of r) xs).0 ∙ (parts_same (key_of r) xs).1

removed-other : (j : Key) (r : Entry) (xs : List Entry) → key_eq (key_of r) j ≡ false → rising xs ≡ true → holders j (removed r xs) ≡ holders j xs
removed-other j r xs n h = passing-append (λ x. key_eq (key_of x) j) (before (key_of r) xs) (after (key_of r) xs) ∙ sym (parts_other j (key_of r) xs n h)

sound_lookup : (j : Key) (n : ℕ) (ys : List Entry) → sound n ys ≡ true → lookup_of j n ys ≡ held_cob (holders j (take n ys))
sound_lookup j n ys s = found_is (sound n ys) (holders j (take n ys)) ∙ ap (λ (b : Bool). pick b (held_cob (holders j (take n ys))) (found_by 9 nought)) s

kept_lookup : (j : Key) (m : ℕ) (zs ws : List Entry) → Kept m zs ws → lookup_of j m ws ≡ held_cob (holders j zs)
kept_lookup j m zs ws t = sound_lookup j m ws t.legal ∙ ap (λ (l : List Entry). held_cob (holders j l)) t.first

module _ (r : Entry) (n : ℕ) (ys : List Entry) (s : sound n ys ≡ true) where
  rises : rising (take n ys) ≡ true
  rises = (both_true (leb n (length ys)) (rising (take n ys)) s).1

  pub lookup_inserted : insert_number r n ys ≡ 0
      → lookup_of (key_of r) (insert_of r n ys).count (inserted_list r n ys) ≡ record { refusal = 0; cob = r.cob }
  lookup_inserted e =
      kept_lookup (key_of r) (insert_of r n ys).count (inserted r (take n ys)) (inserted_list r n ys) (insert_kept r n ys rises e)
      ∙ ap held_cob (inserted_same r (take n ys))

  pub lookup_beside_insert : (j : Key) → key_eq (key_of r) j ≡ false → insert_number r n ys ≡ 0
      → lookup_of j (insert_of r n ys).count (inserted_list r n ys) ≡ lookup_of j n ys
  lookup_beside_insert j d e =
      kept_lookup j (insert_of r n ys).count (inserted r (take n ys)) (inserted_list r n ys) (insert_kept r n ys rises e)
      ∙ ap held_cob (inserted-other j r (take n ys) d rises) ∙ sym (sound_lookup j n ys s)

  pub lookup_deleted : delete_number r n ys ≡ 0 → lookup_of (key_of r) (delete_of r n ys).count (deleted_list r n ys) ≡ record { refusal = 11; cob = nought }
  lookup_deleted e =
      kept_lookup (key_of r) (delete_of r n ys).count (removed r (take n ys)) (deleted_list r n ys) (delete_kept r n ys rises e)
      ∙ ap held_cob (removed_same r (take n ys))

  pub lookup_beside_delete : (j : Key) → key_eq (key_of r) j ≡ false → delete_number r n ys ≡ 0
      → lookup_of j (delete_of r n ys).count (deleted_list r n ys) ≡ lookup_of j n ys
  lookup_beside_delete j d e =
      kept_lookup j (delete_of r n ys).count (removed r (take n ys)) (deleted_list r n ys) (delete_kept r n ys rises e)
      ∙ ap held_cob (removed-other j r (take n ys) d rises) ∙ sym (sound_lookup j n ys s)
