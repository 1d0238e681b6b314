-- A list whose keys rise is the records below a key, the one of the key if there is one, and passing above it.
use Rattle.std.specs.Prelude.{◌≡◌, refl, ◌<◌, true, false, List, [], ◌∷◌, ◌++◌}
use Rattle.std.proofs.Common.{sym, ap, ◌∙◌, subst}
use Rattle.lists.specs.Pick.{both_true, both_hold}
use Rattle.lists.specs.Passing.{passing_yes, passing_no}
use Rattle.entries.specs.declared.Entry.{Entry}
use Rattle.entries.specs.declared.Key.{Key}
use Rattle.entries.specs.Key.{key_of, key_lt, key_eq, listable, rising, rising_from}
use Rattle.entries.specs.Orders.{Le, same, less, le-lt, Reach, near, far, reach, far_on, far_no, lt_no, Lt, lt_of, of_lt, lt_trans, lt_irrefl, Cmp, below, equal, above, cmp}
use Rattle.entries.specs.Catalogue.{before, holders, after, onward}

-- ---- a list that rises from a key on: its first record, and the others

pub first_lt : (a : Key) (r : Entry) (rs : List Entry) → rising_from a (r ∷ rs) ≡ true → Lt a (key_of r)
first_lt a r rs h = lt_of a (key_of r) (both_true (key_lt a (key_of r)) (rising_from (key_of r) rs) h).0

pub rest_rises : (a : Key) (r : Entry) (rs : List Entry) → rising_from a (r ∷ rs) ≡ true → rising_from (key_of r) rs ≡ true
rest_rises a r rs h = (both_true (key_lt a (key_of r)) (rising_from (key_of r) rs) h).1

pub cons_rises : (a : Key) (r : Entry) (rs : List Entry) → Lt a (key_of r) → rising_from (key_of r) rs ≡ true → rising_from a (r ∷ rs) ≡ true
cons_rises a r rs l h = both_hold (key_lt a (key_of r)) (rising_from (key_of r) rs) (of_lt l) h

pub rising-tail : (a : Key) (xs : List Entry) → rising_from a xs ≡ true → rising xs ≡ true
rising-tail a [] h = refl
rising-tail a (r ∷ rs) h = rest_rises a r rs h

-- where one key is below another, what the tests say
pub flips : {a b : Key} → Lt a b → (key_lt a b ≡ true) × ((key_eq b a ≡ false) × (key_lt b a ≡ false))
flips {a} {b} l = by_cmp (cmp b a)
  where
    by_cmp : Cmp b a → (key_lt a b ≡ true) × ((key_eq b a ≡ false) × (key_lt b a ≡ false))
    by_cmp (below p q s) = absurd (lt_irrefl (lt_trans l (lt_of b a p)))
    by_cmp (equal e p q s) = absurd (lt_irrefl (subst (λ (z : Key). Lt a z) e l))
    by_cmp (above p q s) = (s, (q, p))

-- all of a list is above k
abbrev pub Above : Key → List Entry → Type 0
Above k xs = (before k xs ≡ []) × ((holders k xs ≡ []) × (after k xs ≡ xs))

above_step : (k : Key) (r : Entry) (rs : List Entry) → Lt k (key_of r) → Above k rs → Above k (r ∷ rs)
above_step k r rs l rest = (
  passing_no (λ x. key_lt (key_of x) k) r rs f.1.1 ∙ rest.0,
  (
    passing_no (λ x. key_eq (key_of x) k) r rs f.1.0 ∙ rest.1.0,
    passing_yes
        (λ x. key_lt k (key_of x)) r rs f.0 ∙ ap {B = List Entry} (λ t. r ∷ t) rest.1.1,
  ),
)
  where
    f : (key_lt k (key_of r) ≡ true) × ((key_eq (key_of r) k ≡ false) × (key_lt (key_of r) k ≡ false))
    f = flips l

next_lt : (k a : Key) (r : Entry) (rs : List Entry) → Le k a → rising_from a (r ∷ rs) ≡ true → Lt k (key_of r)
next_lt k a r rs l h = le-lt l (first_lt a r rs h)

pub above_all : (k a : Key) (xs : List Entry) → Le k a → rising_from a xs ≡ true → Above k xs
above_all k a [] l h = (refl, (refl, refl))
above_all k a (r ∷ rs) l h = above_step k r rs (next_lt k a r rs l h) (above_all k (key_of r) rs (less (next_lt k a r rs l h)) (rest_rises a r rs h))

pub data Split (k : Key) (xs : List Entry) : Type 0 where
  new : holders k xs ≡ [] → xs ≡ before k xs ++ after k xs → Split k xs
  old : (h : Entry) → key_of h ≡ k → holders k xs ≡ h ∷ [] → xs ≡ before k xs ++ h ∷ after k xs → Split k xs

pub split : (k : Key) (xs : List Entry) → rising xs ≡ true → Split k xs
split k [] h = new refl refl
split k (r ∷ rs) h = by_cmp (cmp (key_of r) k) (split k rs (rising-tail (key_of r) rs h))
  where
    by_cmp : Cmp (key_of r) k → Split k rs → Split k (r ∷ rs)
    by_cmp (below p q s) (new e f) =
        new (passing_no (λ x. key_eq (key_of x) k) r rs q ∙ e) (ap {B = List Entry} (λ t. r ∷ t) f ∙ cc (
          passing_yes (λ x. key_lt (key_of x) k) r rs p,
          passing_no (λ x. key_lt k (key_of x)) r rs s,
        ))
    by_cmp (below p q s) (old h g e f) =
        old h g (passing_no (λ x. key_eq (key_of x) k) r rs q ∙ e) (ap {B = List Entry} (λ t. r ∷ t) f ∙ cc (
          passing_yes (λ x. key_lt
              (key_of x) k) r rs p,
          passing_no (λ x. key_lt k (key_of x)) r rs s,
        ))
    by_cmp (equal g p q s) i =
        old r g (passing_yes (λ x. key_eq (key_of x) k) r rs q ∙ ap {B = List Entry} (λ t. r ∷ t) a.1.0) (cc (
          passing_no (λ x. key_lt
              (key_of x) k) r rs p,
          passing_no (λ x. key_lt k (key_of x)) r rs s,
          a.0,
          a.1.1,
        ))
      where
        a : (before k rs ≡ []) × ((holders k rs ≡ []) × (after k rs ≡ rs))
        a = above_all k (key_of r) rs (same (sym g)) h
    by_cmp (above p q s) i =
        new (passing_no (λ x. key_eq (key_of x) k) r rs q ∙ a.1.0) (cc (
          passing_no (λ x. key_lt (key_of x) k) r rs p,
          passing_yes (λ x. key_lt k
              (key_of x)) r rs s,
          a.0,
          a.1.1,
        ))
      where
        a : (before k rs ≡ []) × ((holders k rs ≡ []) × (after k rs ≡ rs))
        a = above_all k (key_of r) rs (less (lt_of k (key_of r) s)) h

-- ---- the records of a device from a file on stand together
-- a list, and what of it stands before and after a part of it
pub record Within (ps qs xs : List Entry) : Type 0 where
  pub rest : List Entry
  pub parts : xs ≡ ps ++ (qs ++ rest)

far_all : (k a : Key) (xs : List Entry) → k.device < a.device → rising_from a xs ≡ true → onward k xs ≡ []
far_all k a [] l h = refl
far_all k a (r ∷ rs) l h =
    passing_no (λ x. listable k (key_of x)) r rs (far_no k (key_of r) (far_on k l (first_lt a r rs h)))
    ∙ far_all k (key_of r) rs (far_on k l (first_lt a r rs h)) (rest_rises a r rs h)

-- from a record on that is not below k
onward-step : (k : Key) (r : Entry) (rs : List Entry) → Reach k (key_of r) → rising_from (key_of r) rs ≡ true → Within [] (onward k rs) rs
    → Within [] (onward k (r ∷ rs)) (r ∷ rs)
onward-step k r rs (near e) h w =
    record {
      rest = w.rest;
      parts = ap {B = List Entry} (λ t. r ∷ t) w.parts ∙ sym (ap (λ (t : List Entry). t ++ w.rest) (passing_yes
          (λ x. listable k (key_of x)) r rs e));
    }
onward-step k r rs (far l) h w =
    record {
      rest = r ∷ rs;
      parts = sym (ap (λ (t : List Entry). t ++ r ∷ rs) (passing_no (λ x. listable k (key_of x)) r rs (far_no k (key_of r) l)
          ∙ far_all k (key_of r) rs l h));
    }

onward_from : (k a : Key) (xs : List Entry) → Le k a → rising_from a xs ≡ true → Within [] (onward k xs) xs
onward_from k a [] l h = record { rest = []; parts = refl }
onward_from k a (r ∷ rs) l h =
    onward-step k r rs (reach (less (next_lt k a r rs l h))) (rest_rises a r rs h) (onward_from k (key_of r) rs (less (next_lt k a r rs l h))
    (rest_rises a r rs h))

onward-here : (k : Key) (r : Entry) (rs : List Entry) → Le k (key_of r) → key_lt (key_of r) k ≡ false → rising_from (key_of r) rs ≡ true
    → Within (before k (r ∷ rs)) (onward k (r ∷ rs)) (r ∷ rs)
onward-here k r rs l p h =
    record {
      rest = w.rest;
      parts = w.parts ∙ sym (ap (λ (t : List Entry). t ++ (onward k (r ∷ rs) ++ w.rest)) (passing_no (λ x. key_lt
          (key_of x) k) r rs p ∙ (above_all k (key_of r) rs l h).0));
    }
  where
    w : Within [] (onward k (r ∷ rs)) (r ∷ rs)
    w = onward-step k r rs (reach l) h (onward_from k (key_of r) rs l h)

pub onward-within : (k : Key) (xs : List Entry) → rising xs ≡ true → Within (before k xs) (onward k xs) xs
onward-within k [] h = record { rest = []; parts = refl }
onward-within k (r ∷ rs) h = by_cmp (cmp (key_of r) k) (onward-within k rs (rising-tail (key_of r) rs h))
  where
    by_cmp : Cmp (key_of r) k → Within (before k rs) (onward k rs) rs → Within (before k (r ∷ rs)) (onward k (r ∷ rs)) (r ∷ rs)
    by_cmp (below p q s) w =
        record {
          rest = w.rest;
          parts = ap {B = List Entry} (λ t. r ∷ t) w.parts ∙ cc (
            passing_yes (λ x. key_lt (key_of x) k) r rs p,
            passing_no
                (λ x. listable k (key_of x)) r rs (lt_no (lt_of (key_of r) k p)),
          );
        }
    by_cmp (equal g p q s) w = onward-here k r rs (same (sym g)) p h
    by_cmp (above p q s) w = onward-here k r rs (less (lt_of k (key_of r) s)) p h
