-- What insertion and deletion leave, said of the whole list: `rolled` and `insertion_of` become `inserted`, and `deletion_of` becomes `removed`.
use Rattle.std.specs.Prelude.{◌≡◌, refl, ℕ, suc, ◌+◌, ◌-◌, ◌≤◌, ◌<◌, Bool, true, false, ◌||◌, List, [], ◌∷◌, ◌++◌, ltb, leb, length, get_or, take, drop, Option, Result}
use Rattle.std.proofs.Common.{sym, ap, ◌∙◌, subst, arith, append_assoc, length-append, take-append-drop, length-take-le, drop-cons, ltb-true, leb-true}
use Rattle.std.proofs.lemmas.Bool.{false≢true}
use Rattle.std.specs.Option.{is_some}
use Rattle.lists.specs.Pick.{pick, both_true}
use Rattle.lists.specs.Passing.{passing, over, nonempty}
use Rattle.lists.specs.Refusal.{refusal_by, ◌or_else◌}
use Rattle.lists.specs.declared.Refusal.{Refusal}
use Rattle.entries.specs.declared.Entry.{Entry}
use Rattle.entries.specs.declared.Plan.{Plan}
use Rattle.entries.specs.declared.Changed.{Changed}
use Rattle.entries.specs.declared.Wide.{Wide}
use Rattle.entries.specs.Wide.{wide_eq}
use Rattle.entries.specs.Blank.{blank}
use Rattle.entries.specs.Key.{key_of, rising}
use Rattle.entries.specs.Look.{scan_of}
use Rattle.entries.specs.declared.Way.TheVariants.{Up, Down}
use Rattle.entries.specs.Roll.{rolled, rolled_by, AnyInside}
use Rattle.entries.specs.Plans.{has_cob, insertion_by, deletion_by, insertion_of, deletion_of, outcome_of}
use Rattle.entries.specs.Catalogue.{before, holders, after, sound, inserted, insert_of, inserted_list, removed, matches, delete_of, deleted_list, changed, changed_list}
use Rattle.entries.specs.Splits.{Split, new, old, split}
use Rattle.entries.specs.Rolls.{rolled_up, rolled_down}
use Rattle.entries.specs.Looks.{held, there-held, scan_n, scan_len, scan_sound, scan_at, scan_found, scan_placed}

-- ---- the plan, of the numbers that the definitions speak of; where the catalogue is bad, no other number counts
insertion_by_lem : (n at at' : ℕ) (r : Entry) (s f f' l : Bool) → (s ≡ true → at ≡ at') → (s ≡ true → f ≡ f')
    → insertion_by n at r s f l ≡ insertion_by n at' r s f' l
insertion_by_lem n at at' r true f f' l p q = ap (λ (j : ℕ). insertion_by n j r true f l) (p refl) ∙ ap (λ (b : Bool). insertion_by n at' r true b l) (q refl)
insertion_by_lem n at at' r false f f' l p q = refl

there : (r : Entry) (n : ℕ) (ys : List Entry) → sound n ys ≡ true
    → is_some (scan_of (key_of r) n ys).found ≡ nonempty (holders (key_of r) (take n ys))
there r n ys s = ap is_some (scan_found (key_of r) n ys s) ∙ there-held (holders (key_of r) (take n ys))

pub insertion_is : (r : Entry) (n : ℕ) (ys : List Entry)
    → insertion_of (scan_of (key_of r) n ys) r ≡ insertion_by n (length (before (key_of r) (take n ys))) r (sound n ys) (nonempty (holders (key_of r)
    (take n ys))) (ltb n (length ys))
unfolding insertion_of
insertion_is r n ys =
    cc (scan_n (key_of r) n ys, scan_len (key_of r) n ys, scan_sound (key_of r) n ys)
    ∙ insertion_by_lem n (scan_of (key_of r) n ys).at (length (before (key_of r) (take n ys))) r (sound n ys) (is_some (scan_of (key_of r) n ys).found)
    (nonempty (holders (key_of r) (take n ys))) (ltb n (length ys)) (scan_at (key_of r) n ys) (there r n ys)

-- what an accepted change knows: the first n records, and the rest
record Good (n : ℕ) (ys : List Entry) : Type 0 where
  fits : n ≤ length ys
  count : length (take n ys) ≡ n
  rises : rising (take n ys) ≡ true
  whole : ys ≡ take n ys ++ drop n ys

good : (n : ℕ) (ys : List Entry) → sound n ys ≡ true → Good n ys
good n ys h =
    record {
      fits = fit;
      count = length-take-le n ys fit;
      rises = (both_true (leb n (length ys)) (rising (take n ys)) h).1;
      whole = sym
          (take-append-drop n ys);
    }
  where
    fit : n ≤ length ys
    fit = leb-true n (length ys) (both_true (leb n (length ys)) (rising (take n ys)) h).0

-- ---- the run of an insertion lies within the slice
inside-at : (n at len : ℕ) (r : Entry) (s f l : Bool) → (s ≡ true → n ≤ len) → (l ≡ true → n < len) → (s ≡ true → at ≤ n)
    → (s ≡ true → f ≡ true → at < n)
    → AnyInside (insertion_by n at r s f l) len
inside-at n at len r true true l h₁ h₂ h₃ h₄ = (omega arith, omega (arith, h₁ refl, h₄ refl refl))
inside-at n at len r true false true h₁ h₂ h₃ h₄ = (omega (arith, h₃ refl), omega (arith, h₂ refl))
inside-at n at len r true false false h₁ h₂ h₃ h₄ = tt
inside-at n at len r false f l h₁ h₂ h₃ h₄ = tt

pub insertion_inside : (r : Entry) (n : ℕ) (ys : List Entry)
    → AnyInside (insertion_of (scan_of (key_of r) n ys) r) (length ys)
insertion_inside r n ys = subst (λ (w : Result Plan Refusal). AnyInside w (length ys)) (sym (insertion_is r n ys))
    (inside-at n (length (before (key_of r) (take n ys))) (length ys) r (sound n ys) (nonempty (holders (key_of r) (take n ys))) (ltb n (length ys))
    (λ e. (good n ys e).fits) (ltb-true n (length ys))
    (λ s. omega (arith, (scan_placed (key_of r) n ys).0, scan_at (key_of r) n ys s, scan_n (key_of r) n ys))
    (λ s e. omega (arith, (scan_placed (key_of r) n ys).1 (there r n ys s ∙ e), scan_at (key_of r) n ys s, scan_n (key_of r) n ys)))

-- ---- how many records there are after an insertion
inserted-length : (r : Entry) (xs : List Entry) → length (inserted r xs) ≡ length (before (key_of r) xs) + suc (length (after (key_of r) xs))
inserted-length r xs = length-append (before (key_of r) xs) (r ∷ after (key_of r) xs)

replaced_length : (r : Entry) (xs : List Entry) → rising xs ≡ true → nonempty (holders (key_of r) xs) ≡ true → length (inserted r xs) ≡ length xs
replaced_length r xs h f = by_split (split (key_of r) xs h)
  where
    by_split : Split (key_of r) xs → length (inserted r xs) ≡ length xs
    by_split (new e p) = let z : ◌≡◌ {A = ℕ} 0 1 = cc in absurd (omega arith)
    by_split (old h g e p) = inserted-length r xs ∙ sym (ap length p ∙ length-append (before (key_of r) xs) (h ∷ after (key_of r) xs))

grown-length : (r : Entry) (xs : List Entry) → rising xs ≡ true → nonempty (holders (key_of r) xs) ≡ false → length (inserted r xs) ≡ length xs + 1
grown-length r xs h f = by_split (split (key_of r) xs h)
  where
    by_split : Split (key_of r) xs → length (inserted r xs) ≡ length xs + 1
    by_split (old h g e p) = let z : ◌≡◌ {A = ℕ} 0 1 = cc in absurd (omega arith)
    by_split (new e p) = omega (arith, inserted-length r xs, ap length p, length-append (before (key_of r) xs) (after (key_of r) xs))

outcome_at : (n at : ℕ) (r : Entry) (s f l : Bool) (zs : List Entry) → (s ≡ true → f ≡ true → length zs ≡ n)
    → (s ≡ true → f ≡ false → length zs ≡ n + 1)
    → outcome_of n (insertion_by n at r s f l) ≡ changed (refusal_by ((s, 9) ∷ (f || l, 10) ∷ [])) n zs
unfolding refusal_by ◌or_else◌
outcome_at n at r true true l zs h₁ h₂ = ap {B = Changed} (λ (j : ℕ). record { refusal = 0; count = j }) (sym (h₁ refl refl))
outcome_at n at r true false true zs h₁ h₂ = ap {B = Changed} (λ (j : ℕ). record { refusal = 0; count = j }) (sym (h₂ refl refl))
outcome_at n at r true false false zs h₁ h₂ = refl
outcome_at n at r false f l zs h₁ h₂ = refl

pub insertion_outcome : (r : Entry) (n : ℕ) (ys : List Entry) → outcome_of n (insertion_of (scan_of (key_of r) n ys) r) ≡ insert_of r n ys
insertion_outcome r n ys =
    ap (outcome_of n) (insertion_is r n ys)
    ∙ outcome_at n (length (before (key_of r) (take n ys))) r (sound n ys) (nonempty (holders (key_of r) (take n ys))) (ltb n (length ys)) (inserted r
    (take n ys))
    (λ s f. replaced_length r (take n ys) (good n ys s).rises f ∙ (good n ys s).count) (λ s f. grown-length r (take n ys) (good n ys s).rises f ∙ ap
    (λ (j : ℕ). j + 1) (good n ys s).count)

-- ---- what an insertion leaves
-- the run over one place
replaced : (r : Entry) (n : ℕ) (ys : List Entry) → Good n ys → nonempty (holders (key_of r) (take n ys)) ≡ true
    → rolled Up (length (before (key_of r) (take n ys))) (length (before (key_of r) (take n ys)) + 1) r ys ≡ over (inserted r (take n ys)) ys
replaced r n ys g f = by_split (split (key_of r) (take n ys) g.rises)
  where
    ps : List Entry
    ps = before (key_of r) (take n ys)

    qs : List Entry
    qs = after (key_of r) (take n ys)

    by_split : Split (key_of r) (take n ys) → rolled Up (length ps) (length ps + 1) r ys ≡ over (inserted r (take n ys)) ys
    by_split (new e p) = let z : ◌≡◌ {A = ℕ} 0 1 = cc in absurd (omega arith)
    by_split (old h k e p) =
        ap (rolled Up (length ps) (length ps + 1) r) (g.whole ∙ ap (λ (t : List Entry). t ++ drop n ys) p ∙ append_assoc ps (h ∷ qs) (drop n ys))
        ∙ rolled_up ps [] r h (qs ++ drop n ys) ∙ sym (append_assoc ps (r ∷ qs) (drop n ys))
        ∙ ap (λ (j : ℕ). (ps ++ r ∷ qs) ++ drop j ys) (sym (replaced_length r (take n ys) g.rises f ∙ g.count))

-- the run up to the first free place
grown : (r : Entry) (n : ℕ) (ys : List Entry) → Good n ys → nonempty (holders (key_of r) (take n ys)) ≡ false → n < length ys
    → rolled Up (length (before (key_of r) (take n ys))) (n + 1) r ys ≡ over (inserted r (take n ys)) ys
grown r n ys g f l = by_split (split (key_of r) (take n ys) g.rises)
  where
    ps : List Entry
    ps = before (key_of r) (take n ys)

    qs : List Entry
    qs = after (key_of r) (take n ys)

    by_split : Split (key_of r) (take n ys) → rolled Up (length ps) (n + 1) r ys ≡ over (inserted r (take n ys)) ys
    by_split (old h k e p) = let z : ◌≡◌ {A = ℕ} 0 1 = cc in absurd (omega arith)
    by_split (new e p) =
        ap (λ (j : ℕ). rolled Up (length ps) j r ys) turns
        ∙ ap (rolled Up (length ps) (length ps + suc (length qs)) r) (g.whole ∙ ap (λ (t : List Entry). t ++ drop n ys) p ∙ append_assoc ps qs (drop n ys)
        ∙ ap (λ (t : List Entry). ps ++ (qs ++ t)) (drop-cons ys n blank l))
        ∙ rolled_up ps qs r (get_or ys n blank) (drop (suc n) ys) ∙ sym (append_assoc ps (r ∷ qs) (drop (suc n) ys))
        ∙ ap (λ (j : ℕ). (ps ++ r ∷ qs) ++ drop j ys) (sym count)
      where
        turns : n + 1 ≡ length ps + suc (length qs)
        turns = omega (arith, g.count, ap length p, length-append ps qs)

        count : length (inserted r (take n ys)) ≡ suc n
        count = omega (arith, grown-length r (take n ys) g.rises f, g.count)

list_at : (n at : ℕ) (r : Entry) (s f l : Bool) (zs ys : List Entry) → (s ≡ true → f ≡ true → rolled Up at (at + 1) r ys ≡ over zs ys)
    → (s ≡ true → f ≡ false → l ≡ true → rolled Up at (n + 1) r ys ≡ over zs ys)
    → rolled_by (insertion_by n at r s f l) ys ≡ changed_list (refusal_by ((s, 9) ∷ (f || l, 10) ∷ [])) zs ys
unfolding refusal_by ◌or_else◌
list_at n at r true true l zs ys h₁ h₂ = h₁ refl refl
list_at n at r true false true zs ys h₁ h₂ = h₂ refl refl refl
list_at n at r true false false zs ys h₁ h₂ = refl
list_at n at r false f l zs ys h₁ h₂ = refl

pub insertion_list : (r : Entry) (n : ℕ) (ys : List Entry)
    → rolled_by (insertion_of (scan_of (key_of r) n ys) r) ys ≡ inserted_list r n ys
insertion_list r n ys = ap (λ (w : Result Plan Refusal). rolled_by w ys) (insertion_is r n ys)
    ∙ list_at n (length (before (key_of r) (take n ys))) r (sound n ys) (nonempty (holders (key_of r) (take n ys))) (ltb n (length ys)) (inserted r
    (take n ys)) ys (λ s f. replaced r n ys (good n ys s) f) (λ s f l. grown r n ys (good n ys s) f (ltb-true n (length ys) l))

-- ---- deletion
-- the record that the pass found has the cob, where the keys rise, exactly if a record matches
match_is : (r : Entry) (xs : List Entry) (o : Option Wide) → rising xs ≡ true → o ≡ held (holders (key_of r) xs)
    → has_cob o r.cob ≡ nonempty (matches r xs)
match_is r xs o h e = by_split (split (key_of r) xs h)
  where
    one : (b : Bool) (z : Entry) → b ≡ nonempty (pick b (z ∷ []) [])
    one true z = refl
    one false z = refl

    by_split : Split (key_of r) xs → has_cob o r.cob ≡ nonempty (matches r xs)
    by_split (new n p) =
        ap (λ (w : Option Wide). has_cob w r.cob) (e ∙ ap held n)
        ∙ sym (ap (λ (l : List Entry). nonempty (passing (λ x. wide_eq x.cob r.cob) l)) n)
    by_split (old z k n p) =
        ap (λ (w : Option Wide). has_cob w r.cob) (e ∙ ap held n) ∙ one (wide_eq z.cob r.cob) z
        ∙ sym (ap (λ (l : List Entry). nonempty (passing (λ x. wide_eq x.cob r.cob) l)) n)

deletion_by_lem : (n at at' : ℕ) (s m m' : Bool) → (s ≡ true → at ≡ at') → (s ≡ true → m ≡ m') → deletion_by n at s m ≡ deletion_by n at' s m'
deletion_by_lem n at at' true m m' p h = ap (λ (j : ℕ). deletion_by n j true m) (p refl) ∙ ap (deletion_by n at' true) (h refl)
deletion_by_lem n at at' false m m' p h = refl

pub deletion_is : (r : Entry) (n : ℕ) (ys : List Entry)
    → deletion_of (scan_of (key_of r) n ys) r ≡ deletion_by n (length (before (key_of r) (take n ys))) (sound n ys) (nonempty (matches r (take n ys)))
unfolding deletion_of
deletion_is r n ys =
    cc (scan_n (key_of r) n ys, scan_sound (key_of r) n ys)
    ∙ deletion_by_lem n (scan_of (key_of r) n ys).at (length (before (key_of r) (take n ys))) (sound n ys) (has_cob (scan_of (key_of r) n ys).found r.cob)
    (nonempty (matches r (take n ys))) (scan_at (key_of r) n ys)
    (λ s. match_is r (take n ys) (scan_of (key_of r) n ys).found (good n ys s).rises (scan_found (key_of r) n ys s))

-- what an accepted deletion knows
pub record Gone (r : Entry) (n : ℕ) (ys : List Entry) : Type 0 where
  pub h : Entry
  pub parts : take n ys ≡ before (key_of r) (take n ys) ++ h ∷ after (key_of r) (take n ys)
  pub size : n ≡ length (before (key_of r) (take n ys)) + suc (length (after (key_of r) (take n ys)))

pub gone : (r : Entry) (n : ℕ) (ys : List Entry) → sound n ys ≡ true → nonempty (matches r (take n ys)) ≡ true → Gone r n ys
gone r n ys s m = by_split (split (key_of r) (take n ys) (good n ys s).rises)
  where
    by_split : Split (key_of r) (take n ys) → Gone r n ys
    by_split (new e p) = absurd (false≢true (sym (ap (λ (l : List Entry). nonempty (passing (λ x. wide_eq x.cob r.cob) l)) e) ∙ m))
    by_split (old z k e p) =
        record {
          h = z;
          parts = p;
          size = sym (good n ys s).count ∙ ap length p ∙ length-append (before (key_of r) (take n ys)) (z ∷ after (key_of r)
              (take n ys));
        }

delete_inside-at : (n at len : ℕ) (s m : Bool) → (s ≡ true → n ≤ len) → (s ≡ true → m ≡ true → at < n) → AnyInside (deletion_by n at s m) len
delete_inside-at n at len true true h₁ h₂ = (h₂ refl refl, h₁ refl)
delete_inside-at n at len true false h₁ h₂ = tt
delete_inside-at n at len false m h₁ h₂ = tt

pub deletion_inside : (r : Entry) (n : ℕ) (ys : List Entry) → AnyInside (deletion_of (scan_of (key_of r) n ys) r) (length ys)
deletion_inside r n ys = subst (λ (w : Result Plan Refusal). AnyInside w (length ys)) (sym (deletion_is r n ys))
    (delete_inside-at n (length (before (key_of r) (take n ys))) (length ys) (sound n ys) (nonempty (matches r (take n ys)))
    (λ s. (good n ys s).fits) (λ s m. omega (arith, (gone r n ys s m).size)))

delete_outcome_at : (n at : ℕ) (s m : Bool) (zs : List Entry) → (s ≡ true → m ≡ true → length zs ≡ n - 1)
    → outcome_of n (deletion_by n at s m) ≡ changed (refusal_by ((s, 9) ∷ (m, 11) ∷ [])) n zs
unfolding refusal_by ◌or_else◌
delete_outcome_at n at true true zs h = ap {B = Changed} (λ (j : ℕ). record { refusal = 0; count = j }) (sym (h refl refl))
delete_outcome_at n at true false zs h = refl
delete_outcome_at n at false m zs h = refl

pub deletion_outcome : (r : Entry) (n : ℕ) (ys : List Entry) → outcome_of n (deletion_of (scan_of (key_of r) n ys) r) ≡ delete_of r n ys
deletion_outcome r n ys =
    ap (outcome_of n) (deletion_is r n ys)
    ∙ delete_outcome_at n (length (before (key_of r) (take n ys))) (sound n ys) (nonempty (matches r (take n ys))) (removed r (take n ys))
    (λ s m. omega (arith, (gone r n ys s m).size, length-append (before (key_of r) (take n ys)) (after (key_of r) (take n ys))))

shrunk : (r : Entry) (n : ℕ) (ys : List Entry) → sound n ys ≡ true → Gone r n ys
    → rolled Down (length (before (key_of r) (take n ys))) n blank ys ≡ over (removed r (take n ys) ++ blank ∷ []) ys
shrunk r n ys s g =
    ap (λ (j : ℕ). rolled Down (length ps) j blank ys) g.size
    ∙ ap (rolled Down (length ps) (length ps + suc (length qs)) blank) ((good n ys s).whole ∙ ap (λ (t : List Entry). t ++ drop n ys) g.parts
    ∙ append_assoc ps (g.h ∷ qs) (drop n ys))
    ∙ rolled_down ps qs blank g.h (drop n ys)
    ∙ sym (append_assoc (ps ++ qs) (blank ∷ []) (drop n ys) ∙ append_assoc ps qs (blank ∷ drop n ys))
    ∙ ap (λ (j : ℕ). ((ps ++ qs) ++ blank ∷ []) ++ drop j ys) size
  where
    ps : List Entry
    ps = before (key_of r) (take n ys)

    qs : List Entry
    qs = after (key_of r) (take n ys)

    size : n ≡ length ((ps ++ qs) ++ blank ∷ [])
    size = omega (arith, g.size, length-append (ps ++ qs) (blank ∷ []), length-append ps qs)

delete_list_at : (n at : ℕ) (s m : Bool) (zs ys : List Entry) → (s ≡ true → m ≡ true → rolled Down at n blank ys ≡ over zs ys)
    → rolled_by (deletion_by n at s m) ys ≡ changed_list (refusal_by ((s, 9) ∷ (m, 11) ∷ [])) zs ys
unfolding refusal_by ◌or_else◌
delete_list_at n at true true zs ys h = h refl refl
delete_list_at n at true false zs ys h = refl
delete_list_at n at false m zs ys h = refl

pub deletion_list : (r : Entry) (n : ℕ) (ys : List Entry) → rolled_by (deletion_of (scan_of (key_of r) n ys) r) ys ≡ deleted_list r n ys
deletion_list r n ys = ap (λ (w : Result Plan Refusal). rolled_by w ys) (deletion_is r n ys)
    ∙ delete_list_at n (length (before (key_of r) (take n ys))) (sound n ys) (nonempty (matches r (take n ys))) (removed r
    (take n ys) ++ blank ∷ []) ys (λ s m. shrunk r n ys s (gone r n ys s m))
