-- Which slots a change leaves as they were.
use Rattle.std.specs.Prelude.{◌≡◌, refl, ℕ, zero, suc, ◌+◌, ◌-◌, ◌≤◌, List, [], ◌∷◌, ◌++◌, length, get_or, take, drop}
use Rattle.std.proofs.Common.{sym, ap, ◌∙◌, subst, arith, append_assoc, length-append, get_or-append-add, get_or-drop}
use Rattle.std.proofs.Math.Seq.{get_or-append_seam}
use Rattle.lists.specs.Passing.{over}
use Rattle.lists.specs.Refusal.{refusal_lowest, grant, grant_no}
use Rattle.entries.specs.declared.Entry.{Entry}
use Rattle.entries.specs.Blank.{blank}
use Rattle.entries.specs.Key.{key_of}
use Rattle.entries.specs.Catalogue.{before, after, inserted, insert_number, insert_of, inserted_list, removed, delete_tests, delete_number, delete_of, deleted_list, changed_list}
use Rattle.entries.specs.Changes.{gone}

-- ---- "Slots beyond the larger of the old and new counts never change."

over-at : (zs ys : List Entry) (i : ℕ) (d : Entry) → length zs ≤ i → get_or (over zs ys) i d ≡ get_or ys i d
over-at zs ys i d h =
    let e : length zs + (i - length zs) ≡ i = omega arith in
    subst (λ (j : ℕ). get_or (over zs ys) j d ≡ get_or ys j d) e
    (get_or-append-add zs (drop (length zs) ys) (i - length zs) d ∙ get_or-drop (length zs) ys (i - length zs) d)

-- a change whose list is no longer than i is not seen at i
beyond : (number : ℕ) (zs ys : List Entry) (i : ℕ) (d : Entry) → (number ≡ 0 → length zs ≤ i) → get_or (changed_list number zs ys) i d ≡ get_or ys i d
beyond zero zs ys i d h = over-at zs ys i d (h refl)
beyond (suc m) zs ys i d h = refl

module _ (r : Entry) (n : ℕ) (ys : List Entry) (i : ℕ) (d : Entry) (above : n ≤ i) where
  pub insert_beyond : (insert_of r n ys).count ≤ i → get_or (inserted_list r n ys) i d ≡ get_or ys i d
  insert_beyond h =
      beyond (insert_number r n ys) (inserted r (take n ys)) ys i d
      (λ e. subst (λ (m : ℕ). grant m (length (inserted r (take n ys))) n ≤ i) e h)

  pub delete_beyond : get_or (deleted_list r n ys) i d ≡ get_or ys i d
  delete_beyond =
      beyond (delete_number r n ys) (removed r (take n ys) ++ blank ∷ []) ys i d
      (λ e.
      let p = (refusal_lowest 1 (delete_tests r n ys) (omega arith) refl).none e in
      omega (
        arith,
        (gone r n ys p.0 p.1.0).size,
        length-append (removed r (take n ys)) (blank ∷ []),
        length-append (before (key_of r)
            (take n ys)) (after (key_of r) (take n ys)),
      ))

-- "the slot it frees at the end becomes three zeros", the words of its pairs among them: the slot at the new count
pub delete_frees : (r : Entry) (n : ℕ) (ys : List Entry) (d : Entry) → delete_number r n ys ≡ 0
    → get_or (deleted_list r n ys) (delete_of r n ys).count d ≡ blank
delete_frees r n ys d e =
    subst (λ (m : ℕ). get_or (changed_list m zs ys) (grant m (length (removed r (take n ys))) n) d ≡ blank) (sym e)
    (ap (λ (l : List Entry). get_or l (length (removed r (take n ys))) d) (append_assoc (removed r (take n ys)) (blank ∷ []) (drop (length zs) ys))
    ∙ get_or-append_seam (removed r (take n ys)) blank (drop (length zs) ys) d)
  where
    zs : List Entry
    zs = removed r (take n ys) ++ blank ∷ []

-- a refused change leaves the catalogue and its count

module _ (r : Entry) (n : ℕ) (ys : List Entry) where
  pub insert_refused : (insert_number r n ys ≡ 0 → ⊥) → ((insert_of r n ys).count ≡ n) × (inserted_list r n ys ≡ ys)
  insert_refused f = (grant_no (insert_number r n ys) _ n f, grant_no (insert_number r n ys) _ ys f)

  pub delete_refused : (delete_number r n ys ≡ 0 → ⊥) → ((delete_of r n ys).count ≡ n) × (deleted_list r n ys ≡ ys)
  delete_refused f = (grant_no (delete_number r n ys) _ n f, grant_no (delete_number r n ys) _ ys f)
