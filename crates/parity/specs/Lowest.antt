-- What a rebuilding promises, said of the n lowest units that are there; that the rebuilt group keeps it; and that no other does.
use Rattle.std.specs.Prelude.{◌≡◌, Bool, true, false, not, ℕ, ◌+◌, ◌-◌, ◌<◌, ◌≤◌, ltb, length, get_or}
use Rattle.std.proofs.Common.{sym, ap, ◌∙◌, subst, ⊎_elim, le_trans, le-add_right, add-sub_of_le, arith, lt-ltb, ltb-true}
use Rattle.std.proofs.Math.Path.{subst⁻¹}
use Rattle.std.proofs.lemmas.Bool.{not-true}
use Rattle.lists.specs.Pick.{pick_true, pick-false, both, both_true, both_hold, either_way, below_or_not}
use Rattle.lists.specs.Count.{count, count_add, count-not}
use Rattle.lists.specs.Those.{length-those, those-place, those_rank}
use Rattle.parity.specs.Group.{content, parity_of, Solvable, lost, there, data_of, rebuilt}
use Rattle.parity.specs.Content.{content_data, content_parity, content_cong}
use Rattle.parity.specs.Restores.{Fits, fits_unique, data_fits, enough, there-lt, there_in}

-- u is one of the n lowest units that are there
abbrev pub used : ℕ → (ℕ → Bool) → ℕ → Bool
used n miss u = both (not (miss u)) (ltb (count (λ v. not (miss v)) u) n)

-- "It uses the N lowest present units, fills the missing ones and changes nothing else, also where the present ones disagree": some data bytes
-- give the n lowest units that are there; the missing units are filled from them, and the others are as they were
pub record Rebuilds (n k : ℕ) (miss : ℕ → Bool) (old new : ℕ → ℕ) : Type 0 where
  pub from : ℕ → ℕ
  pub bytes : (j : ℕ) → j < n → from j < 256
  pub agrees : (u : ℕ) → u < n + k → used n miss u ≡ true → content n from u ≡ old u
  pub filled : (u : ℕ) → u < n + k → miss u ≡ true → new u ≡ content n from u
  pub kept : (u : ℕ) → u < n + k → miss u ≡ false → new u ≡ old u

module _ (n k : ℕ) (miss : ℕ → Bool) (s : Solvable n k miss) where
  used_data : (j : ℕ) → j < n → miss j ≡ false → used n miss j ≡ true
  used_data j h t = both_hold (not (miss j)) _ (ap not t) (lt-ltb _ n (omega (arith, count-not miss j)))

  -- how many units that are there lie below parity i
  below : (i : ℕ) → count (λ v. not (miss v)) (n + i) + length (lost n miss) ≡ n + count (λ v. not (miss (n + v))) i
  below i = omega (arith, length-those miss n, count_add (λ v. not (miss v)) n i, count-not miss n)

  used_parity : (r : ℕ) → r < length (lost n miss) → used n miss (n + get_or (there n k miss) r 0) ≡ true
  used_parity r h =
      let i = get_or (there n k miss) r 0 in
      let p : count (λ v. not (miss (n + v))) i ≡ r = those_rank (λ v. not (miss (n + v))) k r (le_trans h (enough n k miss s)) in
      both_hold (not (miss (n + i))) _ (ap not (there_in n k miss s r h)) (lt-ltb _ n (omega (arith, below i)))

  module _ (old : ℕ → ℕ) where
    fits_of : (d : ℕ → ℕ) → ((j : ℕ) → j < n → d j < 256) → ((u : ℕ) → u < n + k → used n miss u ≡ true → content n d u ≡ old u)
        → Fits n k miss s old d
    fits_of d b e =
        record {
          bytes = b;
          same = λ j h t. sym (content_data n d j h) ∙ e j (le_trans h (le-add_right n k)) (used_data j h t);
          right = λ r h. sym (content_parity n d (get_or (there n k miss) r 0))
              ∙ e (n + get_or (there n k miss) r 0) (there-lt n k miss s r h) (used_parity r h);
        }

    -- data that give the n lowest units that are there are the data that are rebuilt
    pub determined : (d : ℕ → ℕ) → ((j : ℕ) → j < n → d j < 256) → ((u : ℕ) → u < n + k → used n miss u ≡ true → content n d u ≡ old u)
        → (j : ℕ) → j < n → data_of n k miss old j ≡ d j
    determined d b e = fits_unique n k miss s old d (fits_of d b e)

    -- any two outcomes that the promise allows are equal
    pub rebuilds_once : (new new' : ℕ → ℕ) → Rebuilds n k miss old new → Rebuilds n k miss old new' → (u : ℕ) → u < n + k → new u ≡ new' u
    rebuilds_once new new' a b u h =
        ⊎_elim
        (λ (e : miss u ≡ true). a.filled u h e ∙ content_cong n a.from b.from one u ∙ sym (b.filled u h e))
        (λ (e : miss u ≡ false). a.kept u h e ∙ sym (b.kept u h e)) (either_way (miss u))
      where
        one : (j : ℕ) → j < n → a.from j ≡ b.from j
        one j l = sym (determined a.from a.bytes a.agrees j l) ∙ determined b.from b.bytes b.agrees j l

    -- the rebuilt group keeps the promise
    pub rebuilds : ((u : ℕ) → u < n + k → old u < 256) → Rebuilds n k miss old (rebuilt n k miss old)
    unfolding rebuilt
    rebuilds ob =
        record {
          from = data_of n k miss old;
          bytes = f.bytes;
          agrees = agrees;
          filled = λ u h t. pick_true (miss u) _ (old u) t;
          kept = λ u h t. pick-false (miss u) _ (old u) t;
        }
      where
        f : Fits n k miss s old (data_of n k miss old)
        f = data_fits n k miss s old ob

        at_parity : (i : ℕ) → i < k → used n miss (n + i) ≡ true → content n (data_of n k miss old) (n + i) ≡ old (n + i)
        at_parity i h t =
            let b = both_true (not (miss (n + i))) _ t in
            let q = those-place (λ v. not (miss (n + v))) k i h b.0 in
            let c = ltb-true _ n b.1 in
            content_parity n (data_of n k miss old) i
            ∙ sym (ap (parity_of n (data_of n k miss old)) q.1)
            ∙ f.right (count (λ v. not (miss (n + v))) i) (omega (arith, below i))
            ∙ ap (λ (v : ℕ). old (n + v)) q.1

        agrees : (u : ℕ) → u < n + k → used n miss u ≡ true → content n (data_of n k miss old) u ≡ old u
        agrees u h t =
            below_or_not u n
            (λ (l : u < n). content_data n (data_of n k miss old) u l ∙ f.same u l (not-true (miss u) (both_true (not (miss u)) _ t).0))
            (λ (l : n ≤ u). let e : n + (u - n) ≡ u = add-sub_of_le l in
            subst (λ (v : ℕ). content n (data_of n k miss old) v ≡ old v) e
            (at_parity (u - n) (omega arith) (subst⁻¹ (λ (v : ℕ). used n miss v ≡ true) e t)))
