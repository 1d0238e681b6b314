-- What each write of a list keeps, the list keeps: so its laws are those of its writes.
use Rattle.std.specs.Prelude.{◌≡◌, ◌⊎◌, true}
use Rattle.std.proofs.Math.Path.{refl, ap}
use Rattle.std.proofs.Common.{sym, ◌∙◌, subst, inl, inr, ⊎_elim, arith}
use mathlib.Core.List.{List}
use Prim.Native.Nat.{ℕ, zero, suc, ◌≤◌, ◌<◌}
use Rattle.std.proofs.Math.ListN.{length}
use Rattle.lists.specs.Tabulate.{at}
use Rattle.lists.specs.Refusal.{grant, grant-either}
use Rattle.numbers.specs.declared.Layout.{Layout}
use Rattle.homes.specs.declared.Record.{Record}
use Rattle.pool.specs.Writing.{write_image}
use Rattle.pool.proofs.WriteHoldsLaws.{write_length}
use Rattle.pool.specs.Changes.{Written}
use Rattle.pool.proofs.ChangesLaws.{write_changes}
use Rattle.pool.specs.Blind.{Agree}
use Rattle.pool.proofs.BlindLaws.{write_agree}
use Rattle.pool.specs.Elsewhere.{AgreeElsewhere, unseen}
use Rattle.pool.proofs.ElsewhereKeptLaws.{write_elsewhere, write_spares_unseen}
use Rattle.pool_list.specs.Ranges.{range_offset, range_bytes, list_refusal, after_ranges, list_image}
use Rattle.pool_list.specs.Steps.{bytes_length}
use Rattle.pool_list.specs.Kept.{WrittenByOne}

module _ (y : Layout) (R : Record) (rs : List (List ℕ)) (bytes : List ℕ) where
  -- one write of the list, on any image
  abbrev write_one : ℕ → List ℕ → List ℕ
  write_one i img = write_image y R img (range_offset rs i) (range_bytes rs bytes i)

  -- of one image
  list_keeps : (P : List ℕ → Type 0) → ((i : ℕ) → i < length rs → (now : List ℕ) → P now → P (write_one i now)) → (img : List ℕ) → P img → P (list_image y R img rs bytes)
  unfolding list_image after_ranges
  list_keeps P each img p =
      grant-either (list_refusal y R (length img) rs (length bytes)) (after_ranges y R img rs bytes (length rs)) img P (λ z. upto (length rs) (omega arith)) (λ z. p)
    where
      upto : (n : ℕ) → n ≤ length rs → P (after_ranges y R img rs bytes n)
      upto zero h = p
      upto (suc n) h = each n h (after_ranges y R img rs bytes n) (upto n (omega arith))

  -- of two images of one length
  list_keeps_both : (Q : List ℕ → List ℕ → Type 0) → ((i : ℕ) (a b : List ℕ) → Q a b → Q (write_one i a) (write_one i b))
      → (img img' : List ℕ) → length img' ≡ length img → Q img img' → Q (list_image y R img rs bytes) (list_image y R img' rs bytes)
  unfolding list_image after_ranges
  list_keeps_both Q each img img' e q = by (list_refusal y R (length img) rs (length bytes)) (list_refusal y R (length img') rs (length bytes)) (ap (λ (n : ℕ). list_refusal y R n rs (length bytes)) e)
    where
      upto : (n : ℕ) → Q (after_ranges y R img rs bytes n) (after_ranges y R img' rs bytes n)
      upto zero = q
      upto (suc n) = each n (after_ranges y R img rs bytes n) (after_ranges y R img' rs bytes n) (upto n)

      alike : (m : ℕ) → Q (grant m (after_ranges y R img rs bytes (length rs)) img) (grant m (after_ranges y R img' rs bytes (length rs)) img')
      alike zero = upto (length rs)
      alike (suc m) = q

      by : (m m' : ℕ) → m' ≡ m → Q (grant m (after_ranges y R img rs bytes (length rs)) img) (grant m' (after_ranges y R img' rs bytes (length rs)) img')
      by m m' s =
          subst (λ (k : ℕ). Q (grant m (after_ranges y R img rs bytes (length rs)) img) (grant k (after_ranges y R img' rs bytes (length rs)) img')) (sym s) (alike m)

  -- ---- what it changes is what its writes change

  pub list_changes : (img : List ℕ) (x : ℕ) → x < length img → (at (list_image y R img rs bytes) x ≡ at img x) ⊎ WrittenByOne y R rs x
  list_changes img x h =
      (list_keeps (λ (now : List ℕ). (length now ≡ length img) × ((at now x ≡ at img x) ⊎ WrittenByOne y R rs x)) one img (refl, inl refl)).1
    where
      here : (i : ℕ) → i < length rs → Written y R (range_offset rs i) (length (range_bytes rs bytes i)) x → WrittenByOne y R rs x
      here i b w = record { range = i; one_of = b; is = subst (λ (n : ℕ). Written y R (range_offset rs i) n x) (bytes_length rs bytes i) w }

      one : (i : ℕ) → i < length rs → (now : List ℕ) → (length now ≡ length img) × ((at now x ≡ at img x) ⊎ WrittenByOne y R rs x)
          → (length (write_one i now) ≡ length img) × ((at (write_one i now) x ≡ at img x) ⊎ WrittenByOne y R rs x)
      one i b now p = (
        write_length y R now (range_offset rs i) (range_bytes rs bytes i) ∙ p.0,
        ⊎_elim (λ e. ⊎_elim (λ f. inl (e ∙ f)) inr p.1) (λ w. inr (here i b w))
            (write_changes y R now (range_offset rs i) (range_bytes rs bytes i) x (subst (λ (n : ℕ). x < n) (sym p.0) h)),
      )

  -- ---- what it does not depend on, and leaves

  pub list_agree : (img img' : List ℕ) → Agree y R img img' → Agree y R (list_image y R img rs bytes) (list_image y R img' rs bytes)
  list_agree img img' a =
      list_keeps_both (Agree y R) (λ i b c q. write_agree y R b c q (range_offset rs i) (range_bytes rs bytes i)) img img' a.same_length a

  pub list_elsewhere : (img img' : List ℕ) → AgreeElsewhere y R img img' → AgreeElsewhere y R (list_image y R img rs bytes) (list_image y R img' rs bytes)
  list_elsewhere img img' a =
      list_keeps_both (AgreeElsewhere y R) (λ i b c q. write_elsewhere y R b c q (range_offset rs i) (range_bytes rs bytes i)) img img' a.same_length a

  pub list_spares_unseen : (img : List ℕ) (x : ℕ) → x < length img → unseen y R x ≡ true → at (list_image y R img rs bytes) x ≡ at img x
  list_spares_unseen img x h u = (list_keeps (λ (now : List ℕ). (length now ≡ length img) × (at now x ≡ at img x)) one img (refl, refl)).1
    where
      one : (i : ℕ) → i < length rs → (now : List ℕ) → (length now ≡ length img) × (at now x ≡ at img x) → (length (write_one i now) ≡ length img) × (at (write_one i now) x ≡ at img x)
      one i b now p = (
        write_length y R now (range_offset rs i) (range_bytes rs bytes i) ∙ p.0,
        write_spares_unseen y R now (range_offset rs i) (range_bytes rs bytes i) x (subst (λ (n : ℕ). x < n) (sym p.0) h) u ∙ p.1,
      )
