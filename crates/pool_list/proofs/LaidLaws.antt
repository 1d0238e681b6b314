-- The file after a list of writes: what an image then holds, and which range's byte stands where.
use Rattle.std.specs.Prelude.{◌≡◌, List, length}
use Rattle.std.proofs.Math.Path.{refl, subst}
use Rattle.std.proofs.Common.{sym, arith}
use Prim.Native.Nat.{ℕ, zero, suc, ◌+◌, ◌≤◌, ◌<◌}
use Rattle.std.proofs.Math.ListN.{get_or-eq_default}
use Rattle.lists.specs.Pick.{below_or_not}
use Rattle.lists.specs.Count.{sum}
use Rattle.lists.specs.Tabulate.{at, get_d_tabulate}
use Rattle.lists.specs.Refusal.{grant}
use Rattle.numbers.specs.declared.Layout.{Layout}
use Rattle.homes.specs.declared.Record.{Record}
use Rattle.pool.specs.Holds.{Holds}
use Rattle.pool.proofs.WriteHoldsLaws.{write_right}
use Rattle.pool_list.specs.Ranges.{range_offset, range_size, range_bytes, list_refusal, after_ranges, list_image, laid_ranges}
use Rattle.pool_list.proofs.AskedLaws.{list_asked}
use Rattle.pool_list.specs.Steps.{bytes_length}
use Rattle.pool_list.proofs.StepsLaws.{each_accepted}

module _ (rs : List (List ℕ)) (bytes : List ℕ) (ok : (i : ℕ) → i < length bytes → at bytes i < 256) where
  small : (x : ℕ) → at bytes x < 256
  small x =
      below_or_not x (length bytes) (ok x)
      (λ (h : length bytes ≤ x). let e : at bytes x ≡ 0 = get_or-eq_default bytes 0 h in omega (arith, e))

  pub bytes_small : (i j : ℕ) → j < length (range_bytes rs bytes i) → at (range_bytes rs bytes i) j < 256
  bytes_small i j h =
      subst (λ (b : ℕ). b < 256)
      (sym (get_d_tabulate (range_size rs i) (λ k. at bytes (sum (range_size rs) i + k)) j 0 (subst (λ (n : ℕ). j < n) (bytes_length rs bytes i) h)))
      (small (sum (range_size rs) i + j))

  -- ---- the image holds the file with the ranges laid on

  module _ (y : Layout) (R : Record) (img file : List ℕ) (holds : Holds y R img file) where
    ranges_right : list_refusal y R (length img) rs (length bytes) ≡ 0 → (n : ℕ) → n ≤ length rs → Holds y R (after_ranges y R img rs bytes n) (laid_ranges file rs bytes n)
    unfolding after_ranges laid_ranges
    ranges_right z zero h = holds
    ranges_right z (suc n) h =
        write_right y R (after_ranges y R img rs bytes n) (laid_ranges file rs bytes n) (ranges_right z n (omega arith)) (range_offset rs n) (range_bytes rs bytes n) (bytes_small n)
        (each_accepted y R img rs bytes (list_asked y R (length img) rs (length bytes) z) n h)

    pub list_right : Holds y R (list_image y R img rs bytes) (grant (list_refusal y R (length img) rs (length bytes)) (laid_ranges file rs bytes (length rs)) file)
    unfolding list_image
    list_right = by (list_refusal y R (length img) rs (length bytes)) (λ z. ranges_right z (length rs) (omega arith))
      where
        by : (n : ℕ) → (n ≡ 0 → Holds y R (after_ranges y R img rs bytes (length rs)) (laid_ranges file rs bytes (length rs)))
            → Holds y R (grant n (after_ranges y R img rs bytes (length rs)) img) (grant n (laid_ranges file rs bytes (length rs)) file)
        by zero f = f refl
        by (suc n) f = holds
