-- The first wrong line is the first: all before it are right, and it is wrong or the text goes on after its last.
use Rattle.std.specs.Prelude.{◌≡◌, refl, Bool, false, not, List}
use Rattle.std.proofs.Common.{sym, ◌∙◌, inl, inr, suc-ne-zero, arith}
use Rattle.std.proofs.Math.Path.{ap, subst}
use Rattle.std.proofs.Math.Logic.{⊎_elim}
use Rattle.std.proofs.Math.Bool.{true}
use Prim.Native.Nat.{ℕ, zero, suc, ◌*◌, ◌≤◌, ◌<◌}
use Rattle.std.proofs.Math.Nat.{mul-zero, mul-suc}
use Rattle.std.proofs.Math.ListN.{length}
use borrow.Author.Tests.{eqb-false, not-true, not-false}
use Rattle.lists.specs.Pick.{pick_true, pick-false, either_way, below_or_not}
use Rattle.lists.specs.Search.{any, all, all_true, lowest, lowest_first, lowest-passes, lowest_is, lowest-none}
use Rattle.numbers.specs.declared.Layout.{Layout}
use Rattle.pool_text.specs.Text.{line_length, line_count, text_length}
use Rattle.pool_text.specs.Reading.{right_at, text_right, first_wrong, FirstWrong}
use Rattle.pool_text.specs.FrameLines.{right_line-there}

module _ (y : Layout) (text : List ℕ) where
  abbrev wrong : ℕ → Bool
  wrong i = not (right_at y text i)

  abbrev low : ℕ
  low = lowest wrong (line_count y)

  low-le : low ≤ line_count y
  low-le =
      ⊎_elim (λ (t : any wrong (line_count y) ≡ true). let b = (lowest_is wrong (line_count y) t).0 in omega (arith, b))
      (λ (t : any wrong (line_count y) ≡ false). let e = lowest-none wrong (line_count y) t in omega (arith, e))
      (either_way (any wrong (line_count y)))

  -- all lines are right, but the text is not: it is too long
  too_long : text_right y text ≡ false → ((i : ℕ) → i < line_count y → right_at y text i ≡ true) → text_length y < length text
  unfolding text_right
  too_long t r =
      let e : all (right_at y text) (line_count y) ≡ true = all_true (right_at y text) (line_count y) r in
      let n = eqb-false (length text) (text_length y) (sym (pick_true (all (right_at y text) (line_count y)) _ _ e) ∙ t) in
      below_or_not (text_length y) (length text) (λ (h : text_length y < length text). h)
      (λ (h : length text ≤ text_length y). absurd (n (same h (line_count y) refl)))
    where
      same : length text ≤ text_length y → (m : ℕ) → m ≡ line_count y → length text ≡ text_length y
      same h zero e = let z : text_length y ≡ 0 = ap (λ (k : ℕ). line_length y * k) (sym e) ∙ mul-zero (line_length y) in omega (arith, z)
      same h (suc m) e =
          let b = right_line-there y text m (r m (omega (arith, e))) in
          let z : line_length y * suc m ≡ text_length y = ap (λ (k : ℕ). line_length y * k) e in
          let s = mul-suc (line_length y) m in
          omega (arith, b, z, s)

  first_when_wrong : text_right y text ≡ false → FirstWrong y text (suc low)
  first_when_wrong t =
      record {
        before = λ i b. not-false _ (lowest_first wrong (line_count y) i (omega arith) (omega (arith, low-le)));
        here = λ i e.
            below_or_not low (line_count y)
            (λ (h : low < line_count y).
            let s : low ≡ i = omega (arith, e) in
            inl (omega (arith, h, s), ap (right_at y text) (sym s) ∙ not-true _ (lowest-passes wrong (line_count y) h)))
            (λ (h : line_count y ≤ low).
            inr (omega (arith, h, e, low-le), too_long t (λ k b. not-false _ (lowest_first wrong (line_count y) k (omega (arith, h)) b))));
      }

  pub first_wrong_is_first : FirstWrong y text (first_wrong y text)
  unfolding first_wrong
  first_wrong_is_first =
      ⊎_elim
      (λ (t : text_right y text ≡ true).
      subst (FirstWrong y text) (sym (pick_true (text_right y text) 0 (suc low) t))
      (record { before = λ i b. absurd (omega arith); here = λ i e. absurd (suc-ne-zero i (sym e)) }))
      (λ (t : text_right y text ≡ false). subst (FirstWrong y text) (sym (pick-false (text_right y text) 0 (suc low) t)) (first_when_wrong t))
      (either_way (text_right y text))
