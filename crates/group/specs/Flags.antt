-- The flags of a list of units are the set that the list names: as functions, so that one stands for the other in any statement.
use Rattle.std.specs.Prelude.{◌≡◌, Bool, true, false, List, ℕ, ◌+◌, ◌<◌, ◌≤◌, eqb, length, get_or, set}
use Rattle.std.proofs.Math.Path.{refl, fun_ext}
use Rattle.std.proofs.Common.{sym, ap, ◌∙◌, add-one, arith, get_or-set_same, get_or-set_other, eq-eqb, ne_eqb}
use Rattle.std.proofs.Math.ListN.{get_or-eq_default}
use Rattle.lists.specs.Pick.{pick, pick_true, pick-false, below_or_not, equal_or_not}
use Rattle.lists.specs.Search.{any, any_false}
use Rattle.parity.specs.Matrix.{flag}
use Rattle.group.specs.Rebuild.{named}

-- the first i entries of the list name u
abbrev pub named_below : List ℕ → ℕ → ℕ → Bool
named_below missing i u = any (λ k. eqb (get_or missing k 0) u) i

-- one entry more
pub flag_turn : (f : List Bool) (missing : List ℕ) (i x : ℕ) → length f ≡ 19 → x ≡ get_or missing i 0 → x < 19
    → ((u : ℕ) → u < 19 → flag f u ≡ named_below missing i u) → (u : ℕ) → u < 19 → flag (set f x true) u ≡ named_below missing (i + 1) u
flag_turn f missing i x n e h p u l =
    equal_or_not u x
    (λ (q : u ≡ x). ap (λ (v : ℕ). flag (set f x true) v) q ∙ get_or-set_same f x true false (omega arith)
    ∙ sym (step ∙ pick_true (eqb (get_or missing i 0) u) true _ (eq-eqb (get_or missing i 0) u (sym (q ∙ e)))))
    (λ (q : u ≡ x → ⊥). get_or-set_other f x u true false q ∙ p u l
    ∙ sym (step ∙ pick-false (eqb (get_or missing i 0) u) true _ (ne_eqb (get_or missing i 0) u (λ (r : get_or missing i 0 ≡ u). q (sym (e ∙ r))))))
  where
    step : named_below missing (i + 1) u ≡ pick (eqb (get_or missing i 0) u) true (named_below missing i u)
    step = ap (any (λ k. eqb (get_or missing k 0) u)) (add-one i) ∙ unfold any in refl

pub as_set : (f : List Bool) (missing : List ℕ) → length f ≡ 19 → ((i : ℕ) → i < length missing → get_or missing i 0 < 19)
    → ((u : ℕ) → u < 19 → flag f u ≡ named missing u) → flag f ≡ named missing
as_set f missing e b h =
    fun_ext (λ u. below_or_not u 19 (λ (k : u < 19). h u k)
    (λ (k : 19 ≤ u). get_or-eq_default f false (let z : length f ≤ u = omega arith in z)
    ∙ sym (any_false (λ i. eqb (get_or missing i 0) u) (length missing)
    (λ i l. ne_eqb (get_or missing i 0) u (λ (q : get_or missing i 0 ≡ u). let w = b i l in absurd (omega arith))))))
