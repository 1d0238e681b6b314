-- The table of a rebuild by the tests that were made, and what an accepted call has shown: all that the work on the buffer asks for.
use Rattle.std.specs.Prelude.{◌≡◌, refl, true, false, List, [], ◌∷◌, ℕ, ◌*◌, ◌<◌, ◌≤◌, eqb, ltb, leb, length, get_or, All}
use Rattle.std.proofs.Math.Path.{sym}
use Rattle.std.proofs.Common.{◌∙◌, mul-le-mul_right, arith}
use Rattle.std.proofs.lemmas.List.Elements.{All-get_or, All-from_get_or}
use borrow.Author.Tests.{lt-ltb, eqb-true, ltb-true, leb-true, eq-eqb, ne_eqb, le-leb, lt-leb}
use Rattle.lists.specs.Pick.{not-both_ways}
use Rattle.lists.specs.Count.{count}
use Rattle.lists.specs.Search.{all-at, all_true}
use Rattle.lists.specs.Refusal.{◌or_else◌, refusal_by, unless, unless-zero, refusal_lowest}
use Rattle.numbers.specs.declared.Layout.{Layout}
use Rattle.numbers.specs.Layouts.{Valid, contents}
use Rattle.numbers.specs.Refused.{validb, valid_of, valid_true}
use Rattle.parity.specs.Group.{Solvable}
use Rattle.group.specs.Encode.{encode_refusal}
use Rattle.group.specs.Rebuild.{named, each_below, rebuild_refusal}

pub group_bytes : (y : Layout) → Valid y → contents y * y.u ≤ 77824
group_bytes y v = let w : contents y * y.u ≤ 19 * y.u = mul-le-mul_right y.u (omega arith) in omega arith

pub encode_accepted : (y : Layout) (len : ℕ) → encode_refusal y len ≡ 0 → Valid y × (len ≡ contents y * y.u)
unfolding encode_refusal
encode_accepted y len e =
    let p = (refusal_lowest 1 ((validb y, 1) ∷ (eqb len (contents y * y.u), 5) ∷ []) (omega arith) refl).none e in
    (valid_of y p.0, eqb-true len (contents y * y.u) p.1.0)

pub record Accepted (y : Layout) (missing : List ℕ) (len : ℕ) : Type 0 where
  pub valid : Valid y
  pub units : (i : ℕ) → i < length missing → get_or missing i 0 < contents y
  pub size : len ≡ contents y * y.u
  pub few : count (named missing) (contents y) ≤ y.k

pub rebuild_accepted : (y : Layout) (missing : List ℕ) (len : ℕ) → rebuild_refusal y missing len ≡ 0 → Accepted y missing len
unfolding rebuild_refusal
rebuild_accepted y missing len e =
    let p = (refusal_lowest 1 (
    (validb y, 1) ∷ (each_below (contents y) missing, 4) ∷ (eqb len (contents y * y.u), 5) ∷ (leb (count (named missing) (contents y)) y.k, 8) ∷ []
    ) (omega arith) refl).none e in
    record {
      valid = valid_of y p.0;
      units = λ i h. ltb-true (get_or missing i 0) (contents y) (all-at (λ i. ltb (get_or missing i 0) (contents y)) (length missing) p.1.0 i h);
      size = eqb-true len (contents y * y.u) p.1.1.0;
      few = leb-true (count (named missing) (contents y)) y.k p.1.1.1.0;
    }

pub accepted_solvable : (y : Layout) (missing : List ℕ) (len : ℕ) → Accepted y missing len → Solvable y.n y.k (named missing)
accepted_solvable y missing len a =
    let v = a.valid in record { data_max = omega arith; parity_max = omega arith; few = a.few }

-- ---- the table, where the layout is within its bounds: a refusal for each test, and none

pub each_below-all : (m : ℕ) (missing : List ℕ) → All (λ u. u < m) missing → each_below m missing ≡ true
each_below-all m missing a = all_true (λ i. ltb (get_or missing i 0) m) (length missing) (λ i h. lt-ltb (get_or missing i 0) m (All-get_or (λ u. u < m) missing i 0 h a))

pub each_below-not_all : (m : ℕ) (missing : List ℕ) → (All (λ u. u < m) missing → ⊥) → each_below m missing ≡ false
each_below-not_all m missing n =
    not-both_ways (each_below m missing)
    (λ (t : each_below m missing ≡ true). n (All-from_get_or (λ u. u < m) missing 0
    (λ i h. ltb-true (get_or missing i 0) m (all-at (λ i. ltb (get_or missing i 0) m) (length missing) t i h))))

module _ (y : Layout) (v : Valid y) (missing : List ℕ) (len : ℕ) where
  pub unit_refused : each_below (contents y) missing ≡ false → 4 ≡ rebuild_refusal y missing len
  unfolding rebuild_refusal refusal_by ◌or_else◌
  unit_refused t = sym (simp (valid_true y v, t))

  module _ {r : ℕ} (e : r ≡ unless (each_below (contents y) missing) 4) (z : r ≡ 0) where
    pub each_below_lem : each_below (contents y) missing ≡ true
    each_below_lem = unless-zero (each_below (contents y) missing) 3 (sym e ∙ z)

  module _ (below : each_below (contents y) missing ≡ true) where
    pub below_19 : (i : ℕ) → i < length missing → get_or missing i 0 < 19
    below_19 i h =
        let w = ltb-true (get_or missing i 0) (contents y) (all-at (λ i. ltb (get_or missing i 0) (contents y)) (length missing) below i h) in
        omega arith

    pub length-refused : (len ≡ contents y * y.u → ⊥) → 5 ≡ rebuild_refusal y missing len
    unfolding rebuild_refusal refusal_by ◌or_else◌
    length-refused f = sym (simp (valid_true y v, below, ne_eqb len (contents y * y.u) f))

    pub many_refused : len ≡ contents y * y.u → y.k < count (named missing) (contents y) → 8 ≡ rebuild_refusal y missing len
    unfolding rebuild_refusal refusal_by ◌or_else◌
    many_refused l h = sym (simp (valid_true y v, below, eq-eqb len (contents y * y.u) l, lt-leb (count (named missing) (contents y)) y.k h))

    pub none-refused : len ≡ contents y * y.u → count (named missing) (contents y) ≤ y.k → 0 ≡ rebuild_refusal y missing len
    unfolding rebuild_refusal refusal_by ◌or_else◌
    none-refused l h = sym (simp (valid_true y v, below, eq-eqb len (contents y * y.u) l, le-leb (count (named missing) (contents y)) y.k h))
