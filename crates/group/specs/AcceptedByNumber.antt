-- The table of a rebuild, as in Accepted, by the number of the test of the units: 4 where a unit lies outside, else 0.
use Rattle.std.specs.Prelude.{◌≡◌, Bool, true, false, List, ℕ, ◌*◌, ◌<◌, ◌≤◌, ltb, length, get_or}
use Rattle.std.proofs.Math.Path.{sym, ap}
use Rattle.std.proofs.Common.{◌∙◌, arith}
use Rattle.std.proofs.Math.Logic.{⊎_elim}
use borrow.Author.Tests.{ltb-true, eq-eqb, ne_eqb, le-leb, lt-leb}
use Rattle.lists.specs.Pick.{either_way}
use Rattle.lists.specs.Count.{count}
use Rattle.lists.specs.Search.{all-at}
use Rattle.lists.specs.Refusal.{◌or_else◌, refusal_by, unless}
use Rattle.numbers.specs.declared.Layout.{Layout}
use Rattle.numbers.specs.Layouts.{Valid, contents}
use Rattle.numbers.specs.Refused.{valid_true}
use Rattle.group.specs.Rebuild.{named, each_below, rebuild_refusal}
use Rattle.group.specs.Accepted.{each_below_lem}

module _ (y : Layout) (v : Valid y) (missing : List ℕ) (len : ℕ) where
  pub unit_refused : {r : ℕ} → r ≡ unless (each_below (contents y) missing) 4 → (r ≡ 0 → ⊥) → r ≡ rebuild_refusal y missing len
  unfolding rebuild_refusal refusal_by ◌or_else◌
  unit_refused e f =
      ⊎_elim (λ (t : each_below (contents y) missing ≡ true). absurd (f (e ∙ ap (λ (b : Bool). unless b 4) t)))
      (λ (t : each_below (contents y) missing ≡ false). e ∙ ap (λ (b : Bool). unless b 4) t ∙ sym (simp (valid_true y v, t)))
      (either_way (each_below (contents y) missing))

  module _ {r : ℕ} (e : r ≡ unless (each_below (contents y) missing) 4) (z : r ≡ 0) where
    below : each_below (contents y) missing ≡ true
    below = each_below_lem y v missing len e z

    pub below_19 : (i : ℕ) → i < length missing → get_or missing i 0 < 19
    below_19 i h =
        let w = ltb-true (get_or missing i 0) (contents y) (all-at (λ i. ltb (get_or missing i 0) (contents y)) (length missing) below i h) in
        omega arith

    pub length-refused : (len ≡ contents y * y.u → ⊥) → 5 ≡ rebuild_refusal y missing len
    unfolding rebuild_refusal refusal_by ◌or_else◌
    length-refused f = sym (simp (valid_true y v, below, ne_eqb len (contents y * y.u) f))

    pub many_refused : len ≡ contents y * y.u → y.k < count (named missing) (contents y) → 8 ≡ rebuild_refusal y missing len
    unfolding rebuild_refusal refusal_by ◌or_else◌
    many_refused l h = sym (simp (valid_true y v, below, eq-eqb len (contents y * y.u) l, lt-leb (count (named missing) (contents y)) y.k h))

    pub none-refused : len ≡ contents y * y.u → count (named missing) (contents y) ≤ y.k → 0 ≡ rebuild_refusal y missing len
    unfolding rebuild_refusal refusal_by ◌or_else◌
    none-refused l h = sym (simp (valid_true y v, below, eq-eqb len (contents y * y.u) l, le-leb (count (named missing) (contents y)) y.k h))
