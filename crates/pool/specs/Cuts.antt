-- Which groups a write touches.
use Rattle.std.specs.Prelude.{◌≡◌, true, false, ℕ, ◌+◌, ◌*◌, ◌-◌, ◌<◌}
use Rattle.std.proofs.Common.{sym, ◌∙◌, mul_comm, ltb-true}
use Rattle.std.proofs.Math.Path.{subst}
use Rattle.std.proofs.Math.Logic.{⊎_elim}
use native.Mathlib.Omega.{arith}
use Rattle.std.proofs.Math.Dec.{ltb}
use Rattle.lists.specs.Pick.{pick_true, pick-false, either_way}
use Rattle.lists.specs.Part.{within_of}
use Rattle.lists.specs.Search.{any, lowest, lowest_is}
use Rattle.lists.specs.Digits.{digits_below}
use Rattle.numbers.specs.declared.Layout.{Layout}
use Rattle.place.specs.Bytes.{offset_of}
use Rattle.pool.specs.Writing.{named, touched, writes}

-- ---- the groups that a write visits: from offset / (N U) on, while N U g < offset + size
module _ (y : Layout) (offset size : ℕ) where
  pub named_span : (g o c : ℕ) → o < y.u → c < y.n → named y offset size g o c ≡ true → (y.n * y.u * g < offset + size) × (offset < y.n * y.u * g + y.n * y.u)
  unfolding offset_of
  named_span g o c ho hc e =
      let a = within_of offset size (y.n * y.u * g + (y.u * c + o)) e in
      let l = a.0 in
      let r = a.1 in
      let d : y.u * c + o < y.n * y.u = subst (λ (m : ℕ). y.u * c + o < m) (mul_comm y.u y.n) (digits_below hc ho) in
      (omega arith, omega arith)

  pub writes_span : (g o c : ℕ) → o < y.u → writes y offset size g o c ≡ true → (y.n * y.u * g < offset + size) × (offset < y.n * y.u * g + y.n * y.u)
  unfolding writes touched
  writes_span g o c ho e =
      ⊎_elim
      (λ (t : ltb c y.n ≡ true). named_span g o c ho (ltb-true c y.n t) (sym (pick_true (ltb c y.n) (named y offset size g o c) (any (λ i. named y offset size g o i) y.n) t) ∙ e))
      (λ (t : ltb c y.n ≡ false).
      let r = lowest_is (λ i. named y offset size g o i) y.n (sym (pick-false (ltb c y.n) (named y offset size g o c) (any (λ i. named y offset size g o i) y.n) t) ∙ e) in
      named_span g o (lowest (λ i. named y offset size g o i) y.n) ho r.0 r.1)
      (either_way (ltb c y.n))
