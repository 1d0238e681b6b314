-- What the numbers of a plan give: bounds, and a missing content as the sum over the slots.
use Rattle.std.specs.Prelude.{◌≡◌, true, ℕ, ◌+◌, ◌<◌, get_or}
use Rattle.std.proofs.Common.{sym, ap, ap₂, ◌∙◌, arith}
use Rattle.std.proofs.Math.Path.{subst⁻¹}
use Rattle.lists.specs.Count.{count}
use Rattle.lists.specs.Those.{those, length-those, those-place}
use Rattle.field.specs.Byte.{mul}
use Rattle.field.specs.Sum.{sum_to, sum_cong}
use Rattle.systems.specs.Matrix.{ent}
use Rattle.parity.specs.Group.{rebuilt}
use Rattle.parity.specs.Restores.{lost_most}
use Rattle.parity.specs.Rows.{row_of, row_gives}
use Rattle.parity.specs.Local.{slot-there}
use Rattle.plan.specs.declared.Plan.{Plan}
use Rattle.plan.specs.Plans.{miss_of, Right}

module _ (P : Plan) (r : Right P) where
  -- a missing content's place among them
  pub rank_lt : (c : ℕ) → c < P.n + P.k → miss_of P c ≡ true → get_or P.rank c 0 < 3
  rank_lt c h t =
      omega (arith, r.ranks c h, (those-place (miss_of P) (P.n + P.k) c h t).0, length-those (miss_of P) (P.n + P.k), r.solvable.few, r.solvable.parity_max)

  -- different missing contents have different places
  pub rank_apart : (c d : ℕ) → c < P.n + P.k → d < P.n + P.k → miss_of P c ≡ true → miss_of P d ≡ true → get_or P.rank c 0 ≡ get_or P.rank d 0 → c ≡ d
  rank_apart c d hc hd tc td e =
      sym (those-place (miss_of P) (P.n + P.k) c hc tc).1
      ∙ ap (λ (i : ℕ). get_or (those (miss_of P) (P.n + P.k)) i 0) (sym (r.ranks c hc) ∙ e ∙ r.ranks d hd)
      ∙ (those-place (miss_of P) (P.n + P.k) d hd td).1

  -- the unit of a slot is a content
  pub slot_lt : (j : ℕ) → j < P.n → get_or P.slots j 0 < P.n + P.k
  slot_lt j h = subst⁻¹ (λ (x : ℕ). x < P.n + P.k) (r.slots_are j h) (slot-there P.n P.k (miss_of P) r.solvable j h).1

  -- a missing content is the sum of its row over the slots
  pub row_holds : (old : ℕ → ℕ) (c : ℕ) → c < P.n + P.k → miss_of P c ≡ true
      → sum_to P.n (λ j. mul (ent P.rows (get_or P.rank c 0) j) (old (get_or P.slots j 0))) ≡ rebuilt P.n P.k (miss_of P) old c
  row_holds old c h t =
      sum_cong P.n _ _ (λ j k. ap₂ (λ (a b : ℕ). mul a (old b)) (entry j k) (r.slots_are j k))
      ∙ sym (row_gives P.n P.k (miss_of P) (lost_most P.n P.k (miss_of P) r.solvable) old c t)
    where
      entry : (j : ℕ) → j < P.n → ent P.rows (get_or P.rank c 0) j ≡ row_of P.n P.k (miss_of P) c j
      entry j k =
          let p = those-place (miss_of P) (P.n + P.k) c h t in
          ap (λ (q : ℕ). ent P.rows q j) (r.ranks c h)
          ∙ r.rows_are (count (miss_of P) c) p.0 j k
          ∙ ap (λ (u : ℕ). row_of P.n P.k (miss_of P) u j) p.1
