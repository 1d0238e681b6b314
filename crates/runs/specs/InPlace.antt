-- A missing content rebuilt within the image: where it may be put.
use Rattle.std.specs.Prelude.{◌≡◌, ◌⊎◌, false, List, ℕ, ◌+◌, ◌-◌, ◌<◌, ◌≤◌, get_or}
use Rattle.std.proofs.Common.{ap, ◌∙◌, inl, inr, arith}
use Rattle.std.proofs.Math.Path.{subst⁻¹}
use Rattle.lists.specs.Pick.{below_or_not}
use Rattle.kernel.specs.InPlace.{Apart}
use Rattle.parity.specs.Local.{slot-there}
use Rattle.plan.specs.declared.Plan.{Plan}
use Rattle.plan.specs.Plans.{at_of, miss_of, Right, Fits}
use Rattle.plan.specs.Held.{slot_lt}

-- runs that share no byte lie one before the other
pub runs_aside : (s t u : ℕ) → ((x y : ℕ) → x < u → y < u → s + x ≡ t + y → ⊥) → (t + u ≤ s) ⊎ (s + u ≤ t)
runs_aside s t u off =
    below_or_not s t
    (λ (h : s < t). below_or_not t (s + u) (λ (k : t < s + u). absurd (off (t - s) 0 (omega arith) (omega arith) (omega arith))) (λ (k : s + u ≤ t). inr k))
    (λ (h : t ≤ s). below_or_not s (t + u) (λ (k : s < t + u). absurd (off 0 (s - t) (omega arith) (omega arith) (omega arith))) (λ (k : t + u ≤ s). inl k))

-- the unit at `to` lies in an image of `size` bytes, before or after the unit of each content that is there
pub record Clear (P : Plan) (to size : ℕ) : Type 0 where
  pub inside : to + P.u ≤ size
  pub aside : (d : ℕ) → d < P.n + P.k → miss_of P d ≡ false → (at_of P d + P.u ≤ to) ⊎ (to + P.u ≤ at_of P d)

-- the content of a slot is there
slot-here : (P : Plan) → Right P → (j : ℕ) → j < P.n → miss_of P (get_or P.slots j 0) ≡ false
slot-here P r j h = ap (miss_of P) (r.slots_are j h) ∙ (slot-there P.n P.k (miss_of P) r.solvable j h).0

-- so the slots' units lie apart from it
pub slots_apart : (P : Plan) (to size : ℕ) (starts : List ℕ) → Fits P size → Clear P to size → ((j : ℕ) → j < P.n → get_or starts j 0 ≡ at_of P (get_or P.slots j 0) + 0)
    → (j : ℕ) → j < P.n → Apart (get_or starts j 0) to P.u size
slots_apart P to size starts fits clear e j h =
    let lt = slot_lt P fits.right j h in
    subst⁻¹ (λ (s : ℕ). Apart s to P.u size) (let q : get_or starts j 0 ≡ at_of P (get_or P.slots j 0) = omega (arith, e j h) in q)
    (record { inside = fits.inside (get_or P.slots j 0) lt; aside = clear.aside (get_or P.slots j 0) lt (slot-here P fits.right j h) })
