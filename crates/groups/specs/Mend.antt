-- Repair of one group: its missing contents stored, rebuilt, at their new homes.
use Rattle.std.specs.Prelude.{◌≡◌, true, false, ℕ, ◌+◌, ◌-◌, ◌<◌, ◌≤◌}
use Rattle.std.proofs.Math.Path.{refl, ap, subst⁻¹}
use Rattle.std.proofs.Common.{sym, ◌∙◌, arith}
use mathlib.Core.List.{List}
use Rattle.std.proofs.Math.ListN.{length, get_or}
use Rattle.lists.specs.Pick.{pick, clash}
use Rattle.lists.specs.Part.{within_cases}
use Rattle.lists.specs.Lays.{Lays, lays_ext}
use Rattle.parity.specs.Local.{rebuilt_cong}
use Rattle.plan.specs.declared.Plan.{Plan}
use Rattle.plan.specs.Plans.{at_of, miss_of, Fits, column, held}
use Rattle.runs.specs.Run.{run_set, one_ext, paint, paint-length, paint-miss, paint_turn}
use Rattle.runs.specs.Held.{held_run}
use Rattle.runs.specs.InPlace.{runs_aside, Clear}
use Rattle.runs.specs.Laying.{paint_lays}

-- "stores every missing content at its home under the whole list"
unfoldable pub group_mended : Plan → List ℕ → List ℕ → List ℕ
group_mended P homes img = paint (miss_of P) (λ c. get_or homes c 0) P.u (held_run P img 0) (P.n + P.k) img

-- the new homes lie in the image, no two meet, and a content that is there keeps its home
pub record MendFits (P : Plan) (homes : List ℕ) (size : ℕ) : Type 0 where
  pub inside : (c : ℕ) → c < P.n + P.k → miss_of P c ≡ true → get_or homes c 0 + P.u ≤ size
  pub apart : (c d x y : ℕ) → c < P.n + P.k → d < P.n + P.k → x < P.u → y < P.u → get_or homes c 0 + x ≡ get_or homes d 0 + y → c ≡ d
  pub stays : (d : ℕ) → d < P.n + P.k → miss_of P d ≡ false → get_or homes d 0 ≡ at_of P d

pub mend_at : {P : Plan} {homes : List ℕ} {size size' : ℕ} → MendFits P homes size → size' ≡ size → MendFits P homes size'
mend_at {P} {homes} f e = subst⁻¹ (MendFits P homes) e f

-- ---- one unit after another

-- the missing ones of the first n contents are stored
abbrev pub mended_units : Plan → List ℕ → List ℕ → ℕ → List ℕ
mended_units P homes img n = paint (miss_of P) (λ c. get_or homes c 0) P.u (held_run P img 0) n img

module _ (P : Plan) (homes : List ℕ) (size : ℕ) (mend : MendFits P homes size) where
  -- a missing content's new home shares no byte with the unit of a content that is there
  no_meeting : (c d x y : ℕ) → c < P.n + P.k → d < P.n + P.k → miss_of P c ≡ true → miss_of P d ≡ false → x < P.u → y < P.u
      → get_or homes c 0 + x ≡ at_of P d + y → ⊥
  no_meeting c d x y hc hd tc td hx hy e =
      clash (miss_of P c) tc (ap (miss_of P) (mend.apart c d x y hc hd hx hy (e ∙ ap (◌+ y) (sym (mend.stays d hd td)))) ∙ td)

  pub mend_clear : (c : ℕ) → c < P.n + P.k → miss_of P c ≡ true → Clear P (get_or homes c 0) size
  mend_clear c hc tc =
      record {
        inside = mend.inside c hc tc;
        aside = λ d hd td. runs_aside (get_or homes c 0) (at_of P d) P.u (λ x y. no_meeting c d x y hc hd tc td);
      }

module _ (P : Plan) (homes img₀ : List ℕ) (fits : Fits P (length img₀)) (mend : MendFits P homes (length img₀)) where
  -- so a store there changes nothing that is there, and what is rebuilt afterwards is what would have been before
  held_kept : (n : ℕ) → n ≤ P.n + P.k → (c o : ℕ) → c < P.n + P.k → o < P.u → held P (mended_units P homes img₀ n) o c ≡ held P img₀ o c
  unfolding held column
  held_kept n hn c o hc ho =
      rebuilt_cong P.n P.k (miss_of P) fits.right.solvable _ _
      (λ d hd td.
      paint-miss (miss_of P) (λ c. get_or homes c 0) P.u (held_run P img₀ 0) n img₀ (at_of P d + o) (omega (arith, fits.inside d hd))
      (λ i hi ti.
      within_cases (get_or homes i 0) P.u (at_of P d + o)
      (λ p q. absurd (no_meeting P homes (length img₀) mend i d (at_of P d + o - get_or homes i 0) o (omega arith) hd ti td (omega arith) ho (omega arith)))
      (λ w. w))) c hc

  pub unit_turn : (c : ℕ) (img img' : List ℕ) → c < P.n + P.k → img ≡ mended_units P homes img₀ c
      → img' ≡ pick (miss_of P c) (run_set (get_or homes c 0) P.u (held_run P img 0 c) img) img → img' ≡ mended_units P homes img₀ (c + 1)
  unfolding held_run
  unit_turn c img img' hc e e' =
      paint_turn (miss_of P) (λ c. get_or homes c 0) P.u (held_run P img₀ 0) c img₀ img img' e
      (e'
      ∙ one_ext (miss_of P c) (get_or homes c 0) P.u _ _ img img refl (λ t. omega (arith, mend.inside c hc t, len))
      (λ t o ho. ap (λ (l : List ℕ). held P l (0 + o) c) e ∙ held_kept c (omega arith) c (0 + o) hc (omega arith)))
    where
      len : length img ≡ length img₀
      len = ap length e ∙ paint-length (miss_of P) (λ c. get_or homes c 0) P.u (held_run P img₀ 0) c img₀

-- ---- the whole group

-- repair as laying
pub mend_lays : (P : Plan) (homes img img' : List ℕ) → MendFits P homes (length img)
    → img' ≡ group_mended P homes img → Lays (P.n + P.k) P.u (λ c. get_or homes c 0) (λ c o. miss_of P c) (λ c o. held P img o c) img img'
unfolding group_mended held_run
mend_lays P homes img img' mend e =
    lays_ext (P.n + P.k) P.u (λ c. get_or homes c 0) _ _ _ _ img img' (λ c o hc ho. refl)
    (λ c o hc ho t. let z : 0 + o ≡ o = omega arith in ap (λ (x : ℕ). held P img x c) z)
    (paint_lays (miss_of P) (λ c. get_or homes c 0) P.u (λ c o. held P img (0 + o) c) (P.n + P.k) img img' mend.inside
    (λ c d x y hc hd tc td. mend.apart c d x y hc hd) e)
