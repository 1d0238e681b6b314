-- An image with bytes of one group laid on it.
use Rattle.std.specs.Prelude.{◌≡◌, refl, Bool, true, false, List, ℕ, ◌+◌, ◌<◌, ◌≤◌, length, get_or}
use Rattle.std.proofs.Common.{sym, ap₂, subst, ◌∙◌, ⊎_elim, arith}
use Rattle.lists.specs.Pick.{pick, pick_true, pick-false, either_way, clash}

-- img' is img with val c o at byte o of the unit of content c, which begins at `at c`, wherever on c o holds: this says each byte of img'. m
-- contents, units of u bytes
pub record Lays (m u : ℕ) (at : ℕ → ℕ) (on : ℕ → ℕ → Bool) (val : ℕ → ℕ → ℕ) (img img' : List ℕ) : Type 0 where
  pub same : length img' ≡ length img
  pub hit : (c o : ℕ) → c < m → o < u → on c o ≡ true → get_or img' (at c + o) 0 ≡ val c o
  pub miss : (x : ℕ) → x < length img → ((c o : ℕ) → c < m → o < u → on c o ≡ true → x ≡ at c + o → ⊥) → get_or img' x 0 ≡ get_or img x 0

module _ (m u : ℕ) (at : ℕ → ℕ) where
  pub lays_none : (on : ℕ → ℕ → Bool) (val : ℕ → ℕ → ℕ) (img : List ℕ) → ((c o : ℕ) → c < m → o < u → on c o ≡ true → ⊥) → Lays m u at on val img img
  lays_none on val img non = record { same = refl; hit = λ c o hc ho t. absurd (non c o hc ho t); miss = λ x h w. refl }

  -- what is laid hangs on the tests and values alone
  pub lays_ext : (on on' : ℕ → ℕ → Bool) (val val' : ℕ → ℕ → ℕ) (img img' : List ℕ) → ((c o : ℕ) → c < m → o < u → on c o ≡ on' c o)
      → ((c o : ℕ) → c < m → o < u → on' c o ≡ true → val c o ≡ val' c o) → Lays m u at on val img img' → Lays m u at on' val' img img'
  lays_ext on on' val val' img img' e v l =
      record {
        same = l.same;
        hit = λ c o hc ho t. l.hit c o hc ho (e c o hc ho ∙ t) ∙ v c o hc ho t;
        miss = λ x h w. l.miss x h (λ c o hc ho t q. w c o hc ho (sym (e c o hc ho) ∙ t) q);
      }

  module _ (apart : (c d x y : ℕ) → c < m → d < m → x < u → y < u → at c + x ≡ at d + y → c ≡ d) (on : ℕ → ℕ → Bool) (val : ℕ → ℕ → ℕ) (img img' : List ℕ)
      (inside : (c : ℕ) → c < m → at c + u ≤ length img) (l : Lays m u at on val img img') where
    offset_eq : (c d o y : ℕ) → c ≡ d → at c + o ≡ at d + y → o ≡ y
    offset_eq c d o y e q = let z : at d + o ≡ at d + y = subst (λ (k : ℕ). at k + o ≡ at d + y) e q in omega arith

    -- a byte of a unit: what is laid there, or what it was
    pub lays_home : (c o : ℕ) → c < m → o < u → get_or img' (at c + o) 0 ≡ pick (on c o) (val c o) (get_or img (at c + o) 0)
    lays_home c o hc ho =
        ⊎_elim (λ (t : on c o ≡ true). l.hit c o hc ho t ∙ sym (pick_true (on c o) _ _ t))
        (λ (t : on c o ≡ false).
        l.miss (at c + o) (omega (arith, inside c hc))
        (λ d y hd hy s q.
        let e : c ≡ d = apart c d o y hc hd ho hy q in
        clash (on c o) (ap₂ on e (offset_eq c d o y e q) ∙ s) t)
        ∙ sym (pick-false (on c o) _ _ t)) (either_way (on c o))
