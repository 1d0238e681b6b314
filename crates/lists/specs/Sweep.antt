-- From groups to the whole image: what one group leaves, byte by byte, and that a loop that lays one group after another leaves a table.
use Rattle.std.specs.Prelude.{◌≡◌, refl, Bool, true, false, List, ℕ, ◌+◌, ◌<◌, ◌≤◌, ltb, eqb, length, get_or}
use Rattle.std.proofs.Math.Path.{sym, ap, subst, subst⁻¹}
use Rattle.std.proofs.Common.{ap₂, ◌∙◌, arith, ltb-true, lt-ltb, eqb-true, eq-eqb}
use Rattle.std.proofs.Math.Logic.{⊎_elim}
use Rattle.lists.specs.Pick.{pick, both, pick_true, pick-false, either_way, both_true, both_hold, clash, equal_or_not, not-both_ways}
use Rattle.lists.specs.Tabulate.{tabulate, tabulated}
use Rattle.lists.specs.Between.{between, between_in, between-after, between_cases}
use Rattle.lists.specs.Lays.{Lays}

-- G groups of m contents, units of u bytes, in an image of len bytes: content c of group g begins at `at g c`. For each byte its group, its
-- content (m or more: none) and its unit offset
pub record Placed (G m u len : ℕ) (at : ℕ → ℕ → ℕ) (group_of own_of off_of : ℕ → ℕ) : Type 0 where
  pub inside : (g c : ℕ) → g < G → c < m → at g c + u ≤ len
  pub group_lt : (x : ℕ) → x < len → group_of x < G
  pub off_lt : (x : ℕ) → x < len → off_of x < u
  pub there : (x : ℕ) → x < len → own_of x < m → x ≡ at (group_of x) (own_of x) + off_of x
  pub group_at_lem : (g c o : ℕ) → g < G → c < m → o < u → group_of (at g c + o) ≡ g
  pub own_at : (g c o : ℕ) → g < G → c < m → o < u → own_of (at g c + o) ≡ c
  pub off_at : (g c o : ℕ) → g < G → c < m → o < u → off_of (at g c + o) ≡ o

pick_when : (t : Bool) (a a' b b' : ℕ) → (t ≡ true → a ≡ a') → b ≡ b' → pick t a b ≡ pick t a' b'
pick_when true a a' b b' e q = e refl
pick_when false a a' b b' e q = q

module _ (G m u len : ℕ) (at : ℕ → ℕ → ℕ) (group_of own_of off_of : ℕ → ℕ) (pl : Placed G m u len at group_of own_of off_of) where
  -- what one group leaves
  pub lays_at : (g : ℕ) → g < G → (on : ℕ → ℕ → Bool) (val : ℕ → ℕ → ℕ) (img img' : List ℕ) → length img ≡ len → Lays m u (at g) on val img img'
      → (x : ℕ) → x < len
      → get_or img' x 0 ≡ pick (both (ltb (own_of x) m) (both (eqb (group_of x) g) (on (own_of x) (off_of x)))) (val (own_of x) (off_of x)) (get_or img x 0)
  lays_at g hg on val img img' el l x h =
      ⊎_elim
      (λ (t : test ≡ true).
      let b = both_true (ltb (own_of x) m) _ t in
      let d = both_true (eqb (group_of x) g) _ b.1 in
      let hc : own_of x < m = ltb-true (own_of x) m b.0 in
      let q : x ≡ at g (own_of x) + off_of x = subst (λ (k : ℕ). x ≡ at k (own_of x) + off_of x) (eqb-true (group_of x) g d.0) (pl.there x h hc) in
      ap (λ (y : ℕ). get_or img' y 0) q
      ∙ l.hit (own_of x) (off_of x) hc (pl.off_lt x h) d.1
      ∙ sym (pick_true test _ _ t))
      (λ (t : test ≡ false).
      l.miss x (subst⁻¹ (λ (k : ℕ). x < k) el h)
      (λ c o hc ho s p.
      let ec : own_of x ≡ c = ap own_of p ∙ pl.own_at g c o hg hc ho in
      let eo : off_of x ≡ o = ap off_of p ∙ pl.off_at g c o hg hc ho in
      let eg : group_of x ≡ g = ap group_of p ∙ pl.group_at_lem g c o hg hc ho in
      clash test
      (both_hold (ltb (own_of x) m) _ (lt-ltb (own_of x) m (omega arith)) (both_hold (eqb (group_of x) g) _ (eq-eqb (group_of x) g eg) (ap₂ on ec eo ∙ s))) t)
      ∙ sym (pick-false test _ _ t)) (either_way test)
    where
      test : Bool
      test = both (ltb (own_of x) m) (both (eqb (group_of x) g) (on (own_of x) (off_of x)))

  module _ (on : ℕ → ℕ → ℕ → Bool) (val : List ℕ → ℕ → ℕ → ℕ → ℕ) where
    -- byte x once every group is laid
    unfoldable pub byte_after : List ℕ → ℕ → ℕ
    byte_after img x = pick (both (ltb (own_of x) m) (on (group_of x) (own_of x) (off_of x))) (val img (group_of x) (own_of x) (off_of x)) (get_or img x 0)

    -- byte x once the groups from f on and below g are laid
    unfoldable pub upto : ℕ → List ℕ → ℕ → ℕ → ℕ
    upto f img g x = pick (between f g (group_of x)) (byte_after img x) (get_or img x 0)

    pub upto-none : (f : ℕ) (img : List ℕ) (x : ℕ) → get_or img x 0 ≡ upto f img f x
    unfolding upto
    upto-none f img x =
        sym (pick-false (between f f (group_of x)) _ _ (between_cases f f (group_of x) (λ p q. absurd (omega arith)) (λ w. w)))

    -- in the groups that were left out nothing is laid
    pub upto_done : (f e : ℕ) (img₀ img : List ℕ) → length img₀ ≡ len → length img ≡ length img₀
        → ((g c o : ℕ) → g < G → c < m → o < u → on g c o ≡ true → between f e g ≡ true)
        → ((x : ℕ) → x < length img₀ → get_or img x 0 ≡ upto f img₀ e x) → img ≡ tabulate (length img₀) (byte_after img₀)
    unfolding upto byte_after
    upto_done f e img₀ img el len_is only done =
        tabulated (length img₀) _ img 0 len_is
        (λ x b.
        let h : x < len = subst (λ (k : ℕ). x < k) el b in
        done x b
        ∙ ⊎_elim
        (λ (t : between f e (group_of x) ≡ true). pick_true (between f e (group_of x)) _ _ t)
        (λ (t : between f e (group_of x) ≡ false).
        pick-false (between f e (group_of x)) _ _ t
        ∙ sym (pick-false (both (ltb (own_of x) m) (on (group_of x) (own_of x) (off_of x))) _ _
        (not-both_ways _
        (λ s. let k = both_true (ltb (own_of x) m) _ s in
        clash (between f e (group_of x)) (only (group_of x) (own_of x) (off_of x) (pl.group_lt x h) (ltb-true (own_of x) m k.0) (pl.off_lt x h) k.1) t))))
        (either_way (between f e (group_of x))))

    -- one group more. A value hangs on its own column only: so it may be read from the image that is being written
    module _ (f g : ℕ) (hf : f ≤ g) (hg : g < G) (img₀ img img' : List ℕ)
        (local : (c o : ℕ) → c < m → o < u → ((d : ℕ) → d < m → get_or img (at g d + o) 0 ≡ get_or img₀ (at g d + o) 0) → val img g c o ≡ val img₀ g c o)
        (el : length img₀ ≡ len) (e : length img ≡ length img₀) (done : (x : ℕ) → x < length img₀ → get_or img x 0 ≡ upto f img₀ g x)
        (l : Lays m u (at g) (on g) (val img g) img img') where
      -- a byte of this group is still as it was
      still : (x : ℕ) → x < len → group_of x ≡ g → get_or img x 0 ≡ get_or img₀ x 0
      unfolding upto
      still x h b = done x (subst⁻¹ (λ (k : ℕ). x < k) el h) ∙ pick-false (between f g (group_of x)) _ _ (between-after f g (group_of x) (omega arith))

      columns : (o : ℕ) → o < u → (d : ℕ) → d < m → get_or img (at g d + o) 0 ≡ get_or img₀ (at g d + o) 0
      columns o ho d hd = still (at g d + o) (omega (arith, pl.inside g d hg hd)) (pl.group_at_lem g d o hg hd ho)

      pub sweep_step : (x : ℕ) → x < length img₀ → get_or img' x 0 ≡ upto f img₀ (g + 1) x
      unfolding upto byte_after
      sweep_step x hx =
          lays_at g hg (on g) (val img g) img img' (e ∙ el) l x h
          ∙ equal_or_not (group_of x) g
          (λ (q : group_of x ≡ g).
          ap (λ (b : Bool). pick (both (ltb (own_of x) m) (both b (on g (own_of x) (off_of x)))) (val img g (own_of x) (off_of x)) (get_or img x 0)) (eq-eqb (group_of x) g q)
          ∙ pick_when (both (ltb (own_of x) m) (on g (own_of x) (off_of x))) _ _ _ _
          (λ t. local (own_of x) (off_of x) (ltb-true (own_of x) m (both_true (ltb (own_of x) m) _ t).0) (pl.off_lt x h) (columns (off_of x) (pl.off_lt x h))) (still x h q)
          ∙ ap (λ (k : ℕ). pick (both (ltb (own_of x) m) (on k (own_of x) (off_of x))) (val img₀ k (own_of x) (off_of x)) (get_or img₀ x 0)) (sym q)
          ∙ sym (pick_true (between f (g + 1) (group_of x)) _ _ (between_in f (g + 1) (group_of x) (omega arith) (omega arith))))
          (λ (n : group_of x ≡ g → ⊥).
          pick-false (both (ltb (own_of x) m) (both (eqb (group_of x) g) (on g (own_of x) (off_of x)))) _ _
          (not-both_ways _ (λ t. n (eqb-true (group_of x) g (both_true (eqb (group_of x) g) _ (both_true (ltb (own_of x) m) _ t).1).0)))
          ∙ done x hx
          ∙ ap (λ (b : Bool). pick b (byte_after img₀ x) (get_or img₀ x 0)) (same_side n))
        where
          h : x < len
          h = subst (λ (k : ℕ). x < k) el hx

          below : group_of x < g + 1 → (group_of x ≡ g → ⊥) → group_of x < g
          below q n = equal_or_not (group_of x) g (λ (z : group_of x ≡ g). absurd (n z)) (λ (z : group_of x ≡ g → ⊥). omega arith)

          same_side : (group_of x ≡ g → ⊥) → between f g (group_of x) ≡ between f (g + 1) (group_of x)
          same_side n =
              between_cases f g (group_of x) (λ p q. between_in f g (group_of x) p q ∙ sym (between_in f (g + 1) (group_of x) p (omega arith)))
              (λ w.
              w
              ∙ sym (between_cases f (g + 1) (group_of x)
              (λ p q. clash (between f g (group_of x)) (between_in f g (group_of x) p (below q n)) w) (λ w'. w')))
