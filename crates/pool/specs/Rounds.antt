-- Rounds of storing under one list: a second after a first is one round; and what a round leaves hangs on the tests and values of real contents alone.
use Rattle.std.specs.Prelude.{◌≡◌, refl, ◌⊎◌, Bool, true, false, ltb, length}
use Rattle.std.proofs.Common.{sym, ◌∙◌}
use Rattle.std.proofs.Math.Path.{ap, subst}
use Rattle.std.proofs.Math.Logic.{inl, inr, ⊎_elim}
use mathlib.Core.List.{List}
use Prim.Native.Nat.{ℕ, ◌<◌}
use borrow.Author.Tests.{ltb-true}
use Rattle.lists.specs.Pick.{pick, both, pick-false}
use Rattle.lists.specs.Tabulate.{at, tabulate, get_d_tabulate, tabulate_ext}
use Rattle.numbers.specs.declared.Layout.{Layout}
use Rattle.numbers.specs.Layouts.{Valid, all_groups, contents, image_length}
use Rattle.place.specs.Bytes.{spot, unit_here, offset_here}
use Rattle.place.specs.ByteLaws.{spot-here, group_here-lt, offset_here-lt}
use Rattle.homes.specs.declared.Record.{Record}
use Rattle.homes.specs.Missing.{home}
use Rattle.pool.specs.Storing.{owner, cell_after, storing}
use Rattle.pool.specs.StoringLaws.{home-owner, storing-length}

-- one test or else another
abbrev pub either : Bool → Bool → Bool
either a b = pick a true b

-- ---- one byte: `a` tells that some content has its home there

cell_join : (a s t : Bool) (p r old : ℕ) → pick (both a s) p (pick (both a t) r old) ≡ pick (both a (either s t)) (pick s p r) old
cell_join true true t p r old = refl
cell_join true false t p r old = refl
cell_join false s t p r old = refl

-- tests and values are told only where they matter
pub cell_same : (a s s' : Bool) (p p' old : ℕ) → (a ≡ true → s ≡ s') → (a ≡ true → s' ≡ true → p ≡ p') → pick (both a s) p old ≡ pick (both a s') p' old
cell_same true s true p p' old e f = (λ i. pick (e refl i) (f refl refl i) old)
cell_same true s false p p' old e f = pick-false s p old (e refl)
cell_same false s s' p p' old e f = refl

pub same_value : (t : Bool) (old : ℕ) → pick t old old ≡ old
same_value true old = refl
same_value false old = refl

cell_idle : (a s s' : Bool) (p old : ℕ) → (a ≡ true → (s ≡ s') ⊎ (p ≡ old)) → pick (both a s) p old ≡ pick (both a s') p old
cell_idle false s s' p old e = refl
cell_idle true s s' p old e =
    ⊎_elim (λ (q : s ≡ s'). ap (λ (t : Bool). pick t p old) q)
    (λ (q : p ≡ old). ap (λ (r : ℕ). pick s r old) q ∙ same_value s old ∙ sym (ap (λ (r : ℕ). pick s' r old) q ∙ same_value s' old)) (e refl)

-- ---- the image

module _ (y : Layout) (R : Record) (j : ℕ) where
  -- a second round after a first
  pub storing_join : (on on' : ℕ → ℕ → ℕ → Bool) (val val' : ℕ → ℕ → ℕ → ℕ) (img : List ℕ)
      → storing y R j on val (storing y R j on' val' img)
      ≡ storing y R j (λ g o c. either (on g o c) (on' g o c)) (λ g o c. pick (on g o c) (val g o c) (val' g o c)) img
  unfolding storing cell_after
  storing_join on on' val val' img =
      ap (λ (n : ℕ). tabulate n (after (storing y R j on' val' img) on val)) (storing-length y R j on' val' img)
      ∙ tabulate_ext 0 (length img) _ _
      (λ x b.
      let g = (unit_here y x).group in
      let o = offset_here y x in
      let c = owner y R j g (unit_here y x).unit in
      ap (pick (both (ltb c (contents y)) (on g o c)) (val g o c)) (get_d_tabulate (length img) _ x 0 b)
      ∙ cell_join (ltb c (contents y)) (on g o c) (on' g o c) (val g o c) (val' g o c) (at img x))
    where
      after : List ℕ → (ℕ → ℕ → ℕ → Bool) → (ℕ → ℕ → ℕ → ℕ) → ℕ → ℕ
      after i on val x = cell_after (contents y) on val (unit_here y x).group (offset_here y x) (owner y R j (unit_here y x).group (unit_here y x).unit) (at i x)

  module _ (v : Valid y) (on on' : ℕ → ℕ → ℕ → Bool) (img : List ℕ) (len : length img ≡ image_length y) where
    -- the same tests, and where they hold the same values
    pub storing_ext : (val val' : ℕ → ℕ → ℕ → ℕ)
        → ((g o c : ℕ) → g < all_groups y → o < y.u → c < contents y → on g o c ≡ on' g o c)
        → ((g o c : ℕ) → g < all_groups y → o < y.u → c < contents y → on' g o c ≡ true → val g o c ≡ val' g o c)
        → storing y R j on val img ≡ storing y R j on' val' img
    unfolding storing cell_after
    storing_ext val val' e f =
        tabulate_ext 0 (length img) _ _
        (λ x b.
        let h : x < image_length y = subst (λ (m : ℕ). x < m) len b in
        let g = (unit_here y x).group in
        let o = offset_here y x in
        let c = owner y R j g (unit_here y x).unit in
        cell_same (ltb c (contents y)) (on g o c) (on' g o c) (val g o c) (val' g o c) (at img x)
        (λ t. e g o c (group_here-lt y v x h) (offset_here-lt y v x) (ltb-true c (contents y) t))
        (λ t. f g o c (group_here-lt y v x h) (offset_here-lt y v x) (ltb-true c (contents y) t)))

    -- tests may differ where the value is what stands there already
    pub storing_idle : (val : ℕ → ℕ → ℕ → ℕ)
        → ((g o c : ℕ) → g < all_groups y → o < y.u → c < contents y → (on g o c ≡ on' g o c) ⊎ (val g o c ≡ at img (spot y g (home y R j g c) o)))
        → storing y R j on val img ≡ storing y R j on' val img
    unfolding storing cell_after
    storing_idle val e =
        tabulate_ext 0 (length img) _ _
        (λ x b.
        let h : x < image_length y = subst (λ (m : ℕ). x < m) len b in
        let g = (unit_here y x).group in
        let o = offset_here y x in
        let c = owner y R j g (unit_here y x).unit in
        cell_idle (ltb c (contents y)) (on g o c) (on' g o c) (val g o c) (at img x)
        (λ t.
        let lt : c < contents y = ltb-true c (contents y) t in
        ⊎_elim (λ (q : on g o c ≡ on' g o c). inl q)
        (λ (q : val g o c ≡ at img (spot y g (home y R j g c) o)).
        inr (q ∙ ap (λ (u : ℕ). at img (spot y g u o)) (home-owner y R g j (unit_here y x).unit lt) ∙ ap (at img) (spot-here y v x h)))
        (e g o c (group_here-lt y v x h) (offset_here-lt y v x) lt)))
