-- A loop that stores group after group, whose values are those of the first image: the image once the groups below g are done.
use Rattle.std.specs.Prelude.{◌≡◌, refl, Bool, true, false, List, ℕ, ◌+◌, ◌≤◌, ◌<◌, ltb, eqb, length}
use Rattle.std.proofs.Common.{sym, ◌∙◌, ⊎_elim, arith, lt-ltb, le-ltb, ltb-true, eqb-true, eq-eqb, ne_eqb}
use Rattle.std.proofs.Math.Path.{ap, subst}
use Rattle.lists.specs.Pick.{both, pick_true, pick-false, both_true, equal_or_not, below_or_not}
use Rattle.lists.specs.Tabulate.{at, tabulated}
use Rattle.lists.specs.Lays.{Lays}
use Rattle.lists.specs.Sweep.{lays_at}
use Rattle.numbers.specs.declared.Layout.{Layout}
use Rattle.numbers.specs.Layouts.{Valid, width, all_groups, contents, image_length}
use Rattle.place.specs.Bytes.{spot, unit_here, offset_here}
use Rattle.place.specs.ByteLaws.{spot_in, group_there}
use Rattle.homes.specs.declared.Record.{Record}
use Rattle.homes.specs.Missing.{home}
use Rattle.homes.proofs.MissingLaws.{home-lt}
use Rattle.pool.specs.Storing.{cell_after, storing}
use Rattle.pool.specs.StoringLaws.{storing-length, storing-none, storing_changes}
use Rattle.pool.specs.Rounds.{either, cell_same, same_value, storing_join, storing_ext}
use Rattle.survey.specs.Placing.{start_of, group_here, content_here, placed}

-- only in the groups below g
abbrev pub on_below : ℕ → (ℕ → ℕ → ℕ → Bool) → ℕ → ℕ → ℕ → Bool
on_below g on h o c = both (ltb h g) (on h o c)

abbrev pub stored_below : Layout → Record → ℕ → (ℕ → ℕ → ℕ → Bool) → (ℕ → ℕ → ℕ → ℕ) → List ℕ → ℕ → List ℕ
stored_below y R j on val img g = storing y R j (on_below g on) val img

module _ (y : Layout) (v : Valid y) (R : Record) (j : ℕ) (le : j ≤ y.k) (on : ℕ → ℕ → ℕ → Bool) (val : ℕ → ℕ → ℕ → ℕ) (img : List ℕ)
    (len : length img ≡ image_length y) where
  below_length : (g : ℕ) → length (stored_below y R j on val img g) ≡ length img
  below_length g = storing-length y R j (on_below g on) val img

  pub below_begin : img ≡ stored_below y R j on val img 0
  below_begin = sym (storing-none y R j (on_below 0 on) val img (λ g o c. pick-false (ltb g 0) (on g o c) false (le-ltb g 0 (omega arith))))

  pub below_end : (g : ℕ) → g ≡ all_groups y → stored_below y R j on val img g ≡ storing y R j on val img
  below_end g e =
      storing_ext y R j v (on_below g on) on img len val val (λ h o c hg ho hc. pick_true (ltb h g) (on h o c) false (lt-ltb h g (omega arith))) (λ h o c hg ho hc t. refl)

  -- a unit of a group that is not done stands as it was
  pub below_yet : (g h u o : ℕ) → g ≤ h → h < all_groups y → u < width y → o < y.u
      → at (stored_below y R j on val img g) (spot y h u o) ≡ at img (spot y h u o)
  below_yet g h u o le-h hh hu ho =
      ⊎_elim (λ q. q)
      (λ w.
      let t : ltb w.g g ≡ true = (both_true (ltb w.g g) (on w.g w.o w.c) w.is_on).0 in
      let same : w.g ≡ h =
      sym (group_there y v w.g (home y R j w.g w.c) w.o w.g-lt (home-lt y v R w.g j le w.c w.c_lt) w.o_lt)
      ∙ ap (λ (x : ℕ). (unit_here y x).group) (sym w.is_at) ∙ group_there y v h u o hh hu ho in
      absurd (omega (arith, ltb-true w.g g t, same)))
      (storing_changes y v R j (on_below g on) val img len (spot y h u o) (subst (λ (m : ℕ). spot y h u o < m) (sym len) (spot_in y v h u o hh hu ho)))

  -- ---- one group more

  module _ (g : ℕ) (hg : g < all_groups y) where
    abbrev done : List ℕ
    done = stored_below y R j on val img g

    alone : (b : Bool) → either b false ≡ b
    alone true = refl
    alone false = refl

    -- the tests of group g and of the groups below are those of the groups below g + 1
    grows : (h : ℕ) (b : Bool) → either (both (eqb h g) b) (both (ltb h g) b) ≡ both (ltb h (g + 1)) b
    grows h b =
        equal_or_not h g
        (λ (e : h ≡ g).
        ap (λ (t : Bool). either (both t b) (both (ltb h g) b)) (eq-eqb h g e) ∙ ap (λ (t : Bool). either b (both t b)) (le-ltb h g (omega arith))
        ∙ alone b ∙ sym (pick_true (ltb h (g + 1)) b false (lt-ltb h (g + 1) (omega arith))))
        (λ (n : h ≡ g → ⊥).
        ap (λ (t : Bool). either (both t b) (both (ltb h g) b)) (ne_eqb h g n)
        ∙ below_or_not h g
        (λ (k : h < g). ap (λ (t : Bool). both t b) (lt-ltb h g k ∙ sym (lt-ltb h (g + 1) (omega arith))))
        (λ (k : g ≤ h). ap (λ (t : Bool). both t b) (le-ltb h g k ∙ sym (le-ltb h (g + 1) (omega arith)))))

    here : (h o c : ℕ) → both (eqb h g) (on g o c) ≡ both (eqb h g) (on h o c)
    here h o c =
        equal_or_not h g (λ (e : h ≡ g). ap (λ (n : ℕ). both (eqb h g) (on n o c)) (sym e))
        (λ (n : h ≡ g → ⊥). pick-false (eqb h g) _ false (ne_eqb h g n) ∙ sym (pick-false (eqb h g) _ false (ne_eqb h g n)))

    module _ (img' : List ℕ) (l : Lays (contents y) y.u (start_of y R j g) (λ c o. on g o c) (λ c o. val g o c) done img') where
      -- what is laid on in group g is a round of storing
      one_round : img' ≡ storing y R j (λ h o c. both (eqb h g) (on h o c)) val done
      unfolding storing cell_after
      one_round =
          tabulated (length done) _ img' 0 l.same
          (λ x b.
          let hx : x < image_length y = subst (λ (m : ℕ). x < m) (below_length g ∙ len) b in
          lays_at (all_groups y) (contents y) y.u (image_length y) (start_of y R j) (group_here y) (content_here y R j) (offset_here y) (placed y v R j le)
          g hg (λ c o. on g o c) (λ c o. val g o c) done img' (below_length g ∙ len) l x hx
          ∙ cell_same (ltb (content_here y R j x) (contents y)) _ _ _ _ (at done x)
          (λ t. here (group_here y x) (offset_here y x) (content_here y R j x))
          (λ t s.
          ap (λ (h : ℕ). val h (offset_here y x) (content_here y R j x))
          (sym (eqb-true (group_here y x) g (both_true (eqb (group_here y x) g) _ s).0))))

      pub below_turn : img' ≡ stored_below y R j on val img (g + 1)
      below_turn =
          one_round
          ∙ storing_join y R j (λ h o c. both (eqb h g) (on h o c)) (on_below g on) val val img
          ∙ storing_ext y R j v _ (on_below (g + 1) on) img len _ val (λ h o c hh ho hc. grows h (on h o c))
          (λ h o c hh ho hc t. same_value (both (eqb h g) (on h o c)) (val h o c))
