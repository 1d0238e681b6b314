-- "A walk over one target hands its cursor back after each frame, with the group and unit lying there, frames rising. At frame L·T it says done; a
-- cursor beyond that is 4. Done or refused, the cursor comes back unchanged." Of a step, in document 01's number, unit and cursor for every case of its
-- answer (`number_of`, `says_done`, `unit_found`, `cursor_back`); of the walk from frame 0, that it visits each unit of its target once, in frame order.
use Rattle.std.specs.Prelude.{◌≡◌, refl, Bool, true, false, ltb, leb, length, get_or}
use Rattle.std.proofs.Common.{sym, ◌∙◌, le_of_eq, zero-add, add-zero}
use Rattle.std.proofs.Math.Path.{ap}
use mathlib.Core.List.{List, [], ◌∷◌}
use Prim.Native.Nat.{ℕ, zero, suc, ◌+◌, ◌≤◌, ◌<◌}
use native.Mathlib.Omega.{arith}
use borrow.Author.Tests.{lt-ltb, le-ltb, le-leb, ltb-false}
use Rattle.lists.specs.Pick.{pick, pick_true, pick-false, clash}
use Rattle.lists.specs.Refusal.{grant, grant_yes, refusal_none}
use Rattle.lists.specs.Tabulate.{tabulate, tabulate_ext, get_d_tabulate, length-tabulate}
use Rattle.numbers.specs.declared.Layout.{Layout}
use Rattle.numbers.specs.Layouts.{Valid, width, frames, all_groups}
use Rattle.numbers.specs.Refused.{validb, valid_true}
use Rattle.place.specs.declared.Unit.{Unit}
use Rattle.place.specs.Places.{place_of, unit_of}
use Rattle.place.specs.PlaceLaws.{place_in, there_and_back, back_and_there}
use Rattle.layout.specs.declared.Cursor.{Cursor}
use Rattle.layout.specs.declared.Step.{Step}
use Rattle.layout.specs.declared.Step.TheVariants.{At, Done, Refused}
use Rattle.layout.specs.Walk.{walk_refusal, step_of, number_of, says_done, unit_found, cursor_back}
use Rattle.layout.specs.Asked.{walk-asked}

abbrev nowhere : Unit
nowhere = record { group = 0; unit = 0 }

-- ---- one step, of any layout and cursor

-- the answer by its number, by whether a frame is left, and by what lies there
abbrev answer : ℕ → Bool → Unit → Cursor → Cursor → Step
answer n left u next w = grant n (pick left (At u next) (Done w)) (Refused n w)

refused_keeps : (n : ℕ) (left : Bool) (u : Unit) (next w : Cursor) → (number_of (answer n left u next w) ≡ 0 → ⊥)
    → (says_done (answer n left u next w) ≡ false) × (unit_found (answer n left u next w) ≡ nowhere) × (cursor_back (answer n left u next w) ≡ w)
refused_keeps zero true u next w f = absurd (f refl)
refused_keeps zero false u next w f = absurd (f refl)
refused_keeps (suc n) left u next w f = (refl, refl, refl)

done_keeps : (n : ℕ) (left : Bool) (u : Unit) (next w : Cursor) → says_done (answer n left u next w) ≡ true
    → ((n ≡ 0) × (left ≡ false)) × (number_of (answer n left u next w) ≡ 0) × (unit_found (answer n left u next w) ≡ nowhere) × (cursor_back (answer n left u next w) ≡ w)
done_keeps zero true u next w e = clash false e refl
done_keeps zero false u next w e = ((refl, refl), refl, refl, refl)
done_keeps (suc n) left u next w e = clash false e refl

module _ (y : Layout) (w : Cursor) where
  -- refused: no unit, and the cursor as it was
  pub step-refused : (number_of (step_of y w) ≡ 0 → ⊥) → (says_done (step_of y w) ≡ false) × (unit_found (step_of y w) ≡ nowhere) × (cursor_back (step_of y w) ≡ w)
  unfolding step_of
  step-refused = refused_keeps (walk_refusal y w) (ltb w.frame (frames y)) _ _ w

  -- done: only at frame L·T, with number 0, no unit, and the cursor as it was
  pub step_says_done : says_done (step_of y w) ≡ true
      → (w.frame ≡ frames y) × (number_of (step_of y w) ≡ 0) × (unit_found (step_of y w) ≡ nowhere) × (cursor_back (step_of y w) ≡ w)
  unfolding step_of
  step_says_done e =
      let k = done_keeps (walk_refusal y w) (ltb w.frame (frames y)) _ _ w e in
      let most = (walk-asked y w k.0.0).2 in
      let least = ltb-false w.frame (frames y) k.0.1 in
      (omega arith, k.1, k.2, k.3)

-- ---- a walk: what at most n steps find, from a cursor on

abbrev onward : Step → (Cursor → List Unit) → List Unit
onward (At u w) rest = u ∷ rest w
onward (Done w) rest = []
onward (Refused n w) rest = []

unfoldable pub walk_of : Layout → ℕ → Cursor → List Unit
walk_of y zero w = []
walk_of y (suc n) w = onward (step_of y w) (walk_of y n)

module _ (y : Layout) (valid : Valid y) (t : ℕ) (target : t < y.p) where
  abbrev cursor : ℕ → Cursor
  cursor r = record { target = t; frame = r }

  unrefused : (r : ℕ) → r ≤ frames y → walk_refusal y (cursor r) ≡ 0
  unfolding walk_refusal
  unrefused r h =
      refusal_none ((validb y, 1) ∷ (ltb t y.p, 4) ∷ (leb r (frames y), 4) ∷ []) (valid_true y valid, (lt-ltb t y.p target, (le-leb r (frames y) h, tt)))

  step-at : (r : ℕ) → r < frames y → step_of y (cursor r) ≡ At (unit_of y r t) (cursor (r + 1))
  unfolding step_of
  step-at r h = grant_yes (walk_refusal y (cursor r)) _ _ (unrefused r (omega arith)) ∙ pick_true (ltb r (frames y)) _ _ (lt-ltb r (frames y) h)

  -- with a frame left, the unit there and the cursor of the next frame
  pub step_visits : (r : ℕ) → r < frames y
      → (number_of (step_of y (cursor r)) ≡ 0) × (says_done (step_of y (cursor r)) ≡ false)
      × (unit_found (step_of y (cursor r)) ≡ unit_of y r t) × (cursor_back (step_of y (cursor r)) ≡ cursor (r + 1))
  step_visits r h = (ap number_of (step-at r h), ap says_done (step-at r h), ap unit_found (step-at r h), ap cursor_back (step-at r h))

  -- "At frame L·T it says done"
  pub step-done : (r : ℕ) → r ≡ frames y → step_of y (cursor r) ≡ Done (cursor r)
  unfolding step_of
  step-done r e =
      grant_yes (walk_refusal y (cursor r)) _ _ (unrefused r (le_of_eq e)) ∙ pick-false (ltb r (frames y)) _ _ (le-ltb r (frames y) (le_of_eq (sym e)))

  -- with n frames left
  walk-left : (n r : ℕ) → n + r ≡ frames y → walk_of y (suc n) (cursor r) ≡ tabulate n (λ i. unit_of y (r + i) t)
  unfolding walk_of tabulate
  walk-left zero r e = ap (λ (s : Step). onward s (walk_of y zero)) (step-done r (omega arith))
  walk-left (suc n) r e =
      ap (λ (s : Step). onward s (walk_of y (suc n))) (step-at r (omega arith))
      ∙ ap (λ (l : List Unit). unit_of y r t ∷ l) (walk-left n (r + 1) (omega arith)
      ∙ tabulate_ext nowhere n (λ i. unit_of y (r + 1 + i) t) (λ i. unit_of y (r + suc i) t)
      (λ i b. ap (λ (k : ℕ). unit_of y k t) (let q : r + 1 + i ≡ r + suc i = omega arith in q)))
      ∙ ap (λ (k : ℕ). unit_of y k t ∷ tabulate n (λ i. unit_of y (r + suc i) t)) (sym (add-zero r))

  -- the walk from frame 0, with a step to spare behind the last frame: it says done there by itself
  abbrev walk : List Unit
  walk = walk_of y (suc (frames y)) (cursor 0)

  -- it is the units of the target's frames, in frame order
  pub walk_in_order : walk ≡ tabulate (frames y) (λ r. unit_of y r t)
  walk_in_order =
      walk-left (frames y) 0 (add-zero (frames y))
      ∙ tabulate_ext nowhere (frames y) (λ i. unit_of y (0 + i) t) (λ i. unit_of y i t) (λ i b. ap (λ (k : ℕ). unit_of y k t) (zero-add i))

  -- each unit of the target is visited
  pub walk_visits : (g u : ℕ) → g < all_groups y → u < width y → (place_of y g u).target ≡ t
      → get_or walk (place_of y g u).frame nowhere ≡ record { group = g; unit = u }
  walk_visits g u hg hu e =
      ap (λ (l : List Unit). get_or l (place_of y g u).frame nowhere) walk_in_order
      ∙ get_d_tabulate (frames y) (λ r. unit_of y r t) (place_of y g u).frame nowhere (place_in y valid g u hu hg).0
      ∙ ap (unit_of y (place_of y g u).frame) (sym e)
      ∙ there_and_back y valid g u hu

  -- and none twice: the walk has as many units as the target has frames, all different
  pub walk-length : length walk ≡ frames y
  walk-length = ap length walk_in_order ∙ length-tabulate (frames y) (λ r. unit_of y r t)

  pub walk_once : (i j : ℕ) → i < frames y → j < frames y
      → get_or walk i nowhere ≡ get_or walk j nowhere → i ≡ j
  walk_once i j hi hj e =
      sym (ap (λ (a : _). a.frame) (back_and_there y valid i t target))
      ∙ ap (λ (u : Unit). (place_of y u.group u.unit).frame) (sym (found i hi) ∙ e ∙ found j hj)
      ∙ ap (λ (a : _). a.frame) (back_and_there y valid j t target)
    where
      found : (r : ℕ) → r < frames y → get_or walk r nowhere ≡ unit_of y r t
      found r h = ap (λ (l : List Unit). get_or l r nowhere) walk_in_order ∙ get_d_tabulate (frames y) (λ r. unit_of y r t) r nowhere h
