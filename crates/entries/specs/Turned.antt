-- A run over records turn by turn: each turn stores, at its place, the record of the place before it, upwards or downwards. The loops of
-- `catalogue::roll` turn so, and what they leave is said with lists here.
use Rattle.std.specs.Prelude.{◌≡◌, refl, ℕ, zero, suc, ◌+◌, ◌-◌, ◌≤◌, ◌<◌, Bool, true, false, List, [], ◌∷◌, ◌++◌, length, get_or, set}
use Rattle.std.proofs.Common.{sym, ap, ◌∙◌, suc-add, add-zero, arith, append_assoc, length-append}
use Rattle.std.proofs.lemmas.List.{set_at, get_or_at}
use Rattle.entries.specs.declared.Entry.{Entry}
use Rattle.entries.specs.Blank.{blank}

abbrev pub moved_to : Bool → ℕ → ℕ
moved_to true at = at - 1
moved_to false at = at + 1

-- the list after m turns from the place at, with c to store there
unfoldable pub rolled : ℕ → Bool → ℕ → Entry → List Entry → List Entry
rolled zero d at c ys = ys
rolled (suc m) d at c ys = rolled m d (moved_to d at) (get_or ys at blank) (set ys at c)

-- every place of the run lies within n records
abbrev pub IsInside : Bool → ℕ → ℕ → ℕ → Type 0
IsInside true at m n = (m ≤ at + 1) × (at < n)
IsInside false at m n = at + m ≤ n

-- what stands in front of a run upwards is left
pub rolled-cons : (m at : ℕ) (c y : Entry) (ys : List Entry) → rolled m false (suc at) c (y ∷ ys) ≡ y ∷ rolled m false at c ys
unfolding rolled
rolled-cons zero at c y ys = refl
rolled-cons (suc m) at c y ys =
    ap (λ (j : ℕ). rolled m false j (get_or ys at blank) (y ∷ set ys at c)) (suc-add at 1) ∙ rolled-cons m (at + 1) (get_or ys at blank) y (set ys at c)

-- a run upwards puts c in front of qs, and the record after qs is gone
pub rolled_up : (ps qs : List Entry) (c z : Entry) (zs : List Entry)
    → rolled (suc (length qs)) false (length ps) c (ps ++ (qs ++ z ∷ zs)) ≡ ps ++ c ∷ (qs ++ zs)
unfolding rolled
rolled_up [] [] c z zs = refl
rolled_up [] (q ∷ qs) c z zs = rolled-cons (suc (length qs)) 0 q c (qs ++ z ∷ zs) ∙ ap {B = List Entry} (λ t. c ∷ t) (rolled_up [] qs q z zs)
rolled_up (p ∷ ps) qs c z zs =
    rolled-cons (suc (length qs)) (length ps) c p (ps ++ (qs ++ z ∷ zs)) ∙ ap {B = List Entry} (λ t. p ∷ t) (rolled_up ps qs c z zs)

-- a list that is not empty, from its end
pub record Snoc (m : ℕ) (qs : List Entry) : Type 0 where
  pub front : List Entry
  pub last : Entry
  pub size : length front ≡ m
  pub is : qs ≡ front ++ last ∷ []

pub unsnoc : (m : ℕ) (qs : List Entry) → length qs ≡ suc m → Snoc m qs
unsnoc m [] e = absurd (omega (arith, e))
unsnoc zero (q ∷ []) e = record { front = []; last = q; size = refl; is = refl }
unsnoc zero (q ∷ p ∷ qs) e = absurd (omega (arith, e))
unsnoc (suc m) (q ∷ qs) e = more (unsnoc m qs (omega (arith, e)))
  where
    more : Snoc m qs → Snoc (suc m) (q ∷ qs)
    more t = record { front = q ∷ t.front; last = t.last; size = ap suc t.size; is = ap {B = List Entry} (λ l. q ∷ l) t.is }

pub down_step : (m : ℕ) (ps qs : List Entry) (c z : Entry) (zs : List Entry) → length qs ≡ suc m
    → ((fs : List Entry) (f : Entry) → length fs ≡ m → rolled (suc m) true (length ps + m) f (ps ++ z ∷ (fs ++ c ∷ zs)) ≡ ps ++ (fs ++ f ∷ c ∷ zs))
    → rolled (suc m) true (length ps + suc m - 1) (get_or (ps ++ z ∷ (qs ++ zs)) (length ps + suc m) blank) (set (ps ++ z ∷ (qs ++ zs))
    (length ps + suc m) c) ≡ ps ++ (qs ++ c ∷ zs)
down_step m ps qs c z zs e h = by_snoc (unsnoc m qs e)
  where
    by_snoc : Snoc m qs
        → rolled (suc m) true (length ps + suc m - 1) (get_or (ps ++ z ∷ (qs ++ zs)) (length ps + suc m) blank) (set (ps ++ z ∷ (qs ++ zs))
        (length ps + suc m) c) ≡ ps ++ (qs ++ c ∷ zs)
    by_snoc t =
        ap (λ (l : List Entry). rolled (suc m) true (length ps + suc m - 1) (get_or l (length ps + suc m) blank) (set l (length ps + suc m) c)) shape
        ∙ ap (λ (y : Entry). rolled (suc m) true (length ps + suc m - 1) y (set (front ++ t.last ∷ zs) (length ps + suc m) c)) (get_or_at front
        t.last zs blank (length ps + suc m) size)
        ∙ ap (rolled (suc m) true (length ps + suc m - 1) t.last) (set_at front t.last zs c (length ps + suc m) size ∙ append_assoc ps
        (z ∷ t.front) (c ∷ zs))
        ∙ ap (λ (j : ℕ). rolled (suc m) true j t.last (ps ++ z ∷ (t.front ++ c ∷ zs))) place
        ∙ h t.front t.last t.size
        ∙ ap (λ (l : List Entry). ps ++ l) (sym (append_assoc t.front (t.last ∷ []) (c ∷ zs)) ∙ ap (λ (l : List Entry). l ++ c ∷ zs) (sym
        t.is))
      where
        front : List Entry
        front = ps ++ z ∷ t.front

        shape : ps ++ z ∷ (qs ++ zs) ≡ front ++ t.last ∷ zs
        shape =
            ap (λ (l : List Entry). ps ++ z ∷ (l ++ zs)) t.is ∙ ap (λ (l : List Entry). ps ++ z ∷ l) (append_assoc t.front (t.last ∷ []) zs)
            ∙ sym (append_assoc ps (z ∷ t.front) (t.last ∷ zs))

        size : length front ≡ length ps + suc m
        size = length-append ps (z ∷ t.front) ∙ ap (λ (j : ℕ). length ps + suc j) t.size

        place : length ps + suc m - 1 ≡ length ps + m
        place = omega arith

pub down_by : (m : ℕ) (ps qs : List Entry) (c z : Entry) (zs : List Entry) → length qs ≡ m
    → rolled (suc m) true (length ps + m) c (ps ++ z ∷ (qs ++ zs)) ≡ ps ++ (qs ++ c ∷ zs)
unfolding rolled
down_by zero ps [] c z zs e = set_at ps z zs c (length ps + 0) (sym (add-zero (length ps)))
down_by zero ps (q ∷ qs) c z zs e = absurd (omega (arith, e))
down_by (suc m) ps qs c z zs e = down_step m ps qs c z zs e (λ fs f l. down_by m ps fs f z (c ∷ zs) l)

-- a run downwards takes z out, and puts c behind qs
pub rolled_down : (ps qs : List Entry) (c z : Entry) (zs : List Entry)
    → rolled (suc (length qs)) true (length ps + length qs) c (ps ++ z ∷ (qs ++ zs)) ≡ ps ++ (qs ++ c ∷ zs)
rolled_down ps qs c z zs = down_by (length qs) ps qs c z zs refl
