-- A text scanned line by line: what the definition of the first malformed line says of the line there, and that all lines are well-formed where none is malformed.
use Rattle.std.specs.Prelude.{◌≡◌, refl, true, false, List, [], ◌∷◌, ℕ, zero, suc, ◌+◌, ◌-◌, ◌≤◌, ◌<◌, length, take, drop}
use Rattle.std.proofs.Common.{sym, ap, ◌∙◌, ⊎_elim, arith}
use Rattle.lists.specs.Pick.{pick_true, pick-false, either_way}
use Rattle.line_cursor.specs.Lines.{lines_of, line_end}
use Rattle.line_cursor.specs.CursorLaws.{lines-here}
use Rattle.settings.specs.Settings.{is_setting}
use Rattle.settings.specs.Calls.{later, first_malformed, newest_line}
use Rattle.settings.specs.Scan.{Scans}
use Rattle.settings.specs.ScanLaws.{counted, last_or, last_is, ScannedTo, counted-later}

pub malformed_here : (l : List ℕ) (ls : List (List ℕ)) → is_setting l ≡ false → first_malformed (l ∷ ls) ≡ 1
unfolding first_malformed
malformed_here l ls t = pick-false (is_setting l) (later (first_malformed ls)) 1 t

pub malformed_later : (l : List ℕ) (ls : List (List ℕ)) → is_setting l ≡ true → first_malformed (l ∷ ls) ≡ later (first_malformed ls)
unfolding first_malformed
malformed_later l ls t = pick_true (is_setting l) (later (first_malformed ls)) 1 t

module _ (text : List ℕ) (line newest from : ℕ) {end : ℕ} (u : ScannedTo text line newest from) (h : from < length text) (e : end ≡ line_end text from) where
  abbrev this : List ℕ
  this = take (end - from) (drop from text)

  -- the line there is malformed
  pub scan_stops : is_setting this ≡ false → Scans text line 0
  scan_stops t =
      let is : line ≡ first_malformed (lines_of text) =
      (let z : line ≡ line + 0 = omega arith in z)
      ∙ ap (counted line) (sym (ap first_malformed (lines-here text from e h) ∙ malformed_here this (lines_of (drop end text)) t)) ∙ u.wrong in
      let some = u.some in
      record { wrong = is; inside = omega arith; begins = λ z. absurd (omega (arith, z, some)) }

  -- it is well-formed
  pub scan_turn : from < end → end ≤ length text → is_setting this ≡ true → ScannedTo text (line + 1) from end
  scan_turn more most t =
      let few = u.lines in
      record {
        within = most;
        lines = omega (arith, few, more);
        some = omega arith;
        begun = omega (arith, more);
        wrong =
            sym (counted-later line (first_malformed (lines_of (drop end text))))
            ∙ ap (counted line) (sym (ap first_malformed (lines-here text from e h) ∙ malformed_later this (lines_of (drop end text)) t)) ∙ u.wrong;
        last = sym (ap (last_or (take (from - newest) (drop newest text))) (lines-here text from e h)) ∙ u.last;
      }

pub all_settings : (l : List ℕ) (ls : List (List ℕ)) → first_malformed (l ∷ ls) ≡ 0 → (is_setting l ≡ true) × (first_malformed ls ≡ 0)
all_settings l ls z = (right, nought (first_malformed ls) (sym (malformed_later l ls right) ∙ z))
  where
    nought : (n : ℕ) → later n ≡ 0 → n ≡ 0
    nought zero e = refl
    nought (suc n) e = absurd (omega (arith, e))

    right : is_setting l ≡ true
    right =
        ⊎_elim (λ (t : is_setting l ≡ true). t) (λ (t : is_setting l ≡ false). absurd (let one = malformed_here l ls t in omega (arith, one, z)))
        (either_way (is_setting l))

pub last_setting : (l : List ℕ) (ls : List (List ℕ)) → first_malformed (l ∷ ls) ≡ 0 → is_setting (last_or l ls) ≡ true
last_setting l [] z = (all_settings l [] z).0
last_setting l (k ∷ ls) z = last_setting k ls (all_settings l (k ∷ ls) z).1

pub newest_setting : (ls : List (List ℕ)) → 0 < length ls → first_malformed ls ≡ 0 → is_setting (newest_line ls) ≡ true
newest_setting [] h z = absurd (omega (arith, h))
newest_setting (l ∷ ls) h z = ap is_setting (sym (last_is l ls)) ∙ last_setting l ls z
