-- A text scanned line by line, as the code's loop does: the first malformed line, and the newest.
use Rattle.std.specs.Prelude.{◌≡◌, refl, List, [], ◌∷◌, ℕ, zero, suc, ◌+◌, ◌-◌, ◌≤◌, ◌<◌, length, get_or, take, drop}
use Rattle.std.proofs.Common.{sym, ap, ◌∙◌, arith, length-drop, drop_of_length-le, take_all}
use Rattle.line_cursor.specs.Lines.{lines_of}
use Rattle.line_cursor.specs.LineLaws.{no_lines}
use Rattle.settings.specs.Calls.{later, first_malformed, newest_line}
use Rattle.settings.specs.Scan.{Scans}

-- ---- line by line

pub none_malformed : first_malformed [] ≡ 0
unfolding first_malformed
none_malformed = refl

-- ---- underway: the line that begins at place `from` has number `line`

-- the number of a line in the whole text, by its number from there on
abbrev pub counted : ℕ → ℕ → ℕ
counted line zero = zero
counted line (suc n) = line + n

-- the last of some lines, `old` where there is none
abbrev pub last_or : List ℕ → List (List ℕ) → List ℕ
last_or old [] = old
last_or old (l ∷ ls) = last_or l ls

pub last_is : (l : List ℕ) (ls : List (List ℕ)) → last_or l ls ≡ newest_line (l ∷ ls)
last_is l [] = refl
last_is l (k ∷ ls) = last_is k ls ∙ ap (λ (i : ℕ). get_or (l ∷ k ∷ ls) i []) (let e : suc (length (k ∷ ls) - 1) ≡ length (l ∷ k ∷ ls) - 1 = omega arith in e)

pub record ScannedTo (text : List ℕ) (line newest from : ℕ) : Type 0 where
  pub within : from ≤ length text
  pub lines : line ≤ from + 1
  pub some : 0 < line
  pub begun : newest ≤ from
  pub wrong : counted line (first_malformed (lines_of (drop from text))) ≡ first_malformed (lines_of text)
  pub last : last_or (take (from - newest) (drop newest text)) (lines_of (drop from text)) ≡ newest_line (lines_of text)

counted_none : (n : ℕ) → counted 1 n ≡ n
counted_none zero = refl
counted_none (suc n) = omega arith

pub last_begin : (ls : List (List ℕ)) → last_or [] ls ≡ newest_line ls
last_begin [] = refl
last_begin (l ∷ ls) = last_is l ls

pub scan_begin : (text : List ℕ) → ScannedTo text 1 0 0
scan_begin text =
    record {
      within = omega arith;
      lines = omega arith;
      some = omega arith;
      begun = omega arith;
      wrong = counted_none (first_malformed (lines_of text));
      last = last_begin (lines_of text);
    }

pub counted-later : (line n : ℕ) → counted line (later n) ≡ counted (line + 1) n
counted-later line zero = refl
counted-later line (suc n) = omega arith

-- at the end of the text
module _ (text : List ℕ) (line newest from : ℕ) (u : ScannedTo text line newest from) (h : length text ≤ from) where
  none_left : lines_of (drop from text) ≡ []
  none_left = ap lines_of (drop_of_length-le text {i = from} h) ∙ no_lines

  pub scan_done : Scans text 0 newest
  scan_done =
      let a = u.begun in
      let b = u.within in
      record {
        wrong = ap (counted line) (sym (ap first_malformed none_left ∙ none_malformed)) ∙ u.wrong;
        inside = omega (arith, a, b);
        begins = λ z.
            sym (take_all (from - newest) (drop newest text) (omega (arith, length-drop newest text, a, h)))
            ∙ ap (last_or (take (from - newest) (drop newest text))) (sym none_left) ∙ u.last;
      }
