-- The cursor: whatever the pieces are, it hands out the lines of the whole stream, of a long one its beginning; and the code's steps are the cursor's.
use Rattle.std.specs.Prelude.{◌≡◌, refl, true, false, ℕ, suc, ◌-◌, ◌<◌, ◌≤◌, eqb, ltb, length, drop}
use Rattle.std.proofs.Common.{sym, ◌∙◌, ⊎_elim, arith, length-append, take_all, length-take-le, get_or-take, ne_eqb, lt-ltb, le-ltb}
use Rattle.std.proofs.Math.Path.{ap}
use mathlib.Core.List.{List, [], ◌∷◌, ◌++◌, map, append-nil}
use Rattle.std.proofs.lemmas.List.{take-append-le}
use Rattle.std.proofs.Math.Seq.{append_snoc}
use Rattle.lists.specs.Pick.{pick_true, pick-false, either_way, clash, below_or_not}
use Rattle.lists.specs.Tabulate.{at}
use Rattle.line_cursor.specs.Lines.{first_line, begun, lines_of, joined, whole_of, kept_of, kept_with, last_of, cut_piece, cut_lines}
use Rattle.line_cursor.specs.LineLaws.{NewlineLast, no_lines, no_first, first_newline, first_other, lines_newline, lines_other}

-- ---- what is kept

pub kept_short : (line : List ℕ) → length line ≤ 8301 → kept_of line ≡ line
kept_short line h = take_all 8301 line h

-- what is kept of a line that is too long lacks its newline: it is as malformed as the line
pub kept_long : (line : List ℕ) → NewlineLast line → 8301 < length line → whole_of (kept_of line) ≡ false
kept_long line last h =
    ap (λ (n : ℕ). eqb (at (kept_of line) (n - 1)) 10) (length-take-le 8301 line (omega (arith, h)))
    ∙ ne_eqb (at (kept_of line) 8300) 10 (λ (q : at (kept_of line) 8300 ≡ 10). last 8300 (omega (arith, h)) (sym (get_or-take 8301 line 8300 0 (omega arith)) ∙ q))

-- byte by byte the same is kept
kept_more : (line : List ℕ) (c : ℕ) → kept_with (kept_of line) c ≡ kept_of (line ++ c ∷ [])
kept_more line c =
    below_or_not (length line) 8301
    (λ (h : length line < 8301).
    let more = length-append line (c ∷ []) in
    ap (λ (l : List ℕ). kept_with l c) (kept_short line (omega (arith, h)))
    ∙ pick_true (ltb (length line) 8301) (line ++ c ∷ []) line (lt-ltb (length line) 8301 h)
    ∙ sym (kept_short (line ++ c ∷ []) (omega (arith, h, more))))
    (λ (h : 8301 ≤ length line).
    let full = length-take-le 8301 line h in
    pick-false (ltb (length (kept_of line)) 8301) (kept_of line ++ c ∷ []) (kept_of line) (le-ltb (length (kept_of line)) 8301 (omega (arith, full)))
    ∙ sym (take-append-le 8301 line (c ∷ []) h))

-- ---- a byte more

cut_none : (rest : List ℕ → List (List ℕ)) (kept : List ℕ) → cut_piece rest kept [] ≡ rest kept
unfolding cut_piece
cut_none rest kept = refl

module _ (rest : List ℕ → List (List ℕ)) (line : List ℕ) (c : ℕ) (cs : List ℕ) where
  cut_newline : eqb c 10 ≡ true → cut_piece rest (kept_of line) (c ∷ cs) ≡ kept_of (line ++ c ∷ []) ∷ cut_piece rest [] cs
  unfolding cut_piece
  cut_newline t =
      pick_true (eqb c 10) (kept_with (kept_of line) c ∷ cut_piece rest [] cs) (cut_piece rest (kept_with (kept_of line) c) cs) t
      ∙ ap (λ (l : List ℕ). l ∷ cut_piece rest [] cs) (kept_more line c)

  cut_other : eqb c 10 ≡ false → cut_piece rest (kept_of line) (c ∷ cs) ≡ cut_piece rest (kept_of (line ++ c ∷ [])) cs
  unfolding cut_piece
  cut_other t =
      pick-false (eqb c 10) (kept_with (kept_of line) c ∷ cut_piece rest [] cs) (cut_piece rest (kept_with (kept_of line) c) cs) t
      ∙ ap (λ (l : List ℕ). cut_piece rest l cs) (kept_more line c)

-- ---- the lines of the whole stream

-- a line's beginning before the lines that follow: it begins the first of them
abbrev pub underway : List ℕ → List (List ℕ) → List (List ℕ)
underway line [] = last_of line
underway line (l ∷ ls) = (line ++ l) ∷ ls

underway-none : (ls : List (List ℕ)) → underway [] ls ≡ ls
underway-none [] = refl
underway-none (l ∷ ls) = refl

underway_more : (line : List ℕ) (c : ℕ) (ls : List (List ℕ)) → underway (line ++ c ∷ []) ls ≡ underway line (begun c ls)
underway_more [] c [] = refl
underway_more (d ∷ ds) c [] = refl
underway_more line c (l ∷ ls) = ap (λ (x : List ℕ). x ∷ ls) (append_snoc line c l)

last_kept : (line : List ℕ) → last_of (kept_of line) ≡ map kept_of (last_of line)
last_kept [] = refl
last_kept (c ∷ cs) = refl

-- in a piece, where `text` is what follows it
module _ (rest : List ℕ → List (List ℕ)) (text : List ℕ) (h : (line : List ℕ) → rest (kept_of line) ≡ map kept_of (underway line (lines_of text))) where
  cut_all : (piece line : List ℕ) → cut_piece rest (kept_of line) piece ≡ map kept_of (underway line (lines_of (piece ++ text)))
  cut_all [] line = cut_none rest (kept_of line) ∙ h line
  cut_all (c ∷ cs) line =
      ⊎_elim
      (λ (t : eqb c 10 ≡ true).
      cut_newline rest line c cs t
      ∙ ap (λ (ls : List (List ℕ)). kept_of (line ++ c ∷ []) ∷ ls) (cut_all cs [] ∙ ap (map kept_of) (underway-none (lines_of (cs ++ text))))
      ∙ ap (λ (ls : List (List ℕ)). map kept_of (underway line ls)) (sym (lines_newline c (cs ++ text) t)))
      (λ (t : eqb c 10 ≡ false).
      cut_other rest line c cs t ∙ cut_all cs (line ++ c ∷ []) ∙ ap (map kept_of) (underway_more line c (lines_of (cs ++ text)))
      ∙ ap (λ (ls : List (List ℕ)). map kept_of (underway line ls)) (sym (lines_other c (cs ++ text) t)))
      (either_way (eqb c 10))

-- what has come of a line and is not ended goes before the lines of the pieces
pub cut_underway : (pieces : List (List ℕ)) (line : List ℕ) → cut_lines (kept_of line) pieces ≡ map kept_of (underway line (lines_of (joined pieces)))
unfolding cut_lines
cut_underway [] line = last_kept line ∙ ap (λ (ls : List (List ℕ)). map kept_of (underway line ls)) (sym no_lines)
cut_underway (piece ∷ pieces) line = cut_all (λ k. cut_lines k pieces) (joined pieces) (cut_underway pieces) piece line

-- the cursor hands out the lines of the whole stream, of a long one its first 8,301 bytes
pub cut_lines_lem : (pieces : List (List ℕ)) → cut_lines [] pieces ≡ map kept_of (lines_of (joined pieces))
cut_lines_lem pieces = cut_underway pieces [] ∙ ap (map kept_of) (underway-none (lines_of (joined pieces)))

-- ---- a step: to the end of the line, or of the piece

pub whole_more : (c : ℕ) (l : List ℕ) → eqb c 10 ≡ false → whole_of (c ∷ l) ≡ whole_of l
whole_more c [] t = t
whole_more c (d ∷ ds) t = ap (λ (i : ℕ). eqb (at (c ∷ d ∷ ds) i) 10) (let q : suc (suc (length ds)) - 1 ≡ suc (suc (length ds) - 1) = omega arith in q)

module _ (rest : List ℕ → List (List ℕ)) where
  step-whole : (bytes line : List ℕ) → whole_of (first_line bytes) ≡ true
      → cut_piece rest (kept_of line) bytes ≡ kept_of (line ++ first_line bytes) ∷ cut_piece rest [] (drop (length (first_line bytes)) bytes)
  step-whole [] line w = clash (whole_of (first_line [])) w (ap whole_of no_first)
  step-whole (c ∷ cs) line w =
      ⊎_elim
      (λ (t : eqb c 10 ≡ true).
      cut_newline rest line c cs t
      ∙ ap (λ (l : List ℕ). kept_of (line ++ l) ∷ cut_piece rest [] (drop (length l) (c ∷ cs))) (sym (first_newline c cs t)))
      (λ (t : eqb c 10 ≡ false).
      cut_other rest line c cs t
      ∙ step-whole cs (line ++ c ∷ []) (sym (ap whole_of (first_other c cs t) ∙ whole_more c (first_line cs) t) ∙ w)
      ∙ ap (λ (l : List ℕ). kept_of l ∷ cut_piece rest [] (drop (length (first_line cs)) cs)) (append_snoc line c (first_line cs))
      ∙ ap (λ (l : List ℕ). kept_of (line ++ l) ∷ cut_piece rest [] (drop (length l) (c ∷ cs))) (sym (first_other c cs t)))
      (either_way (eqb c 10))

  step_part : (bytes line : List ℕ) → whole_of (first_line bytes) ≡ false → cut_piece rest (kept_of line) bytes ≡ rest (kept_of (line ++ first_line bytes))
  step_part [] line w =
      cut_none rest (kept_of line) ∙ ap (λ (l : List ℕ). rest (kept_of l)) (sym (append-nil line) ∙ ap (λ (l : List ℕ). line ++ l) (sym no_first))
  step_part (c ∷ cs) line w =
      ⊎_elim
      (λ (t : eqb c 10 ≡ true). clash (whole_of (first_line (c ∷ cs))) (ap whole_of (first_newline c cs t) ∙ t) w)
      (λ (t : eqb c 10 ≡ false).
      cut_other rest line c cs t
      ∙ step_part cs (line ++ c ∷ []) (sym (ap whole_of (first_other c cs t) ∙ whole_more c (first_line cs) t) ∙ w)
      ∙ ap (λ (l : List ℕ). rest (kept_of l)) (append_snoc line c (first_line cs) ∙ ap (λ (l : List ℕ). line ++ l) (sym (first_other c cs t))))
      (either_way (eqb c 10))

-- nothing left of a piece
pub cut_empty : (kept : List ℕ) (pieces : List (List ℕ)) → cut_lines kept ([] ∷ pieces) ≡ cut_lines kept pieces
unfolding cut_lines
cut_empty kept pieces = cut_none (λ k. cut_lines k pieces) kept

module _ (kept bytes : List ℕ) (pieces : List (List ℕ)) (h : length kept ≤ 8301) where
  -- the line ends in this piece: it is handed out, and the next begins after it
  pub cut_whole : whole_of (first_line bytes) ≡ true
      → cut_lines kept (bytes ∷ pieces) ≡ kept_of (kept ++ first_line bytes) ∷ cut_lines [] (drop (length (first_line bytes)) bytes ∷ pieces)
  unfolding cut_lines
  cut_whole w = ap (λ (k : List ℕ). cut_lines k (bytes ∷ pieces)) (sym (kept_short kept h)) ∙ step-whole (λ k. cut_lines k pieces) bytes kept w

  -- it does not: what has come of it is kept for the next piece
  pub cut_part : whole_of (first_line bytes) ≡ false → cut_lines kept (bytes ∷ pieces) ≡ cut_lines (kept_of (kept ++ first_line bytes)) pieces
  unfolding cut_lines
  cut_part w = ap (λ (k : List ℕ). cut_lines k (bytes ∷ pieces)) (sym (kept_short kept h)) ∙ step_part (λ k. cut_lines k pieces) bytes kept w
