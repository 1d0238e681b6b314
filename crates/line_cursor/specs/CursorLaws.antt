-- The code's calls are the cursor's steps: what stands between `from` and the end that the code tells is the line underway, or what has come of it.
use Rattle.std.specs.Prelude.{◌≡◌, refl, true, false, List, [], ◌∷◌, ◌++◌, ℕ, suc, ◌-◌, ◌<◌, ◌≤◌, eqb, length, take, drop}
use Rattle.std.proofs.Common.{sym, ap, ◌∙◌, subst, ⊎_elim, arith, length-take, length-drop, drop-cons, drop-drop}
use Rattle.std.proofs.Math.Seq.{drop-nil}
use Rattle.lists.specs.Pick.{either_way, clash}
use Rattle.lists.specs.Tabulate.{at}
use Rattle.line_cursor.specs.Lines.{first_line, lines_of, whole_of, line_end, kept_of, cut_lines}
use Rattle.line_cursor.specs.LineLaws.{no_first, first_newline, first_other, lines_first}
use Rattle.line_cursor.specs.CutLaws.{whole_more, cut_empty, cut_whole, cut_part}

-- ---- the first line of a text, and what is left of it

-- a rule of the first line, by whether the first byte is a newline
by_byte : (P : List ℕ → Type 0) (c : ℕ) (cs : List ℕ) → P (c ∷ []) → P (c ∷ first_line cs) → P (first_line (c ∷ cs))
by_byte P c cs p q =
    ⊎_elim (λ (t : eqb c 10 ≡ true). subst P (sym (first_newline c cs t)) p) (λ (t : eqb c 10 ≡ false). subst P (sym (first_other c cs t)) q) (either_way (eqb c 10))

first_taken : (text : List ℕ) → take (length (first_line text)) text ≡ first_line text
first_taken [] = subst (λ (l : List ℕ). take (length l) [] ≡ l) (sym no_first) refl
first_taken (c ∷ cs) = by_byte (λ (l : List ℕ). take (length l) (c ∷ cs) ≡ l) c cs refl (ap (λ (l : List ℕ). c ∷ l) (first_taken cs))

first_some : (c : ℕ) (cs : List ℕ) → 0 < length (first_line (c ∷ cs))
first_some c cs = by_byte (λ (l : List ℕ). 0 < length l) c cs (omega arith) (omega arith)

-- without its newline it is all of the text
part_rest : (text : List ℕ) → whole_of (first_line text) ≡ false → drop (length (first_line text)) text ≡ []
part_rest [] w = drop-nil (length (first_line []))
part_rest (c ∷ cs) w =
    ⊎_elim
    (λ (t : eqb c 10 ≡ true). clash (whole_of (first_line (c ∷ cs))) (ap whole_of (first_newline c cs t) ∙ t) w)
    (λ (t : eqb c 10 ≡ false).
    let e = first_other c cs t in
    ap (λ (l : List ℕ). drop (length l) (c ∷ cs)) e ∙ part_rest cs (sym (ap whole_of e ∙ whole_more c (first_line cs) t) ∙ w))
    (either_way (eqb c 10))

-- ---- in a piece, from a place on

module _ (piece : List ℕ) (from : ℕ) where
  pub end-le : from ≤ length piece → line_end piece from ≤ length piece
  end-le h =
      let taken = ap length (first_taken (drop from piece)) in
      let most = length-take (length (first_line (drop from piece))) (drop from piece) in
      let rest = length-drop from piece in
      omega (arith, h, taken, most, rest)

  -- every step goes on
  pub end_more : from < length piece → from < line_end piece from
  end_more h =
      let some = subst (λ (l : List ℕ). 0 < length (first_line l)) (sym (drop-cons piece from 0 h)) (first_some (at piece from) (drop (suc from) piece)) in
      omega (arith, some)

module _ (piece : List ℕ) (from : ℕ) {end : ℕ} (e : end ≡ line_end piece from) where
  line_taken : first_line (drop from piece) ≡ take (end - from) (drop from piece)
  line_taken =
      let long : length (first_line (drop from piece)) ≡ end - from = omega (arith, e) in
      sym (first_taken (drop from piece)) ∙ ap (λ (n : ℕ). take n (drop from piece)) long

  line_dropped : drop (length (first_line (drop from piece))) (drop from piece) ≡ drop end piece
  line_dropped = drop-drop (length (first_line (drop from piece))) from piece ∙ ap (λ (n : ℕ). drop n piece) (sym e)

  -- the lines from there on: the one that ends there, and those after it
  pub lines-here : from < length piece → lines_of (drop from piece) ≡ take (end - from) (drop from piece) ∷ lines_of (drop end piece)
  lines-here h =
      subst (λ (l : List ℕ). lines_of l ≡ first_line l ∷ lines_of (drop (length (first_line l)) l)) (sym (drop-cons piece from 0 h))
      (lines_first (at piece from) (drop (suc from) piece))
      ∙ (λ i. line_taken i ∷ lines_of (line_dropped i))

module _ (kept piece : List ℕ) (from : ℕ) {end : ℕ} (pieces : List (List ℕ)) (h : length kept ≤ 8301) (e : end ≡ line_end piece from) where
  -- the line is whole: it is handed out, and the cursor goes on after it with nothing kept
  pub hands_out : whole_of (take (end - from) (drop from piece)) ≡ true
      → cut_lines kept (drop from piece ∷ pieces) ≡ kept_of (kept ++ take (end - from) (drop from piece)) ∷ cut_lines [] (drop end piece ∷ pieces)
  hands_out w =
      cut_whole kept (drop from piece) pieces h (ap whole_of (line_taken piece from e) ∙ w)
      ∙ (λ i. kept_of (kept ++ line_taken piece from e i) ∷ cut_lines [] (line_dropped piece from e i ∷ pieces))

  -- it is not: it is kept, and nothing is left of the piece
  pub keeps_part : whole_of (take (end - from) (drop from piece)) ≡ false
      → cut_lines kept (drop from piece ∷ pieces) ≡ cut_lines (kept_of (kept ++ take (end - from) (drop from piece))) (drop end piece ∷ pieces)
  keeps_part w =
      let v = ap whole_of (line_taken piece from e) ∙ w in
      cut_part kept (drop from piece) pieces h v ∙ ap (λ (l : List ℕ). cut_lines (kept_of (kept ++ l)) pieces) (line_taken piece from e)
      ∙ sym (cut_empty (kept_of (kept ++ take (end - from) (drop from piece))) pieces)
      ∙ ap (λ (l : List ℕ). cut_lines (kept_of (kept ++ take (end - from) (drop from piece))) (l ∷ pieces)) (sym (part_rest (drop from piece) v) ∙ line_dropped piece from e)
