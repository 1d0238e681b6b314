-- Lines: the first and the others, that joined again they are the text, and that no newline stands before a line's last place.
use Rattle.std.specs.Prelude.{◌≡◌, refl, true, false, List, [], ◌∷◌, ◌++◌, ℕ, zero, suc, ◌+◌, ◌-◌, ◌<◌, eqb, length, get_or, drop}
use Rattle.std.proofs.Common.{sym, ap, ◌∙◌, subst, ⊎_elim, arith, eq-eqb, ne_eqb}
use Rattle.std.proofs.lemmas.Bool.{eqb-false}
use Rattle.lists.specs.Pick.{pick_true, pick-false, either_way}
use Rattle.lists.specs.Tabulate.{at}
use Rattle.line_cursor.specs.Lines.{first_line, begun, lines_of, joined}

-- ---- a byte more

pub no_first : first_line [] ≡ []
unfolding first_line
no_first = refl

pub first_newline : (c : ℕ) (cs : List ℕ) → eqb c 10 ≡ true → first_line (c ∷ cs) ≡ c ∷ []
unfolding first_line
first_newline c cs t = pick_true (eqb c 10) (c ∷ []) (c ∷ first_line cs) t

pub first_other : (c : ℕ) (cs : List ℕ) → eqb c 10 ≡ false → first_line (c ∷ cs) ≡ c ∷ first_line cs
unfolding first_line
first_other c cs t = pick-false (eqb c 10) (c ∷ []) (c ∷ first_line cs) t

pub lines_newline : (c : ℕ) (cs : List ℕ) → eqb c 10 ≡ true → lines_of (c ∷ cs) ≡ (c ∷ []) ∷ lines_of cs
unfolding lines_of
lines_newline c cs t = pick_true (eqb c 10) ((c ∷ []) ∷ lines_of cs) (begun c (lines_of cs)) t

pub lines_other : (c : ℕ) (cs : List ℕ) → eqb c 10 ≡ false → lines_of (c ∷ cs) ≡ begun c (lines_of cs)
unfolding lines_of
lines_other c cs t = pick-false (eqb c 10) ((c ∷ []) ∷ lines_of cs) (begun c (lines_of cs)) t

-- ---- the first line, and the others

pub no_lines : lines_of [] ≡ []
unfolding lines_of
no_lines = refl

-- the first line of a text, and the lines after it
abbrev first_and_rest : List ℕ → List ℕ → List (List ℕ)
first_and_rest text line = line ∷ lines_of (drop (length line) text)

by_first : (c : ℕ) (cs : List ℕ) → begun c (lines_of cs) ≡ first_and_rest (c ∷ cs) (c ∷ first_line cs) → lines_of (c ∷ cs) ≡ first_and_rest (c ∷ cs) (first_line (c ∷ cs))
by_first c cs e =
    ⊎_elim
    (λ (t : eqb c 10 ≡ true). lines_newline c cs t ∙ ap (first_and_rest (c ∷ cs)) (sym (first_newline c cs t)))
    (λ (t : eqb c 10 ≡ false). lines_other c cs t ∙ e ∙ ap (first_and_rest (c ∷ cs)) (sym (first_other c cs t)))
    (either_way (eqb c 10))

alone : (c : ℕ) → begun c (lines_of []) ≡ first_and_rest (c ∷ []) (c ∷ first_line [])
unfolding lines_of first_line
alone c = refl

pub lines_first : (c : ℕ) (cs : List ℕ) → lines_of (c ∷ cs) ≡ first_line (c ∷ cs) ∷ lines_of (drop (length (first_line (c ∷ cs))) (c ∷ cs))
lines_first c [] = by_first c [] (alone c)
lines_first c (d ∷ ds) = by_first c (d ∷ ds) (ap (begun c) (lines_first d ds))

-- ---- joined again: nothing of the text is lost or moved

begun-joined : (c : ℕ) (ls : List (List ℕ)) → joined (begun c ls) ≡ c ∷ joined ls
begun-joined c [] = refl
begun-joined c (l ∷ ls) = refl

pub lines-joined : (text : List ℕ) → joined (lines_of text) ≡ text
lines-joined [] = ap joined no_lines
lines-joined (c ∷ cs) =
    ⊎_elim
    (λ (t : eqb c 10 ≡ true). ap joined (lines_newline c cs t) ∙ ap (λ (l : List ℕ). c ∷ l) (lines-joined cs))
    (λ (t : eqb c 10 ≡ false).
    ap joined (lines_other c cs t) ∙ begun-joined c (lines_of cs) ∙ ap (λ (l : List ℕ). c ∷ l) (lines-joined cs))
    (either_way (eqb c 10))

-- ---- no place of a line but the last holds a newline

abbrev pub NewlineLast : List ℕ → Type 0
NewlineLast line = (i : ℕ) → i + 1 < length line → at line i ≡ 10 → ⊥

-- each of the lines
abbrev AllLast : List (List ℕ) → Type 0
AllLast ls = (k : ℕ) → NewlineLast (get_or ls k [])

last_newline : (c : ℕ) (ls : List (List ℕ)) → AllLast ls → AllLast ((c ∷ []) ∷ ls)
last_newline c ls a zero i h e = absurd (omega (arith, h))
last_newline c ls a (suc k) i h e = a k i h e

last_begun : (c : ℕ) (ls : List (List ℕ)) → (c ≡ 10 → ⊥) → AllLast ls → AllLast (begun c ls)
last_begun c [] n a zero i h e = absurd (omega (arith, h))
last_begun c [] n a (suc k) i h e = absurd (omega (arith, h))
last_begun c (l ∷ ls) n a zero zero h e = n e
last_begun c (l ∷ ls) n a zero (suc i) h e = a zero i (omega (arith, h)) e
last_begun c (l ∷ ls) n a (suc k) i h e = a (suc k) i h e

pub lines_newline_last : (text : List ℕ) (k : ℕ) → NewlineLast (get_or (lines_of text) k [])
lines_newline_last [] = subst AllLast (sym no_lines) (λ k i h e. absurd (omega (arith, h)))
lines_newline_last (c ∷ cs) =
    ⊎_elim
    (λ (t : eqb c 10 ≡ true). subst AllLast (sym (lines_newline c cs t)) (last_newline c (lines_of cs) (lines_newline_last cs)))
    (λ (t : eqb c 10 ≡ false). subst AllLast (sym (lines_other c cs t)) (last_begun c (lines_of cs) (eqb-false c 10 t) (lines_newline_last cs)))
    (either_way (eqb c 10))

first_is : (text : List ℕ) → get_or (lines_of text) 0 [] ≡ first_line text
first_is [] = ap (λ (ls : List (List ℕ)). get_or ls 0 []) no_lines ∙ sym no_first
first_is (c ∷ cs) = ap (λ (ls : List (List ℕ)). get_or ls 0 []) (lines_first c cs)

pub newline_last : (text : List ℕ) → NewlineLast (first_line text)
newline_last text = subst NewlineLast (first_is text) (lines_newline_last text 0)

-- and a text that begins with a line has it for its first
pub line_before : (line rest : List ℕ) → 0 < length line → NewlineLast line → at line (length line - 1) ≡ 10 → lines_of (line ++ rest) ≡ line ∷ lines_of rest
line_before [] rest h a e = absurd (omega (arith, h))
line_before (c ∷ []) rest h a e = lines_newline c rest (eq-eqb c 10 e)
line_before (c ∷ d ∷ ds) rest h a e =
    let q : length (c ∷ d ∷ ds) - 1 ≡ suc (length (d ∷ ds) - 1) = omega arith in
    lines_other c (d ∷ (ds ++ rest)) (ne_eqb c 10 (a zero (omega arith)))
    ∙ ap (begun c) (line_before (d ∷ ds) rest (omega arith) (λ i k. a (suc i) (omega (arith, k))) (sym (ap (at (c ∷ d ∷ ds)) q) ∙ e))
