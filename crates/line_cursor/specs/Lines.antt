-- The lines of a text, and the lines that a cursor hands out over the pieces of one. A line is held with its newline (10).
use Rattle.std.specs.Prelude.{◌≡◌, Bool, List, [], ◌∷◌, ◌++◌, ℕ, ◌+◌, ◌-◌, ◌<◌, eqb, ltb, length, take, drop}
use Rattle.lists.specs.Pick.{pick}
use Rattle.lists.specs.Search.{any}
use Rattle.lists.specs.Tabulate.{at}

-- ---- lines

-- the bytes up to the first newline, with it; all of them where there is none
unfoldable pub first_line : List ℕ → List ℕ
first_line [] = []
first_line (c ∷ cs) = pick (eqb c 10) (c ∷ []) (c ∷ first_line cs)

-- a character before the lines that follow: it begins the first of them
abbrev pub begun : ℕ → List (List ℕ) → List (List ℕ)
begun c [] = (c ∷ []) ∷ []
begun c (l ∷ ls) = (c ∷ l) ∷ ls

-- a text as lines, each with its newline; the last may lack it
unfoldable pub lines_of : List ℕ → List (List ℕ)
lines_of [] = []
lines_of (c ∷ cs) = pick (eqb c 10) ((c ∷ []) ∷ lines_of cs) (begun c (lines_of cs))

-- pieces, or lines, one after another
abbrev pub joined : List (List ℕ) → List ℕ
joined [] = []
joined (l ∷ ls) = l ++ joined ls

-- a line has its newline
abbrev pub whole_of : List ℕ → Bool
whole_of line = eqb (at line (length line - 1)) 10

-- where the line that begins at place `from` of a piece ends there
abbrev pub line_end : List ℕ → ℕ → ℕ
line_end piece from = from + length (first_line (drop from piece))

-- one of the first n bytes is a newline
abbrev pub newline_within : List ℕ → ℕ → Bool
newline_within bytes n = any (λ i. eqb (at bytes i) 10) n

-- none of the first n bytes is a newline
abbrev pub NoNewline : List ℕ → ℕ → Type 0
NoNewline bytes n = (k : ℕ) → k < n → at bytes k ≡ 10 → ⊥

-- ---- the cursor

-- what is kept of a line. "Lines have at most 8,300 bytes before the newline; a longer one is malformed up to its newline."
abbrev pub kept_of : List ℕ → List ℕ
kept_of line = take 8301 line

-- a byte is added to what is kept while that is shorter than 8,301
abbrev pub kept_with : List ℕ → ℕ → List ℕ
kept_with kept c = pick (ltb (length kept) 8301) (kept ++ c ∷ []) kept

-- a last line without its newline, where one is underway
abbrev pub last_of : List ℕ → List (List ℕ)
last_of [] = []
last_of (c ∷ cs) = (c ∷ cs) ∷ []

-- the lines handed out in a piece, `kept` being kept of the one underway, and then what `rest` hands out with what is kept at the piece's end
unfoldable pub cut_piece : (List ℕ → List (List ℕ)) → List ℕ → List ℕ → List (List ℕ)
cut_piece rest kept [] = rest kept
cut_piece rest kept (c ∷ cs) = pick (eqb c 10) (kept_with kept c ∷ cut_piece rest [] cs) (cut_piece rest (kept_with kept c) cs)

-- the lines that a cursor hands out over pieces, `kept` being kept of the line underway
unfoldable pub cut_lines : List ℕ → List (List ℕ) → List (List ℕ)
cut_lines kept [] = last_of kept
cut_lines kept (piece ∷ pieces) = cut_piece (λ k. cut_lines k pieces) kept piece
