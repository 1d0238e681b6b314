-- The laws of `StepLaws` for loops that go over a piece by its places: a block is n bytes from a place on, and what is kept of a line is pasted in.
use Rattle.std.specs.Prelude.{◌≡◌, refl, Bool, true, false, ◌||◌, ℕ, suc, ◌+◌, ◌-◌, ◌<◌, ◌≤◌, eqb, ltb, take, drop}
use Rattle.std.proofs.Common.{sym, ◌∙◌, length-take, length-drop, length-take-le, take_all, take-take, lt-ltb, le-ltb}
use Rattle.std.proofs.Math.Path.{ap}
use mathlib.Core.List.{List, ◌++◌}
use native.Mathlib.Omega.{arith}
use Rattle.std.proofs.Math.ListN.{length}
use Rattle.std.proofs.Math.Seq.{take-append-add, paste}
use Rattle.std.proofs.lemmas.List.Edits.{take-paste}
use Rattle.std.proofs.lemmas.Bool.{eqb-false}
use Rattle.lists.specs.Pick.{pick, pick_true, pick-false, below_or_not}
use Rattle.lists.specs.Search.{any, any_none}
use Rattle.lists.specs.Tabulate.{at}
use Rattle.line_cursor.specs.Lines.{line_end, kept_of}
use Rattle.line_cursor.specs.StepLaws.{end-run, smaller_le}

-- ---- a newline within a block

-- one of the n bytes from place a on is a newline
abbrev pub newline_within : List ℕ → ℕ → ℕ → Bool
newline_within piece a n = any (λ i. eqb (at piece (a + i)) 10) n

pub within_none : (piece : List ℕ) (a : ℕ) → false ≡ newline_within piece a 0
unfolding any
within_none piece a = refl

or_is : (a b : Bool) → a || b ≡ pick a true b
or_is true b = refl
or_is false b = refl

pub within_turn : (piece : List ℕ) (a i : ℕ) {found : Bool} → found ≡ newline_within piece a i → eqb (at piece (a + i)) 10 || found ≡ newline_within piece a (i + 1)
unfolding any
within_turn piece a i {found} e =
    or_is (eqb (at piece (a + i)) 10) found ∙ ap (pick (eqb (at piece (a + i)) 10) true) e ∙ ap (newline_within piece a) (let q : suc i ≡ i + 1 = omega arith in q)

-- ---- where a line ends

module _ (piece : List ℕ) where
  -- a block that has no newline
  pub end-block : (a n : ℕ) → a + n ≤ length piece → newline_within piece a n ≡ false → line_end piece a ≡ line_end piece (a + n)
  end-block a n h w =
      end-run piece a n h (λ i b. eqb-false (at piece (a + i)) 10 (any_none (λ k. eqb (at piece (a + k)) 10) n w i b))

-- ---- what is kept

-- what is appended where there is room for n
append_room : (begins s : List ℕ) (m n : ℕ) → length begins + n ≡ 8301 → kept_of (begins ++ take m s) ≡ begins ++ take (pick (ltb m n) m n) s
append_room begins s m n e =
    ap (λ (k : ℕ). take k (begins ++ take m s)) (sym e) ∙ take-append-add begins (take m s) n
    ∙ ap (λ (l : List ℕ). begins ++ l)
    (below_or_not m n
    (λ (h : m < n).
    let short = length-take m s in
    take_all n (take m s) (omega (arith, h, short)) ∙ ap (λ (k : ℕ). take k s) (sym (pick_true (ltb m n) m n (lt-ltb m n h))))
    (λ (h : n ≤ m). take-take n m s h ∙ ap (λ (k : ℕ). take k s) (sym (pick-false (ltb m n) m n (le-ltb m n h)))))

-- all that was to be kept
module _ (piece line : List ℕ) (from end held : ℕ) {count : ℕ} {l : List ℕ} (h : (from ≤ end) × (end ≤ length piece) × (length line ≡ 8301) × (held ≤ 8301))
    (e : count ≡ pick (ltb (end - from) (8301 - held)) (end - from) (8301 - held)) (p : l ≡ paste line held (drop from piece) count) where
  pub keep_beginning : take (held + count) l ≡ kept_of (take held line ++ take (end - from) (drop from piece))
  keep_beginning =
      let rest = length-drop from piece in
      let most = smaller_le (end - from) (8301 - held) e in
      let long = length-take-le held line (omega (arith, h)) in
      ap (take (held + count)) p ∙ take-paste line held (drop from piece) count (omega (arith, h)) (omega (arith, h, rest, most))
      ∙ ap (λ (k : ℕ). take held line ++ take k (drop from piece)) e
      ∙ sym (append_room (take held line) (drop from piece) (end - from) (8301 - held) (omega (arith, h, long)))

  pub keep_held : length l ≡ 8301 → held + count ≡ length (kept_of (take held line ++ take (end - from) (drop from piece)))
  keep_held long =
      let most = smaller_le (end - from) (8301 - held) e in
      sym (length-take-le (held + count) l (omega (arith, h, most, long))) ∙ ap length keep_beginning
