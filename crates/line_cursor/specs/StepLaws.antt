-- What each turn of the code's loops adds: to where a line ends, to whether it is whole, and to what is kept of it.
use Rattle.std.specs.Prelude.{◌≡◌, refl, Bool, true, false, ◌||◌, ℕ, zero, suc, min, ◌+◌, ◌-◌, ◌<◌, ◌≤◌, eqb, ltb, set, take, drop}
use Rattle.std.proofs.Common.{sym, ◌∙◌, drop_of_length-le, length-take, length-drop, length-append, drop-cons, length-take-le, get_or-take, get_or-drop, take_all, take-take, eq-eqb, ne_eqb}
use Rattle.std.proofs.Math.Path.{ap}
use mathlib.Core.List.{List, ◌++◌}
use native.Mathlib.Omega.{arith}
use Rattle.std.proofs.Math.ListN.{length, get_or-append}
use Rattle.std.proofs.Math.Seq.{take-append-add, paste, paste-suc}
use Rattle.std.proofs.lemmas.Bool.{eqb-false}
use Rattle.std.proofs.Math.Nat.{min-eq_left, min-eq_right}
use Rattle.std.proofs.Common.{rules, drop-drop, lt-ltb, le-ltb}
use Rattle.std.proofs.lemmas.List.{places, drop_at}
use Rattle.std.proofs.lemmas.Slice.{take-put_mid}
use borrow.Rule.Slice.PartMut.{put_mid}
use Rattle.lists.specs.Pick.{pick, pick_true, pick-false, below_or_not}
use Rattle.lists.specs.Search.{any, any_none}
use Rattle.lists.specs.Tabulate.{at}
use Rattle.line_cursor.specs.Lines.{first_line, whole_of, line_end, NoNewline, newline_within, kept_of}
use Rattle.line_cursor.specs.LineLaws.{first_newline, first_other}

-- ---- a newline among the first n bytes

pub within_none : (bytes : List ℕ) → false ≡ newline_within bytes 0
unfolding any
within_none bytes = refl

or_is : (a b : Bool) → b || a ≡ pick a true b
or_is true true = refl
or_is true false = refl
or_is false true = refl
or_is false false = refl

pub within_turn : (bytes : List ℕ) (i : ℕ) {found : Bool} → found ≡ newline_within bytes i → found || eqb (at bytes i) 10 ≡ newline_within bytes (i + 1)
unfolding any
within_turn bytes i {found} e =
    or_is (eqb (at bytes i) 10) found ∙ ap (pick (eqb (at bytes i) 10) true) e ∙ ap (newline_within bytes) (let q : suc i ≡ i + 1 = omega arith in q)

-- ---- where a line ends

module _ (piece : List ℕ) where
  pub end_newline : (a : ℕ) → a < length piece → at piece a ≡ 10 → a + 1 ≡ line_end piece a
  end_newline a h e =
      ap (λ (l : List ℕ). a + length l) (sym (first_newline (at piece a) (drop (suc a) piece) (eq-eqb (at piece a) 10 e)))
      ∙ ap (λ (l : List ℕ). a + length (first_line l)) (sym (drop-cons piece a 0 h))

  pub end-other : (a : ℕ) → a < length piece → (at piece a ≡ 10 → ⊥) → line_end piece a ≡ line_end piece (a + 1)
  end-other a h n =
      let next : suc a ≡ a + 1 = omega arith in
      let more : a + suc (length (first_line (drop (suc a) piece))) ≡ suc a + length (first_line (drop (suc a) piece)) = omega arith in
      ap (λ (l : List ℕ). a + length (first_line l)) (drop-cons piece a 0 h)
      ∙ ap (λ (l : List ℕ). a + length l) (first_other (at piece a) (drop (suc a) piece) (ne_eqb (at piece a) 10 n))
      ∙ more ∙ ap (line_end piece) next

  pub end-all : (a : ℕ) → length piece ≤ a → a ≡ line_end piece a
  unfolding first_line
  end-all a h =
      let none : a ≡ a + 0 = omega arith in
      none ∙ ap (λ (l : List ℕ). a + length (first_line l)) (sym (drop_of_length-le piece h))

  pub end-run : (a n : ℕ) → a + n ≤ length piece → ((i : ℕ) → i < n → at piece (a + i) ≡ 10 → ⊥) → line_end piece a ≡ line_end piece (a + n)
  end-run a zero h f = ap (line_end piece) (let q : a ≡ a + 0 = omega arith in q)
  end-run a (suc n) h f =
      end-run a n (omega (arith, h)) (λ i b. f i (omega (arith, b))) ∙ end-other (a + n) (omega (arith, h)) (f n (omega arith))
      ∙ ap (line_end piece) (let q : a + n + 1 ≡ a + suc n = omega arith in q)

  -- a block, and what is left after it
  module _ (a n : ℕ) (block rest : List ℕ) (e : drop a piece ≡ block ++ rest) (q : length block ≡ n) where
    pub block_rest : rest ≡ drop (a + n) piece
    block_rest = sym (drop_at block rest n q) ∙ ap (drop n) (sym e) ∙ drop-drop n a piece

    pub block_room : a ≤ length piece → a + n ≤ length piece
    block_room h = let long = ap length e in omega (arith, h, q, long, length-drop a piece, length-append block rest)

    -- a block that has no newline
    pub end-block : a ≤ length piece → newline_within block (length block) ≡ false → line_end piece a ≡ line_end piece (a + n)
    end-block h w =
        end-run a n (block_room h)
        (λ i b r.
        let k : i < length block = omega (arith, b, q) in
        eqb-false (at block i) 10 (any_none (λ j. eqb (at block j) 10) (length block) w i k)
        (sym (get_or-append block rest 0 i k) ∙ ap (λ (l : List ℕ). at l i) (sym e) ∙ get_or-drop a piece i 0 ∙ r))

  -- the bytes from a place on, by their first newline
  pub end-first : (a i : ℕ) {bytes : List ℕ} → bytes ≡ drop a piece → i < length bytes → at bytes i ≡ 10 → NoNewline bytes i → a + i + 1 ≡ line_end piece a
  end-first a i {bytes} e h q f =
      let long = ap length e in
      let room : a + i < length piece = omega (arith, h, long, length-drop a piece) in
      end_newline (a + i) room (sym (at_byte i) ∙ q)
      ∙ sym (end-run a i (omega (arith, room)) (λ k b r. f k b (at_byte k ∙ r)))
    where
      at_byte : (k : ℕ) → at bytes k ≡ at piece (a + k)
      at_byte k = ap (λ (l : List ℕ). at l k) e ∙ get_or-drop a piece k 0

  pub end-last : (a : ℕ) {bytes : List ℕ} → a ≤ length piece → bytes ≡ drop a piece → NoNewline bytes (length bytes) → length piece ≡ line_end piece a
  end-last a {bytes} h e f =
      let long : length bytes ≡ length piece - a = ap length e ∙ length-drop a piece in
      let whole : a + length bytes ≡ length piece = omega (arith, h, long) in
      end-all (length piece) (omega arith) ∙ ap (line_end piece) (sym whole)
      ∙ sym (end-run a (length bytes) (omega (arith, whole)) (λ k b r. f k b (ap (λ (l : List ℕ). at l k) e ∙ get_or-drop a piece k 0 ∙ r)))

-- ---- whether a line is whole

module _ (piece : List ℕ) (from end : ℕ) where
  pub whole-none : end ≤ from → false ≡ whole_of (take (end - from) (drop from piece))
  whole-none h = ap (λ (n : ℕ). whole_of (take n (drop from piece))) (let q : 0 ≡ end - from = omega (arith, h) in q)

  pub whole_by_last : from < end → end ≤ length piece → eqb (at piece (end - 1)) 10 ≡ whole_of (take (end - from) (drop from piece))
  whole_by_last h k =
      let rest = length-drop from piece in
      let long = length-take-le (end - from) (drop from piece) (omega (arith, rest, k)) in
      let place : from + (end - from - 1) ≡ end - 1 = omega (arith, h) in
      ap (λ (c : ℕ). eqb c 10)
      (sym
      (ap (λ (n : ℕ). at (take (end - from) (drop from piece)) (n - 1)) long ∙ get_or-take (end - from) (drop from piece) (end - from - 1) 0 (omega (arith, h))
      ∙ get_or-drop from piece (end - from - 1) 0 ∙ ap (at piece) place))

-- ---- what is kept

-- one byte more
pub keep_turn : (piece line : List ℕ) (from held i : ℕ) {l : List ℕ} → held + i < length line → from + i < length piece → l ≡ paste line held (drop from piece) i
    → set l (held + i) (at piece (from + i)) ≡ paste line held (drop from piece) (i + 1)
keep_turn piece line from held i {l} h k e =
    let rest = length-drop from piece in
    let next : suc i ≡ i + 1 = omega arith in
    (λ j. set (e j) (held + i) (sym (get_or-drop from piece i 0) j)) ∙ paste-suc line held (drop from piece) i 0 h (omega (arith, rest, k))
    ∙ ap (paste line held (drop from piece)) next

-- what is appended where there is room for n
append_room : (begins s : List ℕ) (m n : ℕ) → length begins + n ≡ 8301 → kept_of (begins ++ take m s) ≡ begins ++ take (min m n) s
append_room begins s m n e =
    ap (λ (k : ℕ). take k (begins ++ take m s)) (sym e) ∙ take-append-add begins (take m s) n
    ∙ ap (λ (l : List ℕ). begins ++ l)
    (below_or_not m n
    (λ (h : m < n).
    let short = length-take m s in
    take_all n (take m s) (omega (arith, h, short)) ∙ ap (λ (k : ℕ). take k s) (sym (min-eq_left (omega arith))))
    (λ (h : n ≤ m). take-take n m s h ∙ ap (λ (k : ℕ). take k s) (sym (min-eq_right h))))

-- the smaller of two is at most either
pub smaller_le : (a b : ℕ) {c : ℕ} → c ≡ pick (ltb a b) a b → (c ≤ a) × (c ≤ b)
smaller_le a b {c} e =
    below_or_not a b (λ (h : a < b). let q = e ∙ pick_true (ltb a b) a b (lt-ltb a b h) in (omega (arith, q), omega (arith, q, h)))
    (λ (h : b ≤ a). let q = e ∙ pick-false (ltb a b) a b (le-ltb a b h) in (omega (arith, q, h), omega (arith, q)))

-- all that was to be kept
module _ (piece line : List ℕ) (from end held : ℕ) (k : ℕ) {count : ℕ} {part : List ℕ} (h : (from ≤ end) × (end ≤ length piece) × (length line ≡ 8301) × (held ≤ 8301))
    (e : count ≡ min (end - from) (8301 - held)) (q : k ≡ count) (p : part ≡ take count (drop from piece)) where
  count_le : (count ≤ end - from) × (count ≤ 8301 - held)
  count_le =
      below_or_not (end - from) (8301 - held)
      (λ (b : end - from < 8301 - held). let r = e ∙ min-eq_left (omega arith) in (omega (arith, r), omega (arith, r, b)))
      (λ (b : 8301 - held ≤ end - from). let r = e ∙ min-eq_right b in (omega (arith, r, b), omega (arith, r)))

  part_length : length part ≡ count
  part_length = ap length p ∙ length-take-le count (drop from piece) (let rest = length-drop from piece in omega (arith, h, rest, count_le))

  pub keep_beginning : take (held + count) (put_mid held k line part) ≡ kept_of (take held line ++ take (end - from) (drop from piece))
  keep_beginning =
      let long = length-take-le held line (omega (arith, h)) in
      take-put_mid held k line part (held + count) (let r = part_length in omega (arith, r)) (omega (arith, h))
      ∙ ap (λ (l : List ℕ). take held line ++ l) (p ∙ ap (λ (m : ℕ). take m (drop from piece)) e)
      ∙ sym (append_room (take held line) (drop from piece) (end - from) (8301 - held) (omega (arith, h, long)))

  pub keep_room : (held + count ≤ 8301) × (length (put_mid held k line part) ≡ 8301)
  keep_room =
      let most : held + count ≤ 8301 = omega (arith, h, count_le) in
      let long = part_length in
      let whole : length line ≡ 8301 = h.2 in
      (most, search (rules, places))

  pub keep_held : held + count ≡ length (kept_of (take held line ++ take (end - from) (drop from piece)))
  keep_held = sym (length-take-le (held + count) (put_mid held k line part) (omega (arith, keep_room))) ∙ ap length keep_beginning
