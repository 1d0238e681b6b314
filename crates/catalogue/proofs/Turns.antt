-- A part of the slots whose records moved by one place, with another record in the place that was left.
use Rattle.std.specs.Prelude.{◌≡◌, ℕ, suc, ◌+◌, ◌-◌, ◌≤◌, ◌<◌, true, false, List, [], ◌∷◌, ◌++◌, length, take, drop, get_or, set, Bool}
use Rattle.std.proofs.Common.{sym, ap, ◌∙◌, arith, append_assoc, append-nil, length-take-le, length-drop, take-append-drop, drop-cons}
use Rattle.std.proofs.lemmas.List.{take-append-le, drop-take, drop-drop}
use Rattle.std.proofs.Math.Seq.{take-append_seam}
use Rattle.entries.specs.declared.Entry.{Entry}
use Rattle.entries.specs.declared.Way.TheVariants.{Up, Down}
use Rattle.entries.specs.Blank.{blank}
use Rattle.entries.specs.Roll.{rolled}
use Rattle.entries.specs.Turned.{rolled as turned, Snoc, unsnoc, rolled_up, rolled_down}

-- one turn, upwards and downwards, of those that are left
pub turn_up : (m i : ℕ) (c : Entry) (xs : List Entry) → i < m → turned (m - (i + 1)) false (i + 1) (get_or xs i blank) (set xs i c) ≡ turned (m - i) false i c xs
unfolding turned
turn_up m i c xs l =
    let e : m - i ≡ suc (m - (i + 1)) = omega arith in
    sym (ap (λ (j : ℕ). turned j false i c xs) e)

pub turn_down : (i : ℕ) (c : Entry) (xs : List Entry) → 0 < i
    → turned (i - 1) true (i - 1 - 1) (get_or xs (i - 1) blank) (set xs (i - 1) c) ≡ turned i true (i - 1) c xs
unfolding turned
turn_down i c xs l =
    let e : i ≡ suc (i - 1) = omega arith in
    sym (ap (λ (j : ℕ). turned j true (i - 1) c xs) e)

pub turned_out : (m at : ℕ) (d : Bool) (c : Entry) (xs : List Entry) → m ≡ 0 → turned m d at c xs ≡ xs
unfolding turned
turned_out m at d c xs e = ap (λ (j : ℕ). turned j d at c xs) e

-- the turns upwards put c in front, and the last one is gone
turned_up : (xs : List Entry) (c : Entry) → 0 < length xs → turned (length xs) false 0 c xs ≡ c ∷ take (length xs - 1) xs
turned_up xs c l =
    let t : Snoc (length xs - 1) xs = unsnoc (length xs - 1) xs (omega (arith, l)) in
    let n : length xs ≡ suc (length t.front) = omega (arith, t.size) in
    let k : take (length xs - 1) xs ≡ t.front =
    ap (λ (j : ℕ). take j xs) (sym t.size) ∙ ap (take (length t.front)) t.is ∙ take-append_seam t.front (t.last ∷ []) in
    ap (λ (j : ℕ). turned j false 0 c xs) n ∙ ap (turned (suc (length t.front)) false 0 c) t.is ∙ rolled_up [] t.front c t.last []
    ∙ ap {B = List Entry} (λ (l : List Entry). c ∷ l) (append-nil t.front ∙ sym k)

-- the turns downwards put c at the end, and the first one is gone
turned_down : (xs : List Entry) (c : Entry) → 0 < length xs → turned (length xs) true (length xs - 1) c xs ≡ drop 1 xs ++ c ∷ []
turned_down [] c l = absurd (omega (arith, l))
turned_down (x ∷ xs) c l =
    let n : length (x ∷ xs) - 1 ≡ 0 + length xs = omega arith in
    ap (λ (j : ℕ). turned (suc (length xs)) true j c (x ∷ xs)) n
    ∙ ap (λ (t : List Entry). turned (suc (length xs)) true (0 + length xs) c (x ∷ t)) (sym (append-nil xs)) ∙ rolled_down [] xs c x []

-- the part from a up to b, without its last place or its first
module _ (a b : ℕ) (ys : List Entry) (l : a < b) (m : b ≤ length ys) where
  abbrev part : List Entry
  part = take (b - a) (drop a ys)

  part_length : length part ≡ b - a
  part_length = length-take-le (b - a) (drop a ys) (omega (arith, length-drop a ys))

  part_front : take (length part - 1) part ≡ take (b - a - 1) (drop a ys)
  part_front =
      ap (λ (j : ℕ). take (j - 1) part) part_length
      ∙ sym (take-append-le (b - a - 1) part (drop (b - a) (drop a ys)) (omega (arith, part_length)))
      ∙ ap (take (b - a - 1)) (take-append-drop (b - a) (drop a ys))

  part_back : drop 1 part ≡ take (b - a - 1) (drop (suc a) ys)
  part_back =
      let n : b - a ≡ 1 + (b - a - 1) = omega arith in
      ap (λ (j : ℕ). drop 1 (take j (drop a ys))) n ∙ drop-take 1 (b - a - 1) (drop a ys)
      ∙ ap (λ (t : List Entry). take (b - a - 1) (drop 1 t)) (drop-cons ys a blank (omega arith))

  rest : drop (b - a) (drop a ys) ≡ drop b ys
  rest = let n : a + (b - a) ≡ b = omega arith in drop-drop (b - a) a ys ∙ ap (λ (j : ℕ). drop j ys) n

  pub rolled_up_by : {new : List Entry} (c : Entry) → new ≡ turned (length part) false 0 c part
      → take a ys ++ (new ++ drop (b - a) (drop a ys)) ≡ rolled Up a b c ys
  rolled_up_by c e =
      ap (λ (t : List Entry). take a ys ++ (t ++ drop (b - a) (drop a ys))) (e ∙ turned_up part c (omega (arith, part_length)))
      ∙ ap (λ (t : List Entry). take a ys ++ c ∷ (t ++ drop (b - a) (drop a ys))) part_front
      ∙ ap (λ (t : List Entry). take a ys ++ c ∷ (take (b - a - 1) (drop a ys) ++ t)) rest

  pub rolled_down_by : {new : List Entry} (c : Entry) → new ≡ turned (length part) true (length part - 1) c part
      → take a ys ++ (new ++ drop (b - a) (drop a ys)) ≡ rolled Down a b c ys
  rolled_down_by c e =
      ap (λ (t : List Entry). take a ys ++ (t ++ drop (b - a) (drop a ys))) (e ∙ turned_down part c (omega (arith, part_length)))
      ∙ ap (λ (t : List Entry). take a ys ++ ((t ++ c ∷ []) ++ drop (b - a) (drop a ys))) part_back
      ∙ ap (λ (t : List Entry). take a ys ++ ((take (b - a - 1) (drop (suc a) ys) ++ c ∷ []) ++ t)) rest
      ∙ ap (λ (t : List Entry). take a ys ++ t) (append_assoc (take (b - a - 1) (drop (suc a) ys)) (c ∷ []) (drop b ys))
