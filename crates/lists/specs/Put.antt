-- A text put at a place of a list, the rest of which stays; texts put one after another.
use Rattle.std.specs.Prelude.{◌≡◌, refl, List, [], ◌∷◌, ◌++◌, ℕ, ◌+◌, ◌-◌, ◌≤◌, ◌<◌, length, set, take, drop}
use Rattle.std.proofs.Common.{sym, ap, ◌∙◌, arith, length-append, length-drop, ext_get_or, get_or-append-add, get_or-take, get_or-drop, length-take-le}
use Rattle.std.proofs.Math.ListN.{get_or-append}
use Rattle.lists.specs.Pick.{below_or_not}
use Rattle.lists.specs.Span.{Span, span_none, span_step, span_join, span_to}
use Rattle.lists.specs.Tabulate.{at}

abbrev pub Put : ℕ → List ℕ → List ℕ → List ℕ → Type 0
Put a text old new = Span (λ x. at text (x - a)) a (a + length text) old new

-- one character
pub put_one : (a v : ℕ) (l : List ℕ) → a < length l → Put a (v ∷ []) l (set l a v)
put_one a v l h =
    span_step (λ x. at (v ∷ []) (x - a)) a a l v (omega arith) h refl (span_none (λ x. at (v ∷ []) (x - a)) a l refl)
    (ap (at (v ∷ [])) (let z : 0 ≡ a - a = omega arith in z))

pub put_join : (a b : ℕ) (xs ys : List ℕ) {l m n : List ℕ} → b ≡ a + length xs → Put a xs l m → Put b ys m n → Put a (xs ++ ys) l n
put_join a b xs ys {l} {m} {n} q s t =
    span_to (b + length ys) (a + length (xs ++ ys)) (let z = length-append xs ys in omega (arith, q, z))
    (span_join (λ x. at xs (x - a)) (λ x. at ys (x - b)) (λ x. at (xs ++ ys) (x - a)) a b (b + length ys) (omega (arith, q)) (omega arith)
    (span_to (a + length xs) b (sym q) s) t
    (λ x h k. sym (get_or-append xs ys 0 (x - a) (omega (arith, q, h, k))))
    (λ x h k. let e : length xs + (x - b) ≡ x - a = omega (arith, q, h) in sym (get_or-append-add xs ys (x - b) 0) ∙ ap (at (xs ++ ys)) e))

-- nothing is put where there is no text
pub put_none : (a : ℕ) (l : List ℕ) → Put a [] l l
put_none a l = span_none (λ x. at [] (x - a)) a l (omega arith)

-- what stood before the text, the text, and what stood after it
pub put_at : (a : ℕ) (text : List ℕ) {l m : List ℕ} → a + length text ≤ length l → Put a text l m → m ≡ take a l ++ (text ++ drop (a + length text) l)
put_at a text {l} {m} h s = ext_get_or 0 m (take a l ++ rest) same (λ i b. below_or_not i a (early i) (λ (k : a ≤ i). late i k))
  where
    rest : List ℕ
    rest = text ++ drop (a + length text) l

    first : length (take a l) ≡ a
    first = length-take-le a l (omega (arith, h))

    same : length m ≡ length (take a l ++ rest)
    same =
        let b = length-append (take a l) rest in
        let c = length-append text (drop (a + length text) l) in
        let d = length-drop (a + length text) l in
        let e = s.len in
        omega (arith, b, c, d, e, first, h)

    early : (i : ℕ) → i < a → at m i ≡ at (take a l ++ rest) i
    early i k = s.before i k ∙ sym (get_or-append (take a l) rest 0 i (omega (arith, first, k)) ∙ get_or-take a l i 0 k)

    -- past the first part, by the place in the second
    shifted : (i : ℕ) → a ≤ i → at (take a l ++ rest) i ≡ at rest (i - a)
    shifted i k = let e : i ≡ length (take a l) + (i - a) = omega (arith, first, k) in ap (at (take a l ++ rest)) e ∙ get_or-append-add (take a l) rest (i - a) 0

    late : (i : ℕ) → a ≤ i → at m i ≡ at (take a l ++ rest) i
    late i k =
        below_or_not i (a + length text)
        (λ (b : i < a + length text). s.done i k b ∙ sym (shifted i k ∙ get_or-append text (drop (a + length text) l) 0 (i - a) (omega (arith, k, b))))
        (λ (b : a + length text ≤ i).
        let e : i - a ≡ length text + (i - (a + length text)) = omega (arith, k, b) in
        let f : a + length text + (i - (a + length text)) ≡ i = omega (arith, b) in
        s.after i b
        ∙ sym (shifted i k ∙ ap (at rest) e ∙ get_or-append-add text (drop (a + length text) l) (i - (a + length text)) 0
        ∙ get_or-drop (a + length text) l (i - (a + length text)) 0 ∙ ap (at l) f))

-- at the beginning: the text, and then the rest of the list
pub put_first : (text : List ℕ) {l m : List ℕ} → length text ≤ length l → Put 0 text l m → m ≡ text ++ drop (length text) l
put_first text {l} {m} h s =
    let e : 0 + length text ≡ length text = omega arith in
    put_at 0 text (omega (arith, h)) s ∙ ap (λ (n : ℕ). text ++ drop n l) e
