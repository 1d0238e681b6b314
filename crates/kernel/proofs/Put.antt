-- A part of a list of bytes replaced by as many others, told byte by byte.
use Rattle.std.specs.Prelude.{◌≡◌, List, ◌++◌, ℕ, ◌+◌, ◌-◌, ◌<◌, ◌≤◌, length, get_or, take, drop}
use Rattle.std.proofs.Common.{arith, length-append, length-drop, length-take-le}
use Rattle.std.proofs.lemmas.List.{places}
use Rattle.lists.specs.Span.{Span}

-- the m elements of `l` from a on replaced by those of `b`
abbrev pub put : ℕ → ℕ → List ℕ → List ℕ → List ℕ
put a m l b = take a l ++ (b ++ drop m (drop a l))

pub length-put : (a m : ℕ) (l b : List ℕ) → a + m ≤ length l → length b ≡ m → length (put a m l b) ≡ length l
length-put a m l b h e = grind (arith, length-append, length-drop, length-take-le, places)

pub put_in : (a m : ℕ) (l b : List ℕ) (y : ℕ) → a + m ≤ length l → length b ≡ m → a ≤ y → y < a + m → get_or (put a m l b) y 0 ≡ get_or b (y - a) 0
put_in a m l b y h e i j = search (arith, places)

pub put_before : (a m : ℕ) (l b : List ℕ) (y : ℕ) → a + m ≤ length l → length b ≡ m → y < a → get_or (put a m l b) y 0 ≡ get_or l y 0
put_before a m l b y h e i = search (arith, places)

pub put_after : (a m : ℕ) (l b : List ℕ) (y : ℕ) → a + m ≤ length l → length b ≡ m → a + m ≤ y → get_or (put a m l b) y 0 ≡ get_or l y 0
put_after a m l b y h e i = search (arith, places)

pub put_span : (a m : ℕ) (l b : List ℕ) → a + m ≤ length l → length b ≡ m → Span (λ y. get_or b (y - a) 0) a (a + m) l (put a m l b)
put_span a m l b h e =
    record {
      len = length-put a m l b h e;
      done = λ y i j. put_in a m l b y h e i j;
      before = λ y i. put_before a m l b y h e i;
      after = λ y i. put_after a m l b y h e i;
    }
