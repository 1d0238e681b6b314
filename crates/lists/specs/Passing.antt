-- The elements of a list that pass a test, in their order; and a list with other elements in its first places.
use Rattle.std.specs.Prelude.{◌≡◌, refl, Bool, true, false, List, [], ◌∷◌, ◌++◌, ℕ, zero, suc, ◌<◌, length, drop, replicate}
use Rattle.std.proofs.Common.{ap, ◌∙◌, arith}
use Rattle.lists.specs.Pick.{pick, clash}
use Rattle.lists.specs.Tabulate.{tabulate, zeros}

module _ {A : Type 0} where
  abbrev pub passing : (A → Bool) → List A → List A
  passing p [] = []
  passing p (x ∷ xs) = pick (p x) (x ∷ passing p xs) (passing p xs)

  -- the list has an element
  abbrev pub nonempty : List A → Bool
  nonempty [] = false
  nonempty (x ∷ xs) = true

  -- ys, with zs in its first places
  abbrev pub over : List A → List A → List A
  over zs ys = zs ++ drop (length zs) ys

  -- ---- one element at the front

  pub passing_yes : (p : A → Bool) (x : A) (xs : List A) → p x ≡ true → passing p (x ∷ xs) ≡ x ∷ passing p xs
  passing_yes p x xs e = ap (λ (b : Bool). pick b (x ∷ passing p xs) (passing p xs)) e

  pub passing_no : (p : A → Bool) (x : A) (xs : List A) → p x ≡ false → passing p (x ∷ xs) ≡ passing p xs
  passing_no p x xs e = ap (λ (b : Bool). pick b (x ∷ passing p xs) (passing p xs)) e

  pub nonempty_pos : (xs : List A) → nonempty xs ≡ true → 0 < length xs
  nonempty_pos [] e = clash false e refl
  nonempty_pos (x ∷ xs) e = omega arith

  -- ---- two lists, one after the other

  append-on : (b : Bool) (x : A) (xs ys zs : List A) → xs ≡ ys ++ zs → pick b (x ∷ xs) xs ≡ pick b (x ∷ ys) ys ++ zs
  append-on true x xs ys zs e = ap {B = List A} (λ t. x ∷ t) e
  append-on false x xs ys zs e = e

  pub passing-append : (p : A → Bool) (xs ys : List A) → passing p (xs ++ ys) ≡ passing p xs ++ passing p ys
  passing-append p [] ys = refl
  passing-append p (x ∷ xs) ys = append-on (p x) x (passing p (xs ++ ys)) (passing p xs) (passing p ys) (passing-append p xs ys)

  -- ---- two tests, one after the other

  none-on : (b : Bool) (q : A → Bool) (x : A) (xs : List A) → (b ≡ true → q x ≡ false) → passing q xs ≡ [] → passing q (pick b (x ∷ xs) xs) ≡ []
  none-on true q x xs h e = passing_no q x xs (h refl) ∙ e
  none-on false q x xs h e = e

  pub passing-none : (p q : A → Bool) (xs : List A) → ((x : A) → p x ≡ true → q x ≡ false) → passing q (passing p xs) ≡ []
  passing-none p q [] h = refl
  passing-none p q (x ∷ xs) h = none-on (p x) q x (passing p xs) (h x) (passing-none p q xs h)

  stronger_on : (p : A → Bool) (a b : Bool) (x : A) (qs xs : List A) → p x ≡ b → (b ≡ true → a ≡ true) → passing p qs ≡ passing p xs
      → passing p (pick a (x ∷ qs) qs) ≡ pick b (x ∷ passing p xs) (passing p xs)
  stronger_on p true true x qs xs e h i = passing_yes p x qs e ∙ ap {B = List A} (λ t. x ∷ t) i
  stronger_on p true false x qs xs e h i = passing_no p x qs e ∙ i
  stronger_on p false true x qs xs e h i = clash false (h refl) refl
  stronger_on p false false x qs xs e h i = i

  -- a test that follows from another needs no other
  pub passing_stronger : (p q : A → Bool) (xs : List A) → ((x : A) → p x ≡ true → q x ≡ true) → passing p (passing q xs) ≡ passing p xs
  passing_stronger p q [] h = refl
  passing_stronger p q (x ∷ xs) h = stronger_on p (q x) (p x) x (passing q xs) xs refl (h x) (passing_stronger p q xs h)

pub replicate_zeros : (n : ℕ) → replicate n 0 ≡ zeros n
unfolding tabulate
replicate_zeros zero = refl
replicate_zeros (suc n) = ap {B = List ℕ} (λ t. 0 ∷ t) (replicate_zeros n)
