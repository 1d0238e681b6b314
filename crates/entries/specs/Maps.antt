-- A function on every element of a list: it goes through the parts of the list.
use Rattle.std.specs.Prelude.{◌≡◌, refl, ℕ, zero, suc, List, [], ◌∷◌, ◌++◌, map, length, take, drop, replicate}
use Rattle.std.proofs.Common.{sym, ap, ◌∙◌}
use Rattle.std.proofs.lemmas.List.{length-map}
use Rattle.lists.specs.Passing.{nonempty, over}
use Rattle.lists.specs.Refusal.{grant}

module _ {A B : Type 0} (f : A → B) where
  pub map-append : (xs ys : List A) → map f (xs ++ ys) ≡ map f xs ++ map f ys
  map-append [] ys = refl
  map-append (x ∷ xs) ys = ap {B = List B} (λ t. f x ∷ t) (map-append xs ys)

  pub map-take : (n : ℕ) (xs : List A) → map f (take n xs) ≡ take n (map f xs)
  map-take zero xs = refl
  map-take (suc n) [] = refl
  map-take (suc n) (x ∷ xs) = ap {B = List B} (λ t. f x ∷ t) (map-take n xs)

  pub map-drop : (n : ℕ) (xs : List A) → map f (drop n xs) ≡ drop n (map f xs)
  map-drop zero xs = refl
  map-drop (suc n) [] = refl
  map-drop (suc n) (x ∷ xs) = map-drop n xs

  pub map_replicate : (n : ℕ) (a : A) → map f (replicate n a) ≡ replicate n (f a)
  map_replicate zero a = refl
  map_replicate (suc n) a = ap {B = List B} (λ t. f a ∷ t) (map_replicate n a)

  pub map-over : (zs ys : List A) → map f (over zs ys) ≡ over (map f zs) (map f ys)
  map-over zs ys =
      map-append zs (drop (length zs) ys)
      ∙ ap (λ (t : List B). map f zs ++ t) (map-drop (length zs) ys)
      ∙ ap (λ (n : ℕ). map f zs ++ drop n (map f ys)) (sym (length-map zs f))

  pub nonempty-map : (xs : List A) → nonempty (map f xs) ≡ nonempty xs
  nonempty-map [] = refl
  nonempty-map (x ∷ xs) = refl

  pub grant-on : (number : ℕ) (a b : A) → grant number (f a) (f b) ≡ f (grant number a b)
  grant-on zero a b = refl
  grant-on (suc m) a b = refl
