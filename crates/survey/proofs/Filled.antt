-- The first part of an array, filled, before the rest of the array.
use Rattle.std.proofs.Common.{◌≡◌, ℕ, ◌<◌, ◌≤◌, List, ◌++◌, length, get_or, take, drop, arith, length-take}
use Rattle.std.proofs.Math.ListN.{get_or-append}

pub filled : {A : Type 0} (xs all : List A) (n : ℕ) (d : A) → length xs ≡ length (take n all) → n ≤ length all
    → (k : ℕ) → k < n → (k < length xs) × (get_or (xs ++ drop n all) k d ≡ get_or xs k d)
filled {A} xs all n d e h k lt =
    let in_xs : k < length xs = omega (arith, e, length-take n all) in
    (in_xs, get_or-append xs (drop n all) d k in_xs)
