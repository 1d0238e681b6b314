-- A pass over records in two parts: whether the second still rises.
use Rattle.std.specs.Prelude.{◌≡◌, refl, Bool, true, false}
use Rattle.lists.specs.Pick.{pick, both}

pub rises_on : (a b c d : Bool) → both (pick b (both a c) a) d ≡ pick b (both a (both c d)) (both a d)
rises_on true true c d = refl
rises_on true false c d = refl
rises_on false true c d = refl
rises_on false false c d = refl
