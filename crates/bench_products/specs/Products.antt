-- The products of the bytes of two lists at the same places, as many as a third list is long; that list itself where one of the two is shorter.
use Rattle.std.specs.Prelude.{◌≡◌, List, ℕ, ◌<◌, ◌≤◌, leb, length, get_or}
use Rattle.std.proofs.Math.Path.{sym}
use Rattle.std.proofs.Common.{◌∙◌}
use Rattle.std.proofs.Math.Bool.{false}
use borrow.Author.Tests.{le-leb, lt-leb}
use Rattle.lists.specs.Pick.{pick, pick_true, pick-false, both, both_hold}
use Rattle.lists.specs.Tabulate.{tabulate}
use Rattle.field.specs.Byte.{mul}

unfoldable pub products_of : List ℕ → List ℕ → List ℕ → List ℕ
products_of a b out =
    pick (both (leb (length out) (length a)) (leb (length out) (length b))) (tabulate (length out) (λ i. mul (get_or a i 0) (get_or b i 0))) out

module _ (a b out : List ℕ) where
  pub first_short : length a < length out → out ≡ products_of a b out
  unfolding products_of
  first_short h = sym (pick-false (both (leb (length out) (length a)) (leb (length out) (length b))) _ out (pick-false (leb (length out) (length a)) _ false (lt-leb (length out) (length a) h)))

  pub second_short : length out ≤ length a → length b < length out → out ≡ products_of a b out
  unfolding products_of
  second_short k h =
      sym (pick-false (both (leb (length out) (length a)) (leb (length out) (length b))) _ out
      (pick_true (leb (length out) (length a)) _ false (le-leb (length out) (length a) k) ∙ lt-leb (length out) (length b) h))

  pub long_enough : length out ≤ length a → length out ≤ length b → tabulate (length out) (λ i. mul (get_or a i 0) (get_or b i 0)) ≡ products_of a b out
  unfolding products_of
  long_enough h k =
      sym (pick_true (both (leb (length out) (length a)) (leb (length out) (length b))) _ out
      (both_hold (leb (length out) (length a)) (leb (length out) (length b)) (le-leb (length out) (length a) h) (le-leb (length out) (length b) k)))
