-- What is known once a list is not refused, and while its tests are made.
use Rattle.std.specs.Prelude.{◌≡◌, List, ℕ, length}
use Rattle.std.proofs.Math.Path.{refl}
use borrow.Author.Tests.{eqb-true, leb-true}
use Rattle.lists.specs.Count.{sum}
use Rattle.lists.specs.Search.{all-at}
use Rattle.numbers.specs.declared.Layout.{Layout}
use Rattle.homes.specs.declared.Record.{Record}
use Rattle.pool.specs.Asked.{pool-asked}
use Rattle.pool_list.specs.Ranges.{range_size, inside_alone, list_tests, list_refusal}
use Rattle.pool_list.specs.Asked.{ListAsked}

module _ (y : Layout) (R : Record) (len : ℕ) (rs : List (List ℕ)) where
  pub list_asked : (room : ℕ) → list_refusal y R len rs room ≡ 0 → ListAsked y R len rs room
  unfolding list_refusal
  list_asked room e =
      let p = pool-asked y R len (list_tests y rs room) refl e in
      let q = p.1 in
      record {
        sound = p.0;
        few = leb-true (length rs) 64 q.0;
        each = all-at (inside_alone y rs) (length rs) q.1.0;
        exact = eqb-true room (sum (range_size rs) (length rs)) q.1.1.0;
      }
