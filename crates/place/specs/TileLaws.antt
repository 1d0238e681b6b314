-- The permutation of a layout's tile, by its name: a list of 64 entries, a bijection of 0 .. n - 1 for n from P to 64, which its inverse undoes.
-- Above `tile` nothing else looks inside the name, but for statements of `promises` about the editions and the examples.
use Rattle.std.specs.Prelude.{◌≡◌, ℕ, ◌≤◌, ◌<◌, length}
use Rattle.std.proofs.Common.{le_refl, arith}
use Rattle.lists.specs.Tabulate.{at}
use Rattle.lists.specs.Bijection.{Bijection}
use Rattle.numbers.specs.declared.Layout.{Layout}
use Rattle.numbers.specs.Layouts.{Valid}
use Rattle.tile.specs.Permutation.{inverse_of}
use Rattle.tile.specs.Laws.{Permutes, permutation_length, permutation_bijection, permutation_own, permutation_inverse}
use Rattle.place.specs.Places.{tile_permutation}

module _ (y : Layout) (v : Valid y) (tile : ℕ) where
  some : 1 ≤ y.p
  some = omega arith

  pub tile_length : length (tile_permutation y tile) ≡ 64
  unfolding tile_permutation
  tile_length = permutation_length y.edition y.p y.cookie tile some v.few_targets

  pub tile_permutes : Permutes 64 (tile_permutation y tile)
  unfolding tile_permutation
  tile_permutes = permutation_bijection y.edition y.p y.cookie tile some v.few_targets 64 v.few_targets (le_refl 64)

  pub tile_undone : (n : ℕ) → y.p ≤ n → n ≤ 64 → Bijection n (at (tile_permutation y tile)) (at (inverse_of (tile_permutation y tile)))
  unfolding tile_permutation
  tile_undone = permutation_inverse y.edition y.p y.cookie tile some v.few_targets

  -- "those from P on hold their own index"
  pub tile_above : (t : ℕ) → y.p ≤ t → t < 64 → at (tile_permutation y tile) t ≡ t
  unfolding tile_permutation
  tile_above = permutation_own y.edition y.p y.cookie tile some v.few_targets
