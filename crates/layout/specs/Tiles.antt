-- The calls that answer a tile's permutation and its inverse: 64 entries by value, all 0 where refused.
use Rattle.std.specs.Prelude.{[], ◌∷◌, ℕ, ltb}
use Rattle.lists.specs.Tabulate.{zeros}
use Rattle.lists.specs.Refusal.{refusal_by, grant}
use Rattle.numbers.specs.declared.Layout.{Layout}
use Rattle.numbers.specs.Refused.{validb}
use Rattle.tile.specs.Permutation.{inverse_of}
use Rattle.place.specs.Places.{tile_permutation}
use Rattle.layout.specs.declared.Entries.{Entries}

unfoldable pub tile_refusal : Layout → ℕ → ℕ
tile_refusal y tile = refusal_by ((validb y, 1) ∷ (ltb tile y.t, 4) ∷ [])

unfoldable pub permuted_of : Layout → ℕ → Entries
permuted_of y tile =
    grant (tile_refusal y tile)
    (record { refusal = 0; entries = tile_permutation y tile })
    (record { refusal = tile_refusal y tile; entries = zeros 64 })

unfoldable pub inverted_of : Layout → ℕ → Entries
inverted_of y tile =
    grant (tile_refusal y tile)
    (record { refusal = 0; entries = inverse_of (tile_permutation y tile) })
    (record { refusal = tile_refusal y tile; entries = zeros 64 })
