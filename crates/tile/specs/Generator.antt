-- "The permutation of a tile": the generator.
use Rattle.std.specs.Prelude.{ℕ, zero, suc, ◌+◌, ◌*◌, ◌/◌, ◌%◌, ◌^◌, ◌==◌}
use Rattle.lists.specs.Pick.{pick}

-- "start = (cookie + 11400714819323198485·tile) mod 2^64"
unfoldable pub start_of : ℕ → ℕ → ℕ
start_of cookie tile = (cookie + 11400714819323198485 * tile) % 2 ^ 64

-- "One advance: state = (6364136223846793005·state + 1442695040888963407) mod 2^64"
unfoldable pub next_of : ℕ → ℕ
next_of state = (6364136223846793005 * state + 1442695040888963407) % 2 ^ 64

-- so many advances, one after the other
unfoldable pub advanced : ℕ → ℕ → ℕ
advanced zero state = state
advanced (suc n) state = advanced n (next_of state)

-- Document 02, order 8: "In edition 2 the generator is advanced four extra times after the start"
unfoldable pub extra : ℕ → ℕ
extra edition = pick (edition == 2) 4 0

-- the state from which the exchanges begin
unfoldable pub begin_of : ℕ → ℕ → ℕ → ℕ
begin_of edition cookie tile = advanced (extra edition) (start_of cookie tile)

-- "take j = ((state div 2^32)·(i+1)) div 2^32"
unfoldable pub draw_of : ℕ → ℕ → ℕ
draw_of state i = state / 2 ^ 32 * (i + 1) / 2 ^ 32
