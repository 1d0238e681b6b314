-- Numbers from lo on and below hi.
use Rattle.std.specs.Prelude.{◌≡◌, Bool, true, false, ℕ, ◌+◌, ◌-◌, ◌*◌, ◌<◌, ◌≤◌}
use Rattle.std.proofs.Common.{⊎_elim, mul-le-mul_left, arith}
use Rattle.lists.specs.Pick.{either_way, below_or_not}
use Rattle.lists.specs.Part.{within, within_in, within-before, within-after, within-true}

abbrev pub between : ℕ → ℕ → ℕ → Bool
between lo hi x = within lo (hi - lo) x

pub between_in : (lo hi x : ℕ) → lo ≤ x → x < hi → between lo hi x ≡ true
between_in lo hi x h k = within_in lo (hi - lo) x h (omega arith)

pub between-before : (lo hi x : ℕ) → x < lo → between lo hi x ≡ false
between-before lo hi x h = within-before lo (hi - lo) x h

pub between-after : (lo hi x : ℕ) → hi ≤ x → between lo hi x ≡ false
between-after lo hi x h =
    below_or_not x lo (λ (k : x < lo). within-before lo (hi - lo) x k) (λ (k : lo ≤ x). within-after lo (hi - lo) x (omega arith))

pub between-true : (lo hi x : ℕ) → between lo hi x ≡ true → (lo ≤ x) × (x < hi)
between-true lo hi x t = let b = within-true lo (hi - lo) x t in let l = b.0 in let k = b.1 in (l, omega arith)

pub between_cases : {A : Type 0} (lo hi x : ℕ) → (lo ≤ x → x < hi → A) → (between lo hi x ≡ false → A) → A
between_cases lo hi x f g =
    ⊎_elim (λ (t : between lo hi x ≡ true). let b = between-true lo hi x t in f b.0 b.1) (λ (t : between lo hi x ≡ false). g t)
    (either_way (between lo hi x))

-- units one after another
pub next : (u a b : ℕ) → a < b → u * a + u ≤ u * b
next u a b h = omega (arith, mul-le-mul_left u h)
