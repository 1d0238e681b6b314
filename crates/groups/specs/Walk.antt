-- The groups that begin before an end, by a quotient: `n` is the end's by the span of a group, taken up.
use Rattle.std.specs.Prelude.{◌≡◌, ℕ, ◌+◌, ◌*◌, ◌/◌, ◌%◌, ◌<◌, ◌≤◌, min}
use Rattle.std.proofs.Common.{arith, mul_comm, mul-le-mul_left}
use Rattle.std.proofs.lemmas.Grind.{div_ceil_times}
use Rattle.lists.specs.Between.{next}

module _ (span g end n : ℕ) (some : 0 < span) (is : n ≡ end / span + min 1 (end % span)) where
  bounds : (end ≤ n * span) × (n * span < end + span)
  bounds = rw is (div_ceil_times end span some)

  pub begins_before : g < n → span * g < end
  begins_before h = let b = bounds in omega (arith, b.1, next span g n h, mul_comm n span)

  pub begins_after : n ≤ g → end ≤ span * g
  begins_after h = let b = bounds in omega (arith, b.0, mul-le-mul_left span h, mul_comm n span)
