-- A group's mark: one number that has a bit for each of three ranks.
use Rattle.std.specs.Prelude.{◌≡◌, Bool, true, false, ℕ, ◌+◌, ◌*◌, ◌/◌, ◌%◌, ◌<◌, ◌≤◌, eqb}
use Rattle.std.proofs.Common.{ap, arith}
use Rattle.lists.specs.Pick.{pick, bit, bit_le}
use Rattle.systems.specs.Cramer.{three}

-- the weight of a rank
unfoldable pub weight_of : ℕ → ℕ
weight_of r = pick (eqb r 0) 1 (pick (eqb r 1) 2 4)

-- the mark of a group in which the ranks that are on are marked
unfoldable pub mark_with : (ℕ → Bool) → ℕ
mark_with on = bit (on 0) + 2 * bit (on 1) + 4 * bit (on 2)

-- ---- laws

pub mark_few : (on : ℕ → Bool) → mark_with on ≤ 7
unfolding mark_with
mark_few on = omega (arith, bit_le (on 0), bit_le (on 1), bit_le (on 2))

pub weight_some : (r : ℕ) → r < 3 → (0 < weight_of r) × (weight_of r ≤ 4)
unfolding weight_of
weight_some = three (λ (r : ℕ). (0 < weight_of r) × (weight_of r ≤ 4)) (omega arith, omega arith) (omega arith, omega arith) (omega arith, omega arith)

-- a rank is marked where its bit is set
pub mark_bit : (on : ℕ → Bool) (r : ℕ) → r < 3 → (mark_with on / weight_of r) % 2 ≡ bit (on r)
unfolding mark_with weight_of
mark_bit on =
    let a = bit_le (on 0) in
    let b = bit_le (on 1) in
    let c = bit_le (on 2) in
    three (λ (r : ℕ). (mark_with on / weight_of r) % 2 ≡ bit (on r)) (omega (arith, a, b, c)) (omega (arith, a, b, c)) (omega (arith, a, b, c))

-- one rank more: its weight is added
pub mark_more : (on after : ℕ → Bool) (r : ℕ) → r < 3 → on r ≡ false → ((q : ℕ) → after q ≡ pick (eqb r q) true (on q)) → mark_with on + weight_of r ≡ mark_with after
unfolding mark_with weight_of
mark_more on after r h =
    three (λ (r : ℕ). on r ≡ false → ((q : ℕ) → after q ≡ pick (eqb r q) true (on q)) → mark_with on + weight_of r ≡ mark_with after)
    (λ off e.
    let z : bit (on 0) ≡ 0 = ap bit off in
    let a : bit (after 0) ≡ 1 = ap bit (e 0) in
    let b : bit (after 1) ≡ bit (on 1) = ap bit (e 1) in
    let c : bit (after 2) ≡ bit (on 2) = ap bit (e 2) in
    omega (arith, z, a, b, c))
    (λ off e.
    let z : bit (on 1) ≡ 0 = ap bit off in
    let a : bit (after 0) ≡ bit (on 0) = ap bit (e 0) in
    let b : bit (after 1) ≡ 1 = ap bit (e 1) in
    let c : bit (after 2) ≡ bit (on 2) = ap bit (e 2) in
    omega (arith, z, a, b, c))
    (λ off e.
    let z : bit (on 2) ≡ 0 = ap bit off in
    let a : bit (after 0) ≡ bit (on 0) = ap bit (e 0) in
    let b : bit (after 1) ≡ bit (on 1) = ap bit (e 1) in
    let c : bit (after 2) ≡ 1 = ap bit (e 2) in
    omega (arith, z, a, b, c)) r h
