-- What is known once nothing is refused.
use Rattle.std.specs.Prelude.{◌≡◌, Bool, ℕ, ◌+◌, ◌-◌, ◌≤◌, ◌<◌, eqb, leb}
use Rattle.std.proofs.Math.Path.{refl}
use Rattle.std.proofs.Common.{◌∙◌}
use Rattle.std.proofs.Math.Bool.{true, false}
use mathlib.Core.List.{List, [], ◌∷◌}
use native.Mathlib.Omega.{arith}
use borrow.Author.Tests.{le-leb, leb-true, ltb-true, eqb-true, eqb-false, eq-eqb, not-true}
use Rattle.lists.specs.Pick.{equal_or_not}
use Rattle.lists.specs.Refusal.{rising_from, Passes, ◌or_else◌, refusal_by, refusal_lowest, refusal_none, refusal_append, or_else_left, step-passes}
use Rattle.numbers.specs.declared.Layout.{Layout}
use Rattle.numbers.specs.Layouts.{Valid, all_groups, contents, all_contents, capacity, image_length}
use Rattle.numbers.specs.Refused.{validb, valid_of, valid_true}
use Rattle.homes.specs.declared.Record.{Record}
use Rattle.homes.specs.Records.{failed, record_good, Good}
use Rattle.homes.specs.RecordLaws.{record_good_lem, good-true}
use Rattle.pool.specs.Refusals.{pool_tests, range_tests, range_refusal, target_tests, otherwise, fail_tests, fail_refusal, repair_refusal, look_tests, look_refusal}

-- layout, image length and record are as every call asks
pub record Sound (y : Layout) (R : Record) (len : ℕ) : Type 0 where
  pub valid : Valid y
  pub len_is : len ≡ image_length y
  pub good : Good y R
  pub within : R.waiting ≤ all_contents y

sound : (y : Layout) (R : Record) (len : ℕ) → validb y ≡ true → eqb len (image_length y) ≡ true → record_good y R ≡ true
    → leb R.waiting (all_contents y) ≡ true → Sound y R len
sound y R len a b c d =
    record { valid = valid_of y a; len_is = eqb-true len (image_length y) b; good = record_good_lem y R c; within = leb-true R.waiting (all_contents y) d }

-- then nothing but a call's own tests refuses it
pub sound-passes : (y : Layout) (R : Record) (len : ℕ) → Sound y R len → (rest : List (Bool × ℕ)) → refusal_by (pool_tests y R len rest) ≡ refusal_by rest
unfolding refusal_by
sound-passes y R len s rest =
    step-passes (validb y) 1 _ (valid_true y s.valid)
    ∙ step-passes (eqb len (image_length y)) 2 _ (eq-eqb len (image_length y) s.len_is)
    ∙ step-passes (record_good y R) 3 _ (good-true y R s.good)
    ∙ step-passes (leb R.waiting (all_contents y)) 3 _ (le-leb R.waiting (all_contents y) s.within)

module _ (y : Layout) (R : Record) (len : ℕ) where
  -- where a table that begins with the tests of every call refuses nothing, these pass, and a call's own tests do
  pub pool-asked : (rest : List (Bool × ℕ)) → rising_from 3 rest ≡ true → refusal_by (pool_tests y R len rest) ≡ 0 → Sound y R len × Passes rest
  pool-asked rest up e =
      let p = (refusal_lowest 1 (pool_tests y R len rest) (omega arith) up).none e in
      (sound y R len p.0 p.1.0 p.1.1.0 p.1.1.1.0, p.1.1.1.1)

  pub repair_asked : repair_refusal y R len ≡ 0 → Sound y R len
  unfolding repair_refusal
  repair_asked e = (pool-asked [] refl e).0

  -- every call's table begins with these tests
  pub pool_first : (rest : List (Bool × ℕ)) → refusal_by (pool_tests y R len rest) ≡ repair_refusal y R len or_else refusal_by rest
  unfolding repair_refusal
  pool_first rest = refusal_append (pool_tests y R len []) rest

  -- which alone refuse with 1, 2 or 3
  pub repair_number : repair_refusal y R len ≤ 3
  unfolding repair_refusal refusal_by ◌or_else◌
  repair_number = by (validb y) (eqb len (image_length y)) (record_good y R) (leb R.waiting (all_contents y))
    where
      by : (a b c d : Bool) → refusal_by ((a, 1) ∷ (b, 2) ∷ (c, 3) ∷ (d, 3) ∷ []) ≤ 3
      by false b c d = omega arith
      by true false c d = omega arith
      by true true false d = omega arith
      by true true true false = omega arith
      by true true true true = omega arith

  -- so where the number is higher, they pass
  pub pool_passed : (rest : List (Bool × ℕ)) → 3 < refusal_by (pool_tests y R len rest) → Sound y R len
  pool_passed rest h =
      repair_asked
      (equal_or_not (repair_refusal y R len) 0 (λ (z : repair_refusal y R len ≡ 0). z)
      (λ (ne : repair_refusal y R len ≡ 0 → ⊥). absurd (omega (arith, h, repair_number, pool_first rest ∙ or_else_left (repair_refusal y R len) _ ne))))

  pub range_asked : (offset size : ℕ) → range_refusal y R len offset size ≡ 0 → Sound y R len × (offset + size ≤ capacity y)
  unfolding range_refusal
  range_asked offset size e =
      let p = pool-asked (range_tests y offset size) refl e in
      let l : offset ≤ capacity y = leb-true offset (capacity y) p.1.0 in
      let r : size ≤ capacity y - offset = leb-true size (capacity y - offset) p.1.1.0 in
      (p.0, omega arith)

  pub record FailAsked (target : ℕ) : Type 0 where
    pub sound : Sound y R len
    pub target_lt : target < y.p
    pub new : failed R target ≡ false
    pub room : R.k < y.k

  -- a fail that is "otherwise accepted", and so one that is accepted
  pub otherwise-asked : (target : ℕ) → otherwise y R len target ≡ 0 → FailAsked target
  unfolding otherwise
  otherwise-asked target e =
      let p = pool-asked (target_tests y R target) refl e in
      let s = p.0 in
      let q = p.1 in
      let few = s.good.few in
      let dud = eqb-false R.k y.k (not-true (eqb R.k y.k) q.1.1.0) in
      record { sound = s; target_lt = ltb-true target y.p q.0; new = not-true (failed R target) q.1.0; room = omega arith }

  pub fail_asked : (target : ℕ) → fail_refusal y R len target ≡ 0 → FailAsked target
  unfolding fail_refusal otherwise
  fail_asked target e =
      let p = (refusal_lowest 1 (pool_tests y R len (fail_tests y R len target)) (omega arith) refl).none e in
      otherwise-asked target (refusal_none (pool_tests y R len (target_tests y R target)) (p.0, (p.1.0, (p.1.1.0, (p.1.1.1.0, p.1.1.1.1.1)))))

  pub record LookAsked (room group content : ℕ) : Type 0 where
    pub sound : Sound y R len
    pub group_lt : group < all_groups y
    pub content-lt : content < contents y
    pub room_is : room ≡ y.u

  pub look_asked : (room group content : ℕ) → look_refusal y R len room group content ≡ 0 → LookAsked room group content
  unfolding look_refusal
  look_asked room group content e =
      let p = pool-asked (look_tests y room group content) refl e in
      let q = p.1 in
      record {
        sound = p.0;
        group_lt = ltb-true group (all_groups y) q.0;
        content-lt = ltb-true content (contents y) q.1.0;
        room_is = eqb-true room y.u q.1.1.0;
      }
