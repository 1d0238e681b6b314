-- A call's own tests come after those that every call makes.
use Rattle.std.specs.Prelude.{◌≡◌, refl, Bool, true, false, List, [], ◌∷◌, ℕ, ◌-◌, ◌≤◌, ◌<◌, eqb, leb}
use Rattle.std.proofs.Math.Path.{sym}
use Rattle.std.proofs.Common.{◌∙◌}
use borrow.Author.Tests.{eq-eqb, ne_eqb, lt-ltb, le-ltb}
use Rattle.lists.specs.Pick.{pick, both}
use Rattle.lists.specs.Refusal.{◌or_else◌, refusal_by, or_else_left, or_else_right, step-passes}
use Rattle.numbers.specs.declared.Layout.{Layout}
use Rattle.numbers.specs.Layouts.{Valid, contents, all_groups, capacity, image_length}
use Rattle.numbers.specs.Refused.{validb, valid_true}
use Rattle.homes.specs.declared.Record.{Record}
use Rattle.homes.specs.Records.{failed, record_refusal}
use Rattle.pool.specs.Refusals.{pool_tests, range_tests, target_tests, look_tests, repair_refusal}
use Rattle.pool.specs.Asked.{pool_first}

module _ (y : Layout) (R : Record) (len : ℕ) where
  pub refused_first : (rest : List (Bool × ℕ)) {n : ℕ} → n ≡ repair_refusal y R len → (n ≡ 0 → ⊥) → n ≡ refusal_by (pool_tests y R len rest)
  refused_first rest e f = e ∙ sym (pool_first y R len rest ∙ or_else_left _ _ (λ (z : repair_refusal y R len ≡ 0). f (e ∙ z)))

  pub passed_first : (rest : List (Bool × ℕ)) {n : ℕ} → n ≡ repair_refusal y R len → n ≡ 0 → refusal_by (pool_tests y R len rest) ≡ refusal_by rest
  passed_first rest e z = pool_first y R len rest ∙ or_else_right _ _ (sym e ∙ z)

  -- the tests that every call makes, where the layout is within its bounds
  module _ (v : Valid y) where
    pub wrong-length : (len ≡ image_length y → ⊥) → 2 ≡ repair_refusal y R len
    unfolding repair_refusal refusal_by ◌or_else◌
    wrong-length f = sym (simp (valid_true y v, ne_eqb len (image_length y) f))

    pub by_record : len ≡ image_length y → record_refusal y R ≡ repair_refusal y R len
    unfolding repair_refusal record_refusal refusal_by
    by_record e =
        sym
        (step-passes (validb y) 1 _ (valid_true y v) ∙ step-passes (eqb len (image_length y)) 2 _ (eq-eqb len (image_length y) e))

-- ---- a range

-- both tests of a range of `size` bytes from `offset` on pass
abbrev pub inside_of : ℕ → ℕ → ℕ → Bool
inside_of capacity offset size = both (leb offset capacity) (leb size (capacity - offset))

-- so it is refused with nothing, or with 4
pub range_by : (y : Layout) (offset size : ℕ) → refusal_by (range_tests y offset size) ≡ pick (inside_of (capacity y) offset size) 0 4
unfolding refusal_by ◌or_else◌
range_by y offset size = by (leb offset (capacity y)) (leb size (capacity y - offset))
  where
    by : (a b : Bool) → refusal_by ((a, 4) ∷ (b, 4) ∷ []) ≡ pick (both a b) 0 4
    by true true = refl
    by true false = refl
    by false b = refl

-- ---- a target that is to fail

module _ (y : Layout) (R : Record) (target : ℕ) where
  pub target_outside : y.p ≤ target → 4 ≡ refusal_by (target_tests y R target)
  unfolding refusal_by ◌or_else◌
  target_outside h = sym (simp (le-ltb target y.p h))

  module _ (inside : target < y.p) where
    pub target_again : failed R target ≡ true → 6 ≡ refusal_by (target_tests y R target)
    unfolding refusal_by ◌or_else◌
    target_again t = sym (simp (lt-ltb target y.p inside, t))

    module _ (new : failed R target ≡ false) where
      pub target_dud : R.k ≡ y.k → 7 ≡ refusal_by (target_tests y R target)
      unfolding refusal_by ◌or_else◌
      target_dud e = sym (simp (lt-ltb target y.p inside, new, eq-eqb R.k y.k e))

      pub target_fails : (R.k ≡ y.k → ⊥) → 0 ≡ refusal_by (target_tests y R target)
      unfolding refusal_by ◌or_else◌
      target_fails f = sym (simp (lt-ltb target y.p inside, new, ne_eqb R.k y.k f))

-- ---- a look

module _ (y : Layout) (room group content : ℕ) where
  pub group_outside : all_groups y ≤ group → 4 ≡ refusal_by (look_tests y room group content)
  unfolding refusal_by ◌or_else◌
  group_outside h = sym (simp (le-ltb group (all_groups y) h))

  module _ (inside : group < all_groups y) where
    pub content_outside : contents y ≤ content → 4 ≡ refusal_by (look_tests y room group content)
    unfolding refusal_by ◌or_else◌
    content_outside h = sym (simp (lt-ltb group (all_groups y) inside, le-ltb content (contents y) h))

    module _ (one : content < contents y) where
      pub wrong_room : (room ≡ y.u → ⊥) → 5 ≡ refusal_by (look_tests y room group content)
      unfolding refusal_by ◌or_else◌
      wrong_room f = sym (simp (lt-ltb group (all_groups y) inside, lt-ltb content (contents y) one, ne_eqb room y.u f))

      pub right_room : room ≡ y.u → 0 ≡ refusal_by (look_tests y room group content)
      unfolding refusal_by ◌or_else◌
      right_room e = sym (simp (lt-ltb group (all_groups y) inside, lt-ltb content (contents y) one, eq-eqb room y.u e))
