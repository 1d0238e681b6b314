-- What is known once a list is not refused, and while its tests are made.
use Rattle.std.specs.Prelude.{◌≡◌, Bool, true, false, List, ℕ, ◌+◌, ◌-◌, ◌≤◌, ◌<◌, eqb, leb, length}
use Rattle.std.proofs.Math.Path.{refl, ap}
use Rattle.std.proofs.Common.{sym, ◌∙◌, arith}
use borrow.Author.Tests.{leb-true}
use Rattle.lists.specs.Pick.{pick, both_true}
use Rattle.lists.specs.Count.{sum}
use Rattle.numbers.specs.declared.Layout.{Layout}
use Rattle.numbers.specs.Layouts.{capacity}
use Rattle.homes.specs.declared.Record.{Record}
use Rattle.pool.specs.Refusals.{range_tests, range_refusal}
use Rattle.pool.specs.Asked.{Sound, sound-passes}
use Rattle.checks.specs.Tests.{inside_of, range_by}
use Rattle.pool_list.specs.Ranges.{range_offset, range_size, inside_alone}

-- the two tests that the code makes of a range are those that a write of it alone makes
pub inside_is : (y : Layout) (rs : List (List ℕ)) (i : ℕ) → inside_of (capacity y) (range_offset rs i) (range_size rs i) ≡ inside_alone y rs i
inside_is y rs i = sym (ap (λ (n : ℕ). eqb n 0) (range_by y (range_offset rs i) (range_size rs i)) ∙ by (inside_of (capacity y) (range_offset rs i) (range_size rs i)))
  where
    by : (t : Bool) → eqb (pick t 0 4) 0 ≡ t
    by true = refl
    by false = refl

-- a range inside ends within the file
pub inside_fits : (y : Layout) (rs : List (List ℕ)) (i : ℕ) → inside_alone y rs i ≡ true → range_offset rs i + range_size rs i ≤ capacity y
inside_fits y rs i t =
    let p = both_true (leb (range_offset rs i) (capacity y)) (leb (range_size rs i) (capacity y - range_offset rs i)) (inside_is y rs i ∙ t) in
    let a = leb-true (range_offset rs i) (capacity y) p.0 in
    let b = leb-true (range_size rs i) (capacity y - range_offset rs i) p.1 in
    omega (arith, a, b)

module _ (y : Layout) (R : Record) (len : ℕ) (rs : List (List ℕ)) where
  -- a write of range i alone is refused by its own tests alone
  pub alone_by : Sound y R len → (i : ℕ) → range_refusal y R len (range_offset rs i) (range_size rs i) ≡ pick (inside_alone y rs i) 0 4
  unfolding range_refusal
  alone_by s i =
      sound-passes y R len s (range_tests y (range_offset rs i) (range_size rs i)) ∙ range_by y (range_offset rs i) (range_size rs i)
      ∙ ap (λ (t : Bool). pick t 0 4) (inside_is y rs i)

  -- what an accepted list knows; `room` is the buffer's length
  pub record ListAsked (room : ℕ) : Type 0 where
    pub sound : Sound y R len
    pub few : length rs ≤ 64
    pub each : (i : ℕ) → i < length rs → inside_alone y rs i ≡ true
    pub exact : room ≡ sum (range_size rs) (length rs)
