-- What a swap was given once it is accepted, what it stores, and what it changes. On any image whatsoever.
use Rattle.std.specs.Prelude.{◌≡◌, ◌⊎◌, true, false, length}
use Rattle.std.proofs.Math.Path.{refl, sym, ap}
use Rattle.std.proofs.Common.{◌∙◌, subst, zero-add, arith}
use Rattle.std.proofs.Math.Logic.{inl, inr, ⊎_elim}
use Rattle.std.proofs.Math.Bool.{not}
use mathlib.Core.List.{List}
use Prim.Native.Nat.{ℕ, ◌-◌, ◌≤◌, ◌<◌}
use borrow.Author.Tests.{ltb-true, eqb-true, lt-ltb, eq-eqb}
use Rattle.std.proofs.Math.Dec.{eqb}
use Rattle.lists.specs.Pick.{either_way, clash, equal_or_not}
use Rattle.lists.specs.Count.{count, count_weaker}
use Rattle.lists.specs.Tabulate.{at}
use Rattle.lists.specs.Refusal.{LowestThatApplies, grant_yes, grant_no, refusal_lowest, refusal_none}
use Rattle.numbers.specs.declared.Layout.{Layout}
use Rattle.numbers.specs.Layouts.{all_groups, contents}
use Rattle.place.specs.Bytes.{spot, target_here, unit_here}
use Rattle.place.specs.ByteLaws.{target_there, unit_there'}
use Rattle.homes.specs.declared.Record.{Record}
use Rattle.homes.specs.Listed.{listed}
use Rattle.homes.specs.Homes.{homes}
use Rattle.homes.specs.HomesLaws.{own_or_spare}
use Rattle.homes.proofs.HomesLaws.{homes_stay, on-listed}
use Rattle.homes.specs.Records.{entry, failed, Good}
use Rattle.homes.specs.Dropping.{without}
use Rattle.homes.specs.DroppingLaws.{without-good, without_shorter, alive_stays, others_alive}
use Rattle.homes.specs.Missing.{target_at, home, missing}
use Rattle.homes.specs.MissingLaws.{units_apart}
use Rattle.homes.proofs.MissingLaws.{home-own, home-lt, repaired_present}
use Rattle.pool.specs.Contents.{stored}
use Rattle.pool.specs.Refusals.{pool_tests}
use Rattle.pool.specs.Storing.{storing}
use Rattle.pool.specs.StoringLaws.{storing-at, storing-length, storing_changes}
use Rattle.pool.specs.Rounds.{storing_idle}
use Rattle.pool.specs.Asked.{Sound, pool-asked, sound-passes}
use Rattle.swapping.specs.Swapping.{swap_tests, swap_refusal, swapped_image, swap_image, swap_record, home_moves, NewHome}

-- ---- accepted

module _ (y : Layout) (R : Record) (len d : ℕ) where
  pub record SwapAsked : Type 0 where
    pub sound : Sound y R len
    pub target_lt : d < y.p
    pub is_failed : failed R d ≡ true
    pub repaired : R.q ≡ R.k

-- ---- the shorter list

module _ (y : Layout) (R : Record) (d : ℕ) {len : ℕ} (a : SwapAsked y R len d) where
  pub few-entries : R.k ≤ 3
  few-entries = omega (arith, a.sound.good.few, a.sound.valid.few_parity)

  pub less_good : Good y (without R d)
  less_good = without-good R d few-entries a.is_failed y a.sound.good

  -- one lower, and still repaired
  pub less_few : R.q - 1 ≤ y.k
  less_few = omega (arith, a.sound.good.few, a.sound.good.mended)

  pub less_repaired : (without R d).q ≡ (without R d).k
  less_repaired = ap (λ (x : ℕ). x - 1) a.repaired

  pub some_entry : 0 < R.k
  some_entry = omega (arith, without_shorter R d few-entries a.is_failed)

  -- nothing is missing before, and nothing afterwards
  pub none_before : (g c : ℕ) → c < contents y → missing y R g c ≡ false
  none_before g c h = repaired_present y a.sound.valid R g a.sound.good.few a.repaired c h

  pub none_after : (g c : ℕ) → c < contents y → missing y (without R d) g c ≡ false
  none_after g c h = repaired_present y a.sound.valid (without R d) g less_good.few less_repaired c h

  -- ---- which contents move

  own_home : (S : Record) (j k g c : ℕ) → j ≤ k → listed (entry S) k (target_at y g c) ≡ false → home y S j g c ≡ c
  unfolding home homes
  own_home S j k g c le h =
      ap (λ (n : ℕ). homes (target_at y g) (contents y) y.k (entry S) n c) (sym (zero-add j))
      ∙ homes_stay (target_at y g) (contents y) y.k (entry S) 0 j k c (omega arith) h

  -- none whose own place is on a live target
  pub own_stays : (g c : ℕ) → failed R (target_at y g c) ≡ false → home_moves y R d g c ≡ false
  unfolding home_moves
  own_stays g c f =
      let q = a.sound.good.mended in
      ap not
      (eq-eqb _ _
      (own_home R R.q R.k g c (omega arith) f
      ∙ sym (own_home (without R d) (R.q - 1) (R.k - 1) g c (omega arith) (alive_stays R d few-entries a.is_failed (target_at y g c) f))))

  -- so at most k contents of a group move: a scratch of three units is enough
  pub few-move : (g : ℕ) → count (home_moves y R d g) (contents y) ≤ R.k
  few-move g =
      omega (
        arith,
        count_weaker (home_moves y R d g) (λ c. listed (entry R) R.k (target_at y g c)) (contents y)
            (λ c h t.
            ⊎_elim (λ (q : failed R (target_at y g c) ≡ true). q) (λ (q : failed R (target_at y g c) ≡ false). clash (home_moves y R d g c) t (own_stays g c q))
            (either_way (failed R (target_at y g c)))),
        on-listed (target_at y g) (contents y) y.k (entry R) (units_apart y a.sound.valid g) (λ c. c)
            (record { below = λ c h. omega arith; differ = λ c c' h h' e. e }) R.k,
      )

-- ---- what stands where
