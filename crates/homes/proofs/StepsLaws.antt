-- What the steps of the code show: of the record's test, of the search for a spare, of a move, and of a list with one entry fewer.
use Rattle.std.specs.Prelude.{◌≡◌, refl, List, ℕ, ◌+◌, ◌≤◌, ◌<◌}
use Rattle.std.proofs.Math.Path.{sym, ap}
use Rattle.std.proofs.Common.{◌∙◌, add-one, arith}
use Rattle.lists.specs.Tabulate.{at}
use Rattle.homes.specs.Homes.{move, homes}
use Rattle.homes.proofs.HomesLaws.{homes_apart}
use Rattle.homes.specs.Standing.{Units, Standing, HomesAre}
use Rattle.homes.proofs.StandingLaws.{move_cong}

module _ (targets failed : List ℕ) (m spares j : ℕ) (s : Standing targets m spares j) where
  pub homes_units : (i : ℕ) → i ≤ j → (h : List ℕ) → HomesAre targets m spares failed i h → Units targets h m spares
  homes_units i le h are =
      let k = s.few in
      record {
        few-contents = s.few-contents;
        few_units = let a = s.few-contents in let b = s.few_spares in omega arith;
        units = λ c b. let l = (homes_apart (at targets) m spares (at failed) s.apart i (omega arith)).below c b in omega (arith, are c b);
      }

  pub homes_turn : (i : ℕ) → i < j → (h r : List ℕ) → HomesAre targets m spares failed i h
      → ((c : ℕ) → c < m → at r c ≡ move (at targets) m spares (at failed) i (at h) c) → HomesAre targets m spares failed (i + 1) r
  unfolding homes
  homes_turn i lt h r are next c b =
      let k = s.few in
      next c b
      ∙ move_cong (at targets) (at targets) m spares (at failed) (λ u l. refl) i (at h) (homes (at targets) m spares (at failed) i) are
      (homes_apart (at targets) m spares (at failed) s.apart i (omega arith)).below c b
      ∙ ap (λ (n : ℕ). homes (at targets) m spares (at failed) n c) (sym (add-one i))
