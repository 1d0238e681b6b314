-- What a write and a repair change, on any image and for any input: only what they store; and a repair never a byte of a failed target.
use Rattle.std.specs.Prelude.{◌≡◌, refl, ◌⊎◌, Bool, true, false, not, List, [], ℕ, ◌≤◌, ◌<◌, length}
use Rattle.std.proofs.Common.{sym, ap, ◌∙◌, subst, inl, arith}
use Rattle.std.proofs.Math.Logic.{⊎_elim}
use Rattle.std.proofs.Math.Dec.{ltb}
use Rattle.lists.specs.Pick.{both, both_off, pick_true, pick-false, either_way, clash, not-both_ways, equal_or_not}
use Rattle.lists.specs.Part.{within, within_of}
use Rattle.lists.specs.Search.{any_false}
use Rattle.lists.specs.Tabulate.{at}
use Rattle.numbers.specs.declared.Layout.{Layout}
use Rattle.numbers.specs.Layouts.{Valid}
use Rattle.place.specs.Bytes.{offset_of, target_here}
use Rattle.place.specs.ByteLaws.{target_there}
use Rattle.homes.specs.declared.Record.{Record}
use Rattle.homes.specs.Records.{failed}
use Rattle.homes.specs.Missing.{target_at, home, missing}
use Rattle.homes.proofs.MissingLaws.{home-lt, home_alive}
use Rattle.pool.specs.Refusals.{range_refusal, repair_refusal}
use Rattle.pool.specs.Storing.{Stores}
use Rattle.pool.specs.Writing.{named, touched, writes, writes_present, written_image, write_image}
use Rattle.pool.specs.Repairing.{mends, repair_image}
use Rattle.pool.specs.Asked.{range_asked, repair_asked}
use Rattle.pool.specs.StoringLaws.{storing-none, storing_changes}
use Rattle.pool.specs.WriteHolds.{write_refused}
use Rattle.pool.proofs.WriteHoldsLaws.{write_accepted}
use Rattle.pool.proofs.RepairHolds.{repair_refused, repair_accepted}
use Rattle.pool.specs.Changes.{Written, Mended, stores_target}

module _ (y : Layout) (R : Record) (img : List ℕ) where
  module _ (offset : ℕ) (bytes : List ℕ) where
    pub write_changes : (x : ℕ) → x < length img → (at (write_image y R img offset bytes) x ≡ at img x) ⊎ Written y R offset (length bytes) x
    write_changes x h =
        equal_or_not (range_refusal y R (length img) offset (length bytes)) 0
        (λ (z : range_refusal y R (length img) offset (length bytes) ≡ 0).
        let s = (range_asked y R (length img) offset (length bytes) z).0 in
        subst (λ (i : List ℕ). (at i x ≡ at img x) ⊎ Written y R offset (length bytes) x) (sym (write_accepted y R img offset bytes z))
        (storing_changes y s.valid R R.q _ _ img s.len_is x h))
        (λ (z : range_refusal y R (length img) offset (length bytes) ≡ 0 → ⊥). inl (ap (λ (i : List ℕ). at i x) (write_refused y R img offset bytes z)))

  pub repair_changes : (x : ℕ) → x < length img → (at (repair_image y R img) x ≡ at img x) ⊎ Mended y R x
  repair_changes x h =
      equal_or_not (repair_refusal y R (length img)) 0
      (λ (z : repair_refusal y R (length img) ≡ 0).
      let s = repair_asked y R (length img) z in
      subst (λ (i : List ℕ). (at i x ≡ at img x) ⊎ Mended y R x) (sym (repair_accepted y R img z))
      (storing_changes y s.valid R R.k _ _ img s.len_is x h))
      (λ (z : repair_refusal y R (length img) ≡ 0 → ⊥). inl (ap (λ (i : List ℕ). at i x) (repair_refused y R img z)))

  -- a repair changes no byte of a failed target
  pub repair_spares_failed : (x : ℕ) → x < length img → failed R (target_here y x) ≡ true → at (repair_image y R img) x ≡ at img x
  repair_spares_failed x h f =
      equal_or_not (repair_refusal y R (length img)) 0
      (λ (z : repair_refusal y R (length img) ≡ 0).
      let s = repair_asked y R (length img) z in
      ⊎_elim (λ e. e)
      (λ w. clash (failed R (target_here y x)) f
      (ap (failed R) (stores_target y R R.k _ x s.valid s.good.few w) ∙ home_alive y s.valid R w.g R.k s.good.few w.c w.c_lt))
      (repair_changes x h))
      (λ (z : repair_refusal y R (length img) ≡ 0 → ⊥). ap (λ (i : List ℕ). at i x) (repair_refused y R img z))

-- a write of no bytes stores nothing
module _ (y : Layout) (R : Record) (img : List ℕ) (offset : ℕ) (bytes : List ℕ) (none : length bytes ≡ 0) where
  unnamed : (x : ℕ) → within offset (length bytes) x ≡ false
  unnamed x = not-both_ways _ (λ t. let b = (within_of offset (length bytes) x t).1 in absurd (omega (arith, b, none)))

  unwritten : (g o c : ℕ) → writes y offset (length bytes) g o c ≡ false
  unfolding writes touched
  unwritten g o c =
      ⊎_elim
      (λ (t : ltb c y.n ≡ true). pick_true (ltb c y.n) _ _ t ∙ unnamed (offset_of y g c o))
      (λ (t : ltb c y.n ≡ false). pick-false (ltb c y.n) _ _ t ∙ any_false (λ d. named y offset (length bytes) g o d) y.n (λ d h. unnamed (offset_of y g d o)))
      (either_way (ltb c y.n))

  pub written_none : written_image y R img offset bytes ≡ img
  written_none = storing-none y R R.q _ _ img (λ g o c. ap (both (not (missing y R g c))) (unwritten g o c) ∙ both_off (not (missing y R g c)))

-- and leaves the image, accepted or refused
pub write_none : (y : Layout) (R : Record) (img : List ℕ) (offset : ℕ) → write_image y R img offset [] ≡ img
write_none y R img offset =
    equal_or_not (range_refusal y R (length img) offset 0) 0
    (λ z. write_accepted y R img offset [] z ∙ written_none y R img offset [] refl)
    (λ z. write_refused y R img offset [] z)
