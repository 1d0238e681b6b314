-- Two images that agree elsewhere, but on failed targets and unused spares, agree elsewhere after every call, under the record that it returns.
use Rattle.std.specs.Prelude.{◌≡◌, Bool, true, false, not, ℕ, suc, ◌≤◌, ◌<◌, eqb, leb, length}
use Rattle.std.proofs.Common.{sym, ap, ◌∙◌, ⊎_elim, arith}
use Rattle.std.proofs.Math.Path.{subst}
use mathlib.Core.List.{List}
use Rattle.std.proofs.Math.Nat.{le_refl}
use Rattle.std.proofs.lemmas.Bool.{not-true}
use Rattle.lists.specs.Pick.{pick, both, pick_true, pick-false, either_way, both_true, clash, equal_or_not}
use Rattle.lists.specs.Search.{any, any_same}
use Rattle.lists.specs.Tabulate.{at}
use Rattle.lists.specs.Refusal.{grant-either}
use Rattle.numbers.specs.declared.Layout.{Layout}
use Rattle.numbers.specs.Layouts.{contents}
use Rattle.place.specs.Bytes.{target_here, unit_here}
use Rattle.homes.specs.declared.Record.{Record}
use Rattle.homes.specs.Listed.{unlisted_sub, listed_same}
use Rattle.homes.specs.Records.{entry, failed}
use Rattle.homes.specs.Missing.{home, missing}
use Rattle.pool.specs.Refusals.{range_refusal, fail_refusal, repair_refusal}
use Rattle.pool.specs.Writing.{write_image}
use Rattle.pool.specs.Failing.{grown, fail_record}
use Rattle.pool.specs.Repairing.{mended, repair_image, repair_record}
use Rattle.pool.specs.Asked.{Sound, range_asked, fail_asked, repair_asked}
use Rattle.pool.specs.WriteHolds.{write_refused}
use Rattle.pool.specs.FailHolds.{entry_same, home-grown}
use Rattle.pool.specs.Elsewhere.{is_home, unused_spare, unseen, home_seen, AgreeElsewhere, agree_of, elsewhere_of}

-- what is seen under one more entry was seen before
pub unseen-grown : (y : Layout) (R : Record) (t x : ℕ) → R.q ≤ R.k → unseen y (grown y R t) x ≡ false → unseen y R x ≡ false
unfolding unseen unused_spare is_home
unseen-grown y R t x le e =
    ⊎_elim
    (λ (f : failed (grown y R t) (target_here y x) ≡ true). clash (pick (failed (grown y R t) (target_here y x)) true (spare (grown y R t))) (pick_true _ true (spare (grown y R t)) f) e)
    (λ (f : failed (grown y R t) (target_here y x) ≡ false).
    pick-false (failed R (target_here y x)) true (spare R)
    (sym (listed_same (entry (grown y R t)) (entry R) R.k (target_here y x) (entry_same y R t))
    ∙ unlisted_sub (entry (grown y R t)) R.k (suc R.k) (target_here y x) (omega arith) f)
    ∙ ap (λ (b : Bool). both (leb (contents y) (unit_here y x).unit) (not b))
    (any_same _ _ (contents y) (λ c b. ap (λ (u : ℕ). eqb u (unit_here y x).unit) (sym (home-grown y R t R.q (unit_here y x).group c le))))
    ∙ sym (pick-false (failed (grown y R t) (target_here y x)) true (spare (grown y R t)) f) ∙ e)
    (either_way (failed (grown y R t) (target_here y x)))
  where
    spare : Record → Bool
    spare S = both (leb (contents y) (unit_here y x).unit) (not (any (λ c. eqb (home y S S.q (unit_here y x).group c) (unit_here y x).unit) (contents y)))
