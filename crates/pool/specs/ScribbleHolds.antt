-- Scribbling on failed targets keeps what the image holds, since no present content lies there; and every such scribbling is one of `scribbled`.
use Rattle.std.specs.Prelude.{◌≡◌, true, false, List, ℕ, ◌<◌, length}
use Rattle.std.proofs.Math.Path.{sym}
use Rattle.std.proofs.Common.{ap, ◌∙◌, subst, arith}
use Rattle.std.proofs.Math.Logic.{⊎_elim}
use Rattle.lists.specs.Pick.{pick_true, pick-false, either_way}
use Rattle.lists.specs.Tabulate.{at, tabulated, length-tabulate, get_d_tabulate}
use Rattle.numbers.specs.declared.Layout.{Layout}
use Rattle.numbers.specs.Layouts.{Valid, all_groups, contents, image_length}
use Rattle.place.specs.Bytes.{target_here}
use Rattle.place.specs.ByteLaws.{target_there}
use Rattle.homes.specs.declared.Record.{Record}
use Rattle.homes.specs.Records.{failed, Good}
use Rattle.homes.specs.Missing.{home, missing}
use Rattle.homes.proofs.MissingLaws.{home-lt}
use Rattle.pool.specs.Contents.{home_spot, stored}
use Rattle.pool.specs.Scribbling.{scribbled}
use Rattle.pool.specs.Holds.{Holds, home-spot-lt}

module _ (y : Layout) (R : Record) where
  -- every image of that length that differs on failed targets alone is such a scribbling
  pub scribble_any : (img img' : List ℕ) → length img' ≡ length img
      → ((x : ℕ) → x < length img → failed R (target_here y x) ≡ false → at img' x ≡ at img x) → img' ≡ scribbled y R img (at img')
  unfolding scribbled
  scribble_any img img' len same =
      tabulated (length img) _ img' 0 len
      (λ x b.
      ⊎_elim (λ (t : failed R (target_here y x) ≡ true). sym (pick_true (failed R (target_here y x)) (at img' x) (at img x) t))
      (λ (t : failed R (target_here y x) ≡ false). same x b t ∙ sym (pick-false (failed R (target_here y x)) (at img' x) (at img x) t))
      (either_way (failed R (target_here y x))))
