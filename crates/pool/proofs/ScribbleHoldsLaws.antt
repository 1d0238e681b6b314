-- Scribbling on failed targets keeps what the image holds, since no present content lies there; and every such scribbling is one of `scribbled`.
use Rattle.std.specs.Prelude.{◌≡◌, true, false, List, ℕ, ◌<◌, length}
use Rattle.std.proofs.Math.Path.{sym}
use Rattle.std.proofs.Common.{ap, ◌∙◌, subst, arith}
use Rattle.std.proofs.Math.Logic.{⊎_elim}
use Rattle.lists.specs.Pick.{pick_true, pick-false, either_way}
use Rattle.lists.specs.Tabulate.{at, tabulated, length-tabulate, get_d_tabulate}
use Rattle.numbers.specs.declared.Layout.{Layout}
use Rattle.numbers.specs.Layouts.{Valid, all_groups, contents, image_length}
use Rattle.place.specs.Bytes.{target_here}
use Rattle.place.specs.ByteLaws.{target_there}
use Rattle.homes.specs.declared.Record.{Record}
use Rattle.homes.specs.Records.{failed, Good}
use Rattle.homes.specs.Missing.{home, missing}
use Rattle.homes.proofs.MissingLaws.{home-lt}
use Rattle.pool.specs.Contents.{home_spot, stored}
use Rattle.pool.specs.Scribbling.{scribbled}
use Rattle.pool.specs.Holds.{Holds, home-spot-lt}

module _ (y : Layout) (R : Record) where
  pub scribble_length : (img : List ℕ) (ink : ℕ → ℕ) → length (scribbled y R img ink) ≡ length img
  unfolding scribbled
  scribble_length img ink = length-tabulate (length img) _

  module _ (v : Valid y) (r : Good y R) where
    -- a present content is as it was
    pub scribble_stored : (img : List ℕ) (ink : ℕ → ℕ) → length img ≡ image_length y → (g o c : ℕ) → g < all_groups y → o < y.u → c < contents y
        → missing y R g c ≡ false → stored y R (scribbled y R img ink) g o c ≡ stored y R img g o c
    unfolding scribbled stored missing
    scribble_stored img ink len g o c hg ho hc m =
        let f = r.few in
        let q = r.mended in
        let hu = home-lt y v R g R.q (omega arith) c hc in
        get_d_tabulate (length img) _ (home_spot y R g o c) 0
        (subst (λ (n : ℕ). home_spot y R g o c < n) (sym len) (home-spot-lt y R v r g o c hg ho hc))
        ∙ pick-false (failed R (target_here y (home_spot y R g o c))) _ _ (ap (failed R) (target_there y v g (home y R R.q g c) o hg hu ho) ∙ m)

    pub scribble_right : (img file : List ℕ) (ink : ℕ → ℕ) → Holds y R img file → Holds y R (scribbled y R img ink) file
    scribble_right img file ink k =
        record {
          image_length_lem = scribble_length img ink ∙ k.image_length_lem;
          file_length = k.file_length;
          file_bytes = k.file_bytes;
          present = λ g o c hg ho hc m. scribble_stored img ink k.image_length_lem g o c hg ho hc m ∙ k.present g o c hg ho hc m;
        }
