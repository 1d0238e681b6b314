-- After a write the image holds the file with the bytes laid on.
use Rattle.std.specs.Prelude.{◌≡◌, true, ℕ, ◌-◌, ◌≤◌, ◌<◌}
use Rattle.std.proofs.Math.Path.{sym, ap, subst}
use Rattle.std.proofs.Common.{◌∙◌, arith}
use Rattle.std.proofs.Math.Logic.{⊎_elim}
use Rattle.std.proofs.Math.Bool.{false}
use mathlib.Core.List.{List}
use borrow.Author.Tests.{ltb-true}
use Rattle.std.proofs.Math.Dec.{ltb}
use Rattle.std.proofs.Math.ListN.{length}
use Rattle.lists.specs.Pick.{pick, pick_true, pick-false, either_way, equal_or_not}
use Rattle.lists.specs.Part.{within, within_of}
use Rattle.lists.specs.Search.{any, any_none}
use Rattle.lists.specs.Tabulate.{at, length-tabulate, get_d_tabulate}
use Rattle.lists.specs.Refusal.{grant_yes, grant_no}
use Rattle.numbers.specs.declared.Layout.{Layout}
use Rattle.numbers.specs.Layouts.{Valid, all_groups, contents}
use Rattle.place.specs.Bytes.{offset_of}
use Rattle.place.specs.ByteLaws.{offset_lt}
use Rattle.parity.specs.Group.{content}
use Rattle.parity.specs.Content.{content_data, content_cong}
use Rattle.homes.specs.declared.Record.{Record}
use Rattle.homes.specs.Missing.{missing}
use Rattle.pool.specs.Contents.{home_spot, stored}
use Rattle.pool.specs.Refusals.{range_refusal}
use Rattle.pool.specs.Writing.{named, touched, writes, laid, written_image, write_image}
use Rattle.pool.specs.Files.{written, encoded}
use Rattle.pool.specs.Asked.{Sound, range_asked}
use Rattle.pool.specs.StoringLaws.{storing-at, storing-length}
use Rattle.pool.specs.Holds.{Holds, data_holds}

-- a refused write leaves the image
pub write_refused : (y : Layout) (R : Record) (img : List ℕ) (offset : ℕ) (bytes : List ℕ) → (range_refusal y R (length img) offset (length bytes) ≡ 0 → ⊥)
    → write_image y R img offset bytes ≡ img
unfolding write_image
write_refused y R img offset bytes z = grant_no (range_refusal y R (length img) offset (length bytes)) _ img z
