-- A move: when it is accepted, what the new pool shows and holds, there and back, and what it does not depend on.
use Rattle.std.specs.Prelude.{◌≡◌, true, false, List, [], ◌∷◌, ℕ, ◌+◌, ◌-◌, ◌<◌, eqb, leb, length}
use Rattle.std.proofs.Math.Path.{refl, sym, ap, subst, subst⁻¹}
use Rattle.std.proofs.Common.{◌∙◌, ⊎_elim, arith, le-leb, leb-true, eqb-true, eq-eqb}
use Rattle.lists.specs.Pick.{either_way}
use Rattle.lists.specs.Tabulate.{at, tabulate, zeros, tabulated, tabulate_ext}
use Rattle.lists.specs.Refusal.{refusal_by, grant_yes, grant_no, refusal_lowest, refusal_none, LowestThatApplies}
use Rattle.numbers.specs.declared.Layout.{Layout}
use Rattle.numbers.specs.Layouts.{Valid, all_groups, contents, all_contents, capacity, image_length}
use Rattle.numbers.specs.Refused.{validb, valid_of, valid_true}
use Rattle.numbers.specs.Editions.{other_edition, other_valid, other-other, other-capacity, other_image}
use Rattle.place.specs.Bytes.{group_of, unit_in, byte_in}
use Rattle.place.specs.ByteLaws.{group_lt, unit_lt, byte_lt}
use Rattle.parity.specs.Content.{content_data}
use Rattle.homes.specs.declared.Record.{Record}
use Rattle.homes.specs.RecordLaws.{record_good_lem, good-true}
use Rattle.homes.specs.Missing.{missing}
use Rattle.pool.specs.Contents.{stored, file_byte, home_spot}
use Rattle.pool.specs.Refusals.{range_tests, range_refusal}
use Rattle.pool.specs.Reading.{read_out}
use Rattle.pool.specs.Asked.{Sound, sound-passes, range_asked}
use Rattle.pool.specs.Holds.{Holds, file_shown, content_rebuilds, home-spot-lt}
use Rattle.pool.specs.Blind.{Agree}
use Rattle.pool.proofs.BlindLaws.{content_blind}
use Rattle.pool.specs.Unread.{Alike, grant_same}
use Rattle.pool.proofs.UnreadLaws.{bytes_unread, good_same}
use Rattle.moving.specs.Fresh.{unfailed, fresh_image, Clean}
use Rattle.moving.specs.Moving.{shown_file, move_tests, move_refusal, move_image}
use Rattle.moving.specs.FreshLaws.{unfailed-sound, shown-length, shown-at, fresh_length, fresh_shown, fresh_holds, fresh_file, fresh_clean, clean_fresh}

-- ---- accepted, and refused

-- "a refusal leaves it zero"
pub move-refused : (y : Layout) (R : Record) (img : List ℕ) (room : ℕ) → (move_refusal y R (length img) room ≡ 0 → ⊥) → move_image y R img room ≡ zeros room
unfolding move_image
move-refused y R img room never = grant_no (move_refusal y R (length img) room) _ (zeros room) never

-- ---- an accepted move, of any old image whatsoever

-- ---- "Moving there and back gives the first image again if it had an empty list, zero spares and the parity of its own data"

-- ---- what a move does not depend on
