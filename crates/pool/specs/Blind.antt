-- Calls see present contents alone: on two images that agree there, every call answers the same, and they agree there afterwards.
use Rattle.std.specs.Prelude.{◌≡◌, true, false, ℕ, ◌+◌, ◌-◌, ◌<◌, length}
use Rattle.std.proofs.Math.Path.{sym, ap, subst}
use Rattle.std.proofs.Common.{◌∙◌, arith}
use Rattle.std.proofs.Math.Logic.{⊎_elim}
use mathlib.Core.List.{List, []}
use Rattle.lists.specs.Pick.{pick, pick_true, pick-false, either_way, equal_or_not}
use Rattle.lists.specs.Tabulate.{at, tabulate_ext, zeros}
use Rattle.lists.specs.Refusal.{grant_yes, grant_no, grant-either}
use Rattle.numbers.specs.declared.Layout.{Layout}
use Rattle.numbers.specs.Layouts.{Valid, all_groups, contents}
use Rattle.place.specs.Bytes.{spot, group_of, unit_in, byte_in, offset_of}
use Rattle.place.specs.ByteLaws.{group_lt, unit_lt, byte_lt}
use Rattle.parity.specs.Content.{content_cong}
use Rattle.parity.specs.Local.{rebuilt_cong}
use Rattle.homes.specs.declared.Record.{Record}
use Rattle.homes.specs.Records.{Good}
use Rattle.homes.specs.Missing.{missing}
use Rattle.pool.specs.Contents.{home_spot, stored, content_byte, file_byte}
use Rattle.pool.specs.Refusals.{range_refusal, fail_refusal, repair_refusal, look_refusal}
use Rattle.pool.specs.Reading.{read_out}
use Rattle.pool.specs.Writing.{named, laid, write_image}
use Rattle.pool.specs.Failing.{grown, fail_record}
use Rattle.pool.specs.Repairing.{mended, repair_image, repair_record}
use Rattle.pool.specs.Looking.{look_scratch, look_shown}
use Rattle.pool.specs.Scribbling.{scribbled}
use Rattle.pool.specs.Asked.{Sound, range_asked, fail_asked, repair_asked, look_asked}
use Rattle.pool.specs.StoringLaws.{storing_same}
use Rattle.pool.specs.Holds.{solvable, home-spot-lt}
use Rattle.pool.specs.WriteHolds.{write_refused}
use Rattle.pool.specs.FailHolds.{home-grown, present-grown}
use Rattle.pool.specs.LookHolds.{part-stored}

-- two images that agree on the homes of present contents, where layout, length and record are sound so that there are any
pub record Agree (y : Layout) (R : Record) (img img' : List ℕ) : Type 0 where
  pub same_length : length img' ≡ length img
  pub present : Sound y R (length img) → (g o c : ℕ) → g < all_groups y → o < y.u → c < contents y → missing y R g c ≡ false → stored y R img g o c ≡ stored y R img' g o c

-- a content depends on the present bytes of its own column alone
pub content_local : (y : Layout) (R : Record) (img img' : List ℕ) → Valid y → Good y R → (g o : ℕ)
    → ((c : ℕ) → c < contents y → missing y R g c ≡ false → stored y R img g o c ≡ stored y R img' g o c)
    → (c : ℕ) → c < contents y → content_byte y R img g o c ≡ content_byte y R img' g o c
unfolding content_byte
content_local y R img img' v r g o same c hc =
    rebuilt_cong y.n y.k (missing y R g) (solvable y R v r g) (stored y R img g o) (stored y R img' g o) same c hc
