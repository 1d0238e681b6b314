-- What a write and a repair change, on any image and for any input: only what they store; and a repair never a byte of a failed target.
use Rattle.std.specs.Prelude.{◌≡◌, refl, ◌⊎◌, Bool, true, false, not, List, [], ℕ, ◌≤◌, ◌<◌, length}
use Rattle.std.proofs.Common.{sym, ap, ◌∙◌, subst, inl, arith}
use Rattle.std.proofs.Math.Logic.{⊎_elim}
use Rattle.std.proofs.Math.Dec.{ltb}
use Rattle.lists.specs.Pick.{both, both_off, pick_true, pick-false, either_way, clash, not-both_ways, equal_or_not}
use Rattle.lists.specs.Part.{within, within_of}
use Rattle.lists.specs.Search.{any_false}
use Rattle.lists.specs.Tabulate.{at}
use Rattle.numbers.specs.declared.Layout.{Layout}
use Rattle.numbers.specs.Layouts.{Valid}
use Rattle.place.specs.Bytes.{offset_of, target_here}
use Rattle.place.specs.ByteLaws.{target_there}
use Rattle.homes.specs.declared.Record.{Record}
use Rattle.homes.specs.Records.{failed}
use Rattle.homes.specs.Missing.{target_at, home, missing}
use Rattle.homes.proofs.MissingLaws.{home-lt, home_alive}
use Rattle.pool.specs.Refusals.{range_refusal, repair_refusal}
use Rattle.pool.specs.Storing.{Stores}
use Rattle.pool.specs.Writing.{named, touched, writes, writes_present, written_image, write_image}
use Rattle.pool.specs.Repairing.{mends, repair_image}
use Rattle.pool.specs.Asked.{range_asked, repair_asked}
use Rattle.pool.specs.StoringLaws.{storing-none, storing_changes}
use Rattle.pool.specs.WriteHolds.{write_refused}

-- "A write changes only the bytes it names and the parity bytes at the same unit offsets in the same groups": image byte x is one of them, at the
-- home of its content, which is present
abbrev pub Written : Layout → Record → ℕ → ℕ → ℕ → Type 0
Written y R offset size x = Stores y R R.q (writes_present y R offset size) x

-- "a repair changes only the new homes of units that were missing": image byte x is a byte of one of them
abbrev pub Mended : Layout → Record → ℕ → Type 0
Mended y R x = Stores y R R.k (mends y R) x

-- the target of what is stored
pub stores_target : (y : Layout) (R : Record) (j : ℕ) (on : ℕ → ℕ → ℕ → Bool) (x : ℕ) → Valid y → j ≤ y.k → (w : Stores y R j on x)
    → target_here y x ≡ target_at y w.g (home y R j w.g w.c)
stores_target y R j on x v le w =
    ap (target_here y) w.is_at ∙ target_there y v w.g (home y R j w.g w.c) w.o w.g-lt (home-lt y v R w.g j le w.c w.c_lt) w.o_lt
