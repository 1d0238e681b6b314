-- `replay_line::play_read` meets its contract: refused it says the number, accepted the bytes too, for which the buffer has room.
use Prim.Native.Nat.{ℕ}
use mathlib.Core.Path.{refl, sym, ap}
use mathlib.Core.List.{[]}
use native.Mathlib.Omega.{arith}
use Rattle.lists.proofs.Answering.{refused}
use Rattle.trace.specs.FormLaws.{read_length}
use Rattle.answers.specs.Decimal.{printed}
use Rattle.replay_line.specs.PlayLaws.{said_as, range_room, read_refused, read_said}
use Rattle.replay_line.proofs.play_read.Goals as goal

pub number_at-offset-requires : goal.number_at-offset-requires
number_at-offset-requires c = let l = read_length c.args.line.now c.requires.0 in (omega (arith, l), omega arith)

pub number_at-size-requires : goal.number_at-size-requires
number_at-size-requires c = let l = read_length c.args.line.now c.requires.0 in (omega (arith, l), omega arith)

pub say_bytes-requires : goal.say_bytes-requires
say_bytes-requires c = let a = c.args in
    let z = sym c.in-Ok.ensures in
    (z, range_room a.y a.r _ _ _ z c.requires.1)

pub returns-in-Ok : goal.returns-in-Ok
returns-in-Ok c = let a = c.args in
    read_said a.y a.r a.image.now a.line.now a.answer.now c.number_at-offset.ensures c.number_at-size.ensures c.in-Ok.ensures refl c.say_bytes.ensures

pub returns-in-Err : goal.returns-in-Err
returns-in-Err c = let a = c.args in
    read_refused a.y a.r a.image.now a.line.now a.answer.now c.number_at-offset.ensures c.number_at-size.ensures c.in-Err.ensures (refused _)
    (said_as (ap (λ (n : ℕ). printed n []) c.into.ensures) c.say.ensures)
