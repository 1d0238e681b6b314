-- `replay_line::play_repair` meets its contract: refused it says the number, accepted the count too.
use Prim.Native.Nat.{ℕ}
use mathlib.Core.Path.{refl, ap}
use mathlib.Core.List.{[]}
use Rattle.lists.proofs.Answering.{refused}
use Rattle.answers.specs.Decimal.{printed}
use Rattle.replay_line.specs.PlayLaws.{said_as, repair_refused, repair_said}
use Rattle.replay_line.proofs.play_repair.Goals as goal

pub returns-in-Ok : goal.returns-in-Ok
returns-in-Ok c = let a = c.args in
    let p = c.in-Ok.ensures in
    (p.rec, p.image, repair_said a.y a.r a.image.now [] a.answer.now p refl c.say_count.ensures)

pub returns-in-Err : goal.returns-in-Err
returns-in-Err c = let a = c.args in
    let p = c.in-Err.ensures in
    (p.rec, p.image, repair_refused a.y a.r a.image.now [] a.answer.now p (refused _) (said_as (ap (λ (n : ℕ). printed n []) c.into.ensures) c.say.ensures))
