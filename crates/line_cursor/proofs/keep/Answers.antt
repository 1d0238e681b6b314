-- `line_cursor::keep` meets its contract: the bytes that have room are put after the held ones.
use mathlib.Core.Path.{◌≡◌, ◌∙◌, ap}
use native.Mathlib.Omega.{arith}
use Prim.Native.Nat.{ℕ, ◌+◌, ◌-◌}
use lib.ListN.{take, drop}
use Rattle.line_cursor.specs.StepLaws.{keep_beginning, keep_held, keep_room}
use Rattle.line_cursor.proofs.keep.Goals as goal

pub returns : goal.returns
returns c = let a = c.args in
    let count = c.min-count.result in
    let here : a.from + count - a.from ≡ count = omega arith in
    let there : a.held + count - a.held ≡ count = omega arith in
    let part = c.copy_from_slice.ensures.after ∙ ap (λ (n : ℕ). take n (drop a.from a.piece.now)) here in
    record {
      beginning = keep_beginning a.piece.now a.line.now a.from a.end a.held (a.held + count - a.held) c.requires c.min-count.ensures there part;
      held = keep_held a.piece.now a.line.now a.from a.end a.held (a.held + count - a.held) c.requires c.min-count.ensures there part;
      room = keep_room a.piece.now a.line.now a.from a.end a.held (a.held + count - a.held) c.requires c.min-count.ensures there part;
    }
