-- `replay_line::play_write` meets its contract: the bytes and the offset are those that the line tells.
use Prim.Native.Nat.{ℕ, ◌*◌}
use mathlib.Core.Path.{sym, ap, ◌∙◌}
use native.Mathlib.Omega.{arith}
use lib.Seq.{length-take-le}
use mathlib.Core.List.{[]}
use Rattle.hex_text.specs.Digit.{digits_at}
use Rattle.trace.specs.FormLaws.{write_length, write_digits}
use Rattle.answers.specs.Decimal.{printed}
use Rattle.replay_line.specs.PlayLaws.{said_as, bytes_read, write_said}
use Rattle.replay_line.proofs.play_write.Goals as goal

pub tell_bytes-requires : goal.tell_bytes-requires
tell_bytes-requires c = let a = c.args in
    let l = write_length a.line.now c.requires.0 in
    let e = c.byte_count-count.ensures in
    (omega (arith, l.0, e), omega (arith, l.0, l.1, e), ap (λ (n : ℕ). digits_at a.line.now 20 (2 * n)) e ∙ write_digits a.line.now c.requires.0)

pub number_at-offset-requires : goal.number_at-offset-requires
number_at-offset-requires c = let l = write_length c.args.line.now c.requires.0 in (omega (arith, l.0), omega arith)

pub slice_bounds-bytes-end : goal.slice_bounds-bytes-end
slice_bounds-bytes-end c = let l = write_length c.args.line.now c.requires.0 in omega (arith, l.0, l.1, c.byte_count-count.ensures, c.tell_bytes.ensures.len)

pub slice_bounds-write-end : goal.slice_bounds-write-end
slice_bounds-write-end c = let l = write_length c.args.line.now c.requires.0 in
    sym (length-take-le c.byte_count-count.result _ (omega (arith, l.0, l.1, c.byte_count-count.ensures, c.tell_bytes.ensures.len)))

pub returns : goal.returns
returns c = let a = c.args in
    let l = write_length c.args.line.now c.requires.0 in
    let e = c.byte_count-count.ensures in
    write_said a.y a.r a.image.now a.line.now a.answer.now c.number_at-offset.ensures
    (bytes_read a.line.now _ _ e (omega (arith, l.0, l.1, e)) c.tell_bytes.ensures) c.write.ensures
    (said_as (ap (λ (n : ℕ). printed n []) c.answer_number-number.ensures) c.say.ensures)
