-- `trace::write_fields` meets its contract: before field i at place `to`, what puts the rest of the line there has put all of it.
use native.Mathlib.Omega.{arith}
use Rattle.trace.specs.FieldLines.{writing_room, writing_turn, writing_done}
use Rattle.trace.proofs.write_fields.Goals as goal

pub write_number-requires : goal.write_number-requires
write_number-requires c = omega (arith, writing_room c.args.widths c.args.numbers c.args.n (omega arith) (omega arith) (c.loop-i.invariant (omega arith) (omega arith)) c.loop-i-test.true c.requires.1)

pub overflow_add-text : goal.overflow_add-text
overflow_add-text c = omega (arith, writing_room c.args.widths c.args.numbers c.args.n (omega arith) (omega arith) (c.loop-i.invariant (omega arith) (omega arith)) c.loop-i-test.true c.requires.1, (c.loop-i.invariant (omega arith) (omega arith)).long)

pub bounds-text-to : goal.bounds-text-to
bounds-text-to c = omega (arith, writing_room c.args.widths c.args.numbers c.args.n (omega arith) (omega arith) (c.loop-i.invariant (omega arith) (omega arith)) c.loop-i-test.true c.requires.1, c.write_number.ensures.len)

pub overflow_add-to : goal.overflow_add-to
overflow_add-to c = omega (arith, writing_room c.args.widths c.args.numbers c.args.n (omega arith) (omega arith) (c.loop-i.invariant (omega arith) (omega arith)) c.loop-i-test.true c.requires.1, (c.loop-i.invariant (omega arith) (omega arith)).long)

pub overflow_add-to-in-loop-i : goal.overflow_add-to-in-loop-i
overflow_add-to-in-loop-i c = omega (arith, writing_room c.args.widths c.args.numbers c.args.n (omega arith) (omega arith) (c.loop-i.invariant (omega arith) (omega arith)) c.loop-i-test.true c.requires.1, (c.loop-i.invariant (omega arith) (omega arith)).long)

pub loop-i-preserved : goal.loop-i-preserved
loop-i-preserved c = λ wide many. let i = c.loop-i in
    let a = c.args in
    writing_turn a.widths a.numbers a.n wide many (i.invariant wide many) c.loop-i-test.true c.requires.1 c.separator.result c.separator.ensures c.write_number.ensures

pub returns : goal.returns
returns c = let a = c.args in
    writing_done a.widths a.numbers a.n (omega arith) (omega arith) (c.loop-i.invariant (omega arith) (omega arith)) (omega arith)
