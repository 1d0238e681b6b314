-- `pool_text::read_text` meets its contract: each way out is one of those that the tests and the lines leave.
use Prim.Native.Nat.{ℕ}
use mathlib.Core.Path.{refl, sym, ap, ◌∙◌, subst}
use mathlib.Core.List.{List}
use native.Mathlib.Omega.{arith}
use Rattle.lists.specs.Tabulate.{zeros}
use Rattle.pool_text.specs.TextCalls.{ReadsText}
use Rattle.pool_text.specs.CallLaws.{image_tested}
use Rattle.pool_text.proofs.CallLaws.{reads_untested, reads_wrong, reads_right}
use Rattle.lists.specs.Numbered.{refusal_number}
use Rattle.lists.proofs.Answering.{refused}
use Rattle.pool_text.proofs.read_text.Goals as goal

pub returns-in-Err : goal.returns-in-Err
returns-in-Err c = let y = c.args.y in
    subst (λ (l : List ℕ). ReadsText y c.args.image.now c.args.text.now (refusal_number c.in-Err.refusal) 0 l) (sym c.clear.ensures)
    (reads_untested y c.args.image.now c.args.text.now _ c.in-Err.ensures (refused _))

pub numbers_of-m-requires : goal.numbers_of-m-requires
numbers_of-m-requires c = (image_tested _ _ (sym c.in_default.ensures)).valid

pub read_lines-read-requires : goal.read_lines-read-requires
read_lines-read-requires c = let k = image_tested _ _ (sym c.in_default.ensures) in (k.valid, c.numbers_of-m.ensures.frames_is, k.exact)

pub returns-in-Err-read : goal.returns-in-Err-read
returns-in-Err-read c = let y = c.args.y in
    let r = c.in-Err-read.ensures in
    subst (λ (l : List ℕ). ReadsText y c.args.image.now c.args.text.now 12 c.in-Err-read.line l) (sym (c.clear-in-Err-read.ensures ∙ ap zeros r.lines.len))
    (reads_wrong y c.args.image.now c.args.text.now (sym c.in_default.ensures) _ r.lines.first (λ z. omega (arith, z, r.from_1)))

pub returns : goal.returns
returns c = let y = c.args.y in
    let r = c.in_default-read.ensures in
    subst (λ (l : List ℕ). ReadsText y c.args.image.now c.args.text.now 0 0 l) (sym (r.lines.told refl))
    (reads_right y c.args.image.now c.args.text.now (sym c.in_default.ensures) r.lines.first)
