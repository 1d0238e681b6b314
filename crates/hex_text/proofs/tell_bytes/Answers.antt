-- `hex_text::tell_bytes` meets its contract: before a block the blocks before it are told; block by block, and then the rest.
use Prim.Native.Nat.{◌-◌, ◌*◌, ◌/◌}
use mathlib.Core.Path.{refl}
use native.Mathlib.Omega.{arith}
use Rattle.lists.specs.Span.{span_to}
use Rattle.hex_text.specs.TellLaws.{digits_part, tell_more}
use Rattle.hex_text.proofs.tell_bytes.Goals as goal

pub tell_block-requires : goal.tell_block-requires
tell_block-requires c = let l = c.loop-block in
    let a = c.args in
    (omega arith, omega (arith, l.invariant.len), digits_part a.text.now a.from a.u c.requires.2 (32 * l.block) 32 refl (omega arith))

pub loop-block-preserved : goal.loop-block-preserved
loop-block-preserved c = let l = c.loop-block in
    let a = c.args in
    tell_more a.text.now a.from a.begins (32 * l.block) 32 (omega arith) l.invariant c.tell_block.ensures

pub tell_rest-requires : goal.tell_rest-requires
tell_rest-requires c = let l = c.loop-block in
    let a = c.args in
    (omega arith, omega (arith, l.invariant.len), digits_part a.text.now a.from a.u c.requires.2 (32 * (a.u / 32)) (a.u - 32 * (a.u / 32)) refl (omega arith))

pub returns : goal.returns
returns c = let l = c.loop-block in
    let a = c.args in
    tell_more a.text.now a.from a.begins (32 * (a.u / 32)) (a.u - 32 * (a.u / 32)) (omega arith) (span_to _ _ (omega arith) l.invariant) c.tell_rest.ensures
