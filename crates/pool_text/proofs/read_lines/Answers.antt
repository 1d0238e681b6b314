-- `pool_text::read_lines` meets its contract: before line i the lines before it are right and their bytes stand in the image.
use Prim.Native.Nat.{ℕ, ◌+◌, ◌*◌, ◌-◌, ◌<◌}
use mathlib.Core.Path.{◌≡◌, sym, ap, ◌∙◌, subst}
use native.Mathlib.Omega.{arith}
use Rattle.pool_text.specs.Text.{line_length, line_count}
use Rattle.pool_text.specs.Places.{lines_are, next_start, unit_in_lem}
use Rattle.pool_text.specs.ReadLoop.{Underway, underway_next, underway-wrong, underway_cut, underway_long, underway-done, line-here}
use Rattle.pool_text.proofs.read_lines.Goals as goal

pub returns-then-text-here : goal.returns-then-text-here
returns-then-text-here c = let y = c.args.y in
    let lines = lines_are y c.args.frames c.requires.1 in
    let l = c.loop-i in
    let i = l.here.i in
    let cut = underway_cut y c.args.text.now i l.invariant.0 (omega (arith, lines, l.invariant.3)) (let a = l.invariant.1.at_is in let b = l.invariant.2 in omega (arith, a, b)) in
    record { lines = record { len = l.invariant.0.stored.len; first = ap (λ (k : ℕ). k + 1) (sym l.invariant.3) ∙ cut; told = λ (z : l.i + 1 ≡ 0). absurd (omega (arith, z)) }; from_1 = omega arith }

pub read_line-requires : goal.read_line-requires
read_line-requires c = let y = c.args.y in
    let lines = lines_are y c.args.frames c.requires.1 in
    let l = c.loop-i in
    let i = l.here.i in
    let more : i < line_count y = omega (arith, lines, l.invariant.3) in
    let last = unit_in_lem y i more (y.u - 1) (omega (arith, c.requires.0.some_bytes)) in
    let b = l.invariant.1.begins_is in
    let a = l.invariant.2 in
    (omega (arith, a), omega (arith, last, b, c.requires.2, l.invariant.0.stored.len, c.requires.0.some_bytes))

pub returns-then-not-read_line : goal.returns-then-not-read_line
returns-then-not-read_line c = let y = c.args.y in
    let lines = lines_are y c.args.frames c.requires.1 in
    let l = c.loop-i in
    let i = l.here.i in
    let r = c.read_line.ensures in
    let wrong = underway-wrong y c.args.text.now i l.invariant.0 (omega (arith, lines, l.invariant.3)) (sym (line-here y c.args.text.now l.here l.invariant.1) ∙ sym r.0 ∙ c.if-not-read_line.true) in
    record { lines = record { len = r.1.len ∙ l.invariant.0.stored.len; first = ap (λ (k : ℕ). k + 1) (sym l.invariant.3) ∙ wrong; told = λ (z : l.i + 1 ≡ 0). absurd (omega (arith, z)) }; from_1 = omega arith }

pub loop-i-preserved : goal.loop-i-preserved
loop-i-preserved c = let y = c.args.y in
    let lines = lines_are y c.args.frames c.requires.1 in
    let l = c.loop-i in
    let i = l.here.i in
    let n = c.next_line-here.ensures in
    let r = c.read_line.ensures in
    let right = sym (line-here y c.args.text.now l.here l.invariant.1) ∙ sym r.0 ∙ c.if-not-read_line.false in
    let a = l.invariant.1.at_is in
    let a' : c.next_line-here.result.at ≡ line_length y * i + line_length y = n.0.at_is ∙ ap (λ (k : ℕ). line_length y * k) n.1 ∙ next_start (line_length y) i in
    let b = l.invariant.2 in (
      subst (λ (k : ℕ). Underway y c.args.text.now k c.args.image.now c.read_line.new.image) (sym n.1)
          (underway_next y c.args.text.now l.here l.invariant.1 l.invariant.0 (omega (arith, lines, l.invariant.3)) right r.1),
      n.0,
      omega (arith, a, a', b),
      n.1 ∙ ap (λ (k : ℕ). k + 1) l.invariant.3,
    )

pub returns-then-here-text : goal.returns-then-here-text
returns-then-here-text c = let y = c.args.y in
    let lines = lines_are y c.args.frames c.requires.1 in
    let l = c.loop-i in
    let i = l.here.i in
    let a = l.invariant.1.at_is in
    let long = underway_long y c.args.text.now i l.invariant.0 (omega (arith, lines, l.invariant.3)) (λ q. omega (arith, a, q)) in
    record { lines = record { len = l.invariant.0.stored.len; first = ap (λ (n : ℕ). n + 1) lines ∙ long; told = λ (z : y.p * c.args.frames + 1 ≡ 0). absurd (omega (arith, z)) }; from_1 = omega arith }

pub returns : goal.returns
returns c = let y = c.args.y in
    let lines = lines_are y c.args.frames c.requires.1 in
    let l = c.loop-i in
    let i = l.here.i in
    let a = l.invariant.1.at_is in
    record { lines = underway-done y c.args.text.now i l.invariant.0 (omega (arith, lines, l.invariant.3)) (sym a ∙ c.if-here-text.false) c.requires.2; from_1 = tt }
