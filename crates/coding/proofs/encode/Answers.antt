-- `coding::encode`. The loop keeps: the parity units below i are those of the data, the rest is as it was. A turn is `encode_turn`.
use Rattle.std.proofs.Common.{◌≡◌, ◌≤◌, ◌<◌, ◌+◌, ◌*◌, ℕ, List, refl, sym, ap, ◌∙◌, arith, length, get_or, le_trans, le-add_right, mul-le-mul_right, add-mul, add-zero}
use Rattle.lists.specs.Span.{span_none}
use Rattle.systems.specs.Coef.{coef}
use Rattle.coding.specs.Units.{unit_end, next_parity}
use Rattle.coding.specs.Encoding.{DataRun, data_units, data_unit_at, encode_turn, encode_all, data_apart}
use Rattle.coding.proofs.encode.Goals as goal

-- the starts and the coefficients are those of the data units
run : {n unit i : ℕ} {starts coefs : List ℕ} → n ≤ 16 → ((j : ℕ) → j < n → get_or starts j 0 ≡ get_or data_units j 0 * unit)
    → ((j : ℕ) → j < 16 → get_or coefs j 0 ≡ coef i j) → DataRun n unit i starts coefs
run {unit = unit} m s c =
    record {
      starts_at = λ j h. s j h ∙ ap (◌* unit) (data_unit_at j (le_trans h m));
      coefs_are = λ j h. c j (le_trans h m);
    }

pub starts_of-starts-requires : goal.starts_of-starts-requires
starts_of-starts-requires c = let a = c.args in (
  c.requires.0,
  λ j h.
      let e = data_unit_at j (le_trans h c.requires.0) in
      omega (arith, ap (◌* a.unit) e, unit_end j a.n a.unit h, add-mul a.n a.k a.unit, c.requires.3),
)

pub overflow_mul-at : goal.overflow_mul-at
overflow_mul-at c = let a = c.args in omega (arith, unit_end (a.n + c.loop-i.i) (a.n + a.k) a.unit (omega arith), c.requires.3)

pub loop-i-init : goal.loop-i-init
loop-i-init c = let a = c.args in (omega arith, span_none _ (a.n * a.unit) a.buf.now (ap (◌* a.unit) (add-zero a.n)))

pub combine_in-requires : goal.combine_in-requires
combine_in-requires c = let a = c.args in
    let p = c.requires in
    let l = c.loop-i in
    let w = l.invariant.1.len in
    let g = unit_end (a.n + l.i) (a.n + a.k) a.unit (omega arith) in (
      p.0,
      omega arith,
      data_apart a.n a.unit p.2 a.buf.now l.i c.starts_of-starts.result c.row.result (run p.0 c.starts_of-starts.ensures c.row.ensures)
          a.k _ (length l.buf) c.loop-i-test.true refl (w ∙ p.3),
    )

pub loop-i-preserved : goal.loop-i-preserved
loop-i-preserved c = let a = c.args in
    let p = c.requires in
    let l = c.loop-i in (
      omega arith,
      encode_turn a.n a.unit p.2 a.buf.now l.i c.starts_of-starts.result c.row.result (run p.0 c.starts_of-starts.ensures c.row.ensures)
          _ _ refl (next_parity a.n l.i a.unit) (mul-le-mul_right a.unit (le-add_right a.n l.i)) l.invariant.1 c.combine_in.ensures,
    )

pub shape_of-buf : goal.shape_of-buf
shape_of-buf c = c.loop-i.invariant.1.len

pub returns : goal.returns
returns c = let a = c.args in
    let p = c.requires in
    let l = c.loop-i in
    let e : l.i ≡ a.k = omega arith in
    encode_all a.n a.unit p.2 a.buf.now _ l.buf (ap (λ (z : ℕ). (a.n + z) * a.unit) e ∙ sym p.3) l.invariant.1
