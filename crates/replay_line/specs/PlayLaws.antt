-- What the code's parts have done is what the line tells.
use Rattle.std.specs.Prelude.{◌≡◌, List, [], ◌∷◌, ℕ, ◌+◌, ◌*◌, ◌≤◌, ◌<◌, length, take}
use Rattle.std.proofs.Common.{sym, ap, ◌∙◌, subst, mul-le-mul_left, mul-le-mul_right, mul_comm, mul_assoc, arith, length-take-le, get_or-take}
use Rattle.lists.specs.Span.{Span}
use Rattle.lists.specs.Tabulate.{tabulated}
use Rattle.numbers.specs.declared.Layout.{Layout}
use Rattle.numbers.specs.Layouts.{Valid, width, groups, rows, capacity, image_length}
use Rattle.numbers.specs.Shapes.{width-groups-rows}
use Rattle.homes.specs.declared.Record.{Record}
use Rattle.hex_text.specs.Digit.{number_at}
use Rattle.hex_text.specs.Hex.{hex_of}
use Rattle.hex_text.specs.Line.{byte_at}
use Rattle.hex_text.specs.Runs.{bytes_from}
use Rattle.pool.specs.Asked.{range_asked}
use Rattle.pool.specs.Refusals.{range_refusal, fail_refusal, repair_refusal}
use Rattle.pool.specs.Reading.{read_out}
use Rattle.pool.specs.Writing.{write_image}
use Rattle.pool.specs.Failing.{fail_record}
use Rattle.pool.specs.Repairing.{repair_count}
use Rattle.pool.specs.Calls.{Writes, Fails, Repairs}
use Rattle.trace.specs.Forms.{byte_count, bytes_of}
use Rattle.answers.specs.Decimal.{decimal, printed}
use Rattle.replay_line.specs.Said.{Said}
use Rattle.replay_line.specs.SaidLaws.{printed-refused}

pub said_as : {text text' : List ℕ} {old : List ℕ} {n : ℕ} {new : List ℕ} → text ≡ text' → Said text old n new → Said text' old n new
said_as {old = old} {n = n} {new = new} e s = subst (λ (t : List ℕ). Said t old n new) e s

-- the bytes that were read from the line are those that it tells
pub bytes_read : (line old new : List ℕ) {count : ℕ} → count ≡ byte_count line → count ≤ length old → Span (bytes_from line 20 0) 0 (0 + count) old new
    → take count new ≡ bytes_of line
unfolding bytes_of
bytes_read line old new {count} e room s =
    tabulated (byte_count line) (λ j. byte_at line (20 + 2 * j)) (take count new) 0 (length-take-le count new (omega (arith, s.len, room)) ∙ e)
    (λ i h. let b : i < count = omega (arith, e, h) in get_or-take count new i 0 b ∙ s.done i (omega arith) (omega (arith, b)) ∙ ap (λ (x : ℕ). byte_at line (20 + 2 * x)) (omega arith))

-- ---- an accepted range is no longer than the image

data_inside : (y : Layout) → Valid y → capacity y ≤ image_length y
data_inside y v =
    let units : groups y * y.n ≤ y.p * rows y =
    subst (λ (b : ℕ). groups y * y.n ≤ b) (mul_comm (groups y) (width y) ∙ width-groups-rows y v) (mul-le-mul_left (groups y) (omega arith)) in
    let tiles : y.t * (groups y * y.n) ≤ y.t * (y.p * rows y) = mul-le-mul_left y.t units in
    let here = mul_assoc y.t (groups y) y.n in
    let there = mul_comm y.t (y.p * rows y) in
    mul-le-mul_right y.u (omega (arith, tiles, here, there))

pub range_room : (y : Layout) (R : Record) (len offset size : ℕ) {room : ℕ} → range_refusal y R len offset size ≡ 0 → 24 + 2 * len ≤ room → 24 + 2 * size ≤ room
range_room y R len offset size z h =
    let a = range_asked y R len offset size z in
    omega (arith, h, a.1, a.0.len_is, data_inside y a.0.valid)

-- ---- each event

module _ (y : Layout) (R : Record) (img line old : List ℕ) where
  pub write_said : {offset n len : ℕ} {bytes img' new : List ℕ} → offset ≡ number_at line 3 16 → bytes ≡ bytes_of line → Writes y R img offset bytes n img'
      → Said (printed n []) old len new
      → (img' ≡ write_image y R img (number_at line 3 16) (bytes_of line))
      × Said (printed (range_refusal y R (length img) (number_at line 3 16) (length (bytes_of line))) []) old len new
  write_said eo eb w s = (
    w.image ∙ (λ i. write_image y R img (eo i) (eb i)),
    said_as (ap (λ (n : ℕ). printed n []) (w.answer ∙ (λ i. range_refusal y R (length img) (eo i) (length (eb i))))) s,
  )

  pub fail_said : {target n len : ℕ} {R' : Record} {new : List ℕ} → target ≡ number_at line 3 2 → Fails y R img target n R' → Said (printed n []) old len new
      → (R' ≡ fail_record y R (length img) (number_at line 3 2)) × Said (printed (fail_refusal y R (length img) (number_at line 3 2)) []) old len new
  fail_said e f s = (
    f.rec ∙ ap (fail_record y R (length img)) e,
    said_as (ap (λ (n : ℕ). printed n []) (f.answer ∙ ap (fail_refusal y R (length img)) e)) s,
  )

  -- what a repair prints
  abbrev repair_text : List ℕ
  repair_text = printed (repair_refusal y R (length img)) (32 ∷ decimal (repair_count y R (length img)))

  pub repair_refused : {n count len : ℕ} {R' : Record} {img' new : List ℕ} → Repairs y R img n count R' img' → (n ≡ 0 → ⊥) → Said (printed n []) old len new
      → Said repair_text old len new
  repair_refused {n} p f s =
      said_as (printed-refused n (32 ∷ decimal (repair_count y R (length img))) f ∙ ap (λ (m : ℕ). printed m (32 ∷ decimal (repair_count y R (length img)))) p.answer) s

  pub repair_said : {n count len : ℕ} {R' : Record} {img' new : List ℕ} → Repairs y R img n count R' img' → n ≡ 0 → Said (printed 0 (32 ∷ decimal count)) old len new
      → Said repair_text old len new
  repair_said {n} {count} p z s = said_as (λ i. printed ((sym z ∙ p.answer) i) (32 ∷ decimal (p.pairs i))) s

  -- what a read prints
  abbrev read_text : List ℕ
  read_text =
      printed (range_refusal y R (length img) (number_at line 3 16) (number_at line 20 16)) (32 ∷ hex_of (read_out y R img (number_at line 3 16) (number_at line 20 16)))

  pub read_refused : {offset size n len : ℕ} {new : List ℕ} → offset ≡ number_at line 3 16 → size ≡ number_at line 20 16
      → n ≡ range_refusal y R (length img) offset size → (n ≡ 0 → ⊥) → Said (printed n []) old len new → Said read_text old len new
  read_refused {n = n} eo es e f s =
      said_as
      (printed-refused n _ f
      ∙ (λ i. printed ((e ∙ (λ j. range_refusal y R (length img) (eo j) (es j))) i) (32 ∷ hex_of (read_out y R img (number_at line 3 16) (number_at line 20 16)))))
      s

  pub read_said : {offset size n len : ℕ} {new : List ℕ} → offset ≡ number_at line 3 16 → size ≡ number_at line 20 16
      → n ≡ range_refusal y R (length img) offset size → n ≡ 0 → Said (printed 0 (32 ∷ hex_of (read_out y R img offset size))) old len new → Said read_text old len new
  read_said eo es e z s =
      said_as (λ i. printed ((sym z ∙ e ∙ (λ j. range_refusal y R (length img) (eo j) (es j))) i) (32 ∷ hex_of (read_out y R img (eo i) (es i)))) s
