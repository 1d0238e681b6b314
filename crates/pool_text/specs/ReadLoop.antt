-- The reader's loop: before line i the lines before it are right, and their bytes stand in the image; and what is known at each way out.
use Rattle.std.specs.Prelude.{◌≡◌, refl, true, List, leb, eqb}
use Rattle.std.proofs.Math.Path.{sym, ap}
use Rattle.std.proofs.Common.{◌∙◌, subst, mul-zero, not-suc-le-zero, arith}
use Rattle.std.proofs.Math.Bool.{false, not}
use Prim.Native.Nat.{ℕ, suc, ◌+◌, ◌*◌, ◌-◌, ◌≤◌, ◌<◌}
use Rattle.std.proofs.Math.Numerals.{add-one}
use Rattle.std.proofs.Math.ListN.{length}
use borrow.Author.Tests.{eq-eqb, ne_eqb, lt-leb}
use Rattle.lists.specs.Pick.{pick_true, pick-false, both_true, both_hold, clash, not-both_ways, equal_or_not}
use Rattle.lists.specs.Search.{all, all-at, all_true, lowest, lowest-at, lowest-none, any_false}
use Rattle.lists.specs.Span.{Span, span_none, span_join, span_to}
use Rattle.lists.specs.Tabulate.{tabulated}
use Rattle.numbers.specs.declared.Layout.{Layout}
use Rattle.numbers.specs.Layouts.{image_length}
use Rattle.hex_text.specs.Line.{line_right, byte_at}
use Rattle.hex_text.specs.Runs.{bytes_from}
use Rattle.pool_text.specs.declared.Line.{Line}
use Rattle.pool_text.specs.Text.{line_length, line_count, text_length}
use Rattle.pool_text.specs.Reading.{right_at, text_right, first_wrong, text_byte, text_image}
use Rattle.pool_text.specs.Places.{image_lines, next_start}
use Rattle.pool_text.specs.Here.{Here}
use Rattle.pool_text.specs.RoundTrip.{byte_here}

-- before line i
pub record Underway (y : Layout) (text : List ℕ) (i : ℕ) (old image : List ℕ) : Type 0 where
  pub upto : i ≤ line_count y
  pub right : (k : ℕ) → k < i → right_at y text k ≡ true
  pub stored : Span (text_byte y text) 0 (y.u * i) old image

-- all lines read: the answer is the first wrong line, and where there is none the image is what the text tells
pub record LinesRead (y : Layout) (text old new : List ℕ) (answer : ℕ) : Type 0 where
  pub len : length new ≡ length old
  pub first : answer ≡ first_wrong y text
  pub told : answer ≡ 0 → new ≡ text_image y text

module _ (y : Layout) (text : List ℕ) where
  pub underway-start : (old : List ℕ) → Underway y text 0 old old
  underway-start old =
      record { upto = omega arith; right = λ k b. absurd (not-suc-le-zero b); stored = span_none (text_byte y text) 0 old (mul-zero y.u) }

  -- line i of the text, by the numbers kept of it
  pub line-here : (l : Line) → Here y l → line_right text l.at l.target l.frame y.u ≡ right_at y text l.i
  line-here l h = (λ k. line_right text (h.at_is k) (h.target_is k) (h.frame_is k) y.u)

  byte_stored_lem : (l : Line) → Here y l → (x : ℕ) → y.u * l.i ≤ x → x < y.u * (l.i + 1) → bytes_from text (l.at + 10) l.begins x ≡ text_byte y text x
  byte_stored_lem l h x a b =
      (λ k. byte_at text (h.at_is k + 10 + 2 * (x - h.begins_is k)))
      ∙ ap (byte_at text) (let q : line_length y * l.i + 10 + 2 * (x - y.u * l.i) ≡ line_length y * l.i + (10 + 2 * (x - y.u * l.i)) = omega arith in q)
      ∙ sym (byte_here y text l.i (x - y.u * l.i) (let q = next_start y.u l.i in omega (arith, q)))
      ∙ ap (text_byte y text) (let q : y.u * l.i + (x - y.u * l.i) ≡ x = omega arith in q)

  -- a right line more
  pub underway_next : (l : Line) → Here y l → {old image new : List ℕ} → Underway y text l.i old image → l.i < line_count y → right_at y text l.i ≡ true
      → Span (bytes_from text (l.at + 10) l.begins) l.begins (l.begins + y.u) image new → Underway y text (l.i + 1) old new
  underway_next l h {old} {image} {new} s b r t =
      record {
        upto = omega arith;
        right = λ k c. equal_or_not k l.i (λ (e : k ≡ l.i). ap (right_at y text) e ∙ r) (λ (n : k ≡ l.i → ⊥). s.right k (omega arith));
        stored =
            span_join (text_byte y text) told (text_byte y text) 0 (y.u * l.i) (y.u * (l.i + 1)) (omega arith) (let q = next_start y.u l.i in omega (arith, q)) s.stored
            (span_to _ _ (sym (next_start y.u l.i))
            (subst (λ (a : ℕ). Span told a (a + y.u) image new) h.begins_is t))
            (λ x a c. refl) (byte_stored_lem l h);
      }
    where
      told : ℕ → ℕ
      told = bytes_from text (l.at + 10) l.begins

  -- ---- the ways out of the loop

  not_right : text_right y text ≡ false → first_wrong y text ≡ suc (lowest (λ i. not (right_at y text i)) (line_count y))
  unfolding first_wrong
  not_right t = pick-false (text_right y text) 0 _ t

  module _ (i : ℕ) {old image : List ℕ} (s : Underway y text i old image) where
    -- at line i: it is wrong
    pub underway-wrong : i < line_count y → right_at y text i ≡ false → i + 1 ≡ first_wrong y text
    unfolding text_right
    underway-wrong h w =
        add-one i
        ∙ sym (not_right
        (not-both_ways (text_right y text)
        (λ (t : text_right y text ≡ true).
        clash (right_at y text i) (all-at (right_at y text) (line_count y) (both_true (all (right_at y text) (line_count y)) (eqb (length text) (text_length y)) t).0 i h) w))
        ∙ ap suc (lowest-at (λ k. not (right_at y text k)) (line_count y) i h (ap not w) (λ k b. ap not (s.right k b))))

    -- .. since the text ends before it does
    pub underway_cut : i < line_count y → length text < line_length y * i + line_length y → i + 1 ≡ first_wrong y text
    unfolding line_right
    underway_cut h b = underway-wrong h (pick-false (leb (line_length y * i + line_length y) (length text)) _ false (lt-leb (line_length y * i + line_length y) (length text) b))

    module _ (over : line_count y ≤ i) where
      last : i ≡ line_count y
      last = let u = s.upto in omega (arith, u)

      all_right : all (right_at y text) (line_count y) ≡ true
      all_right = all_true (right_at y text) (line_count y) (λ k b. s.right k (let e = last in omega (arith, e)))

      -- after the last line: something follows
      pub underway_long : (line_length y * i ≡ length text → ⊥) → line_count y + 1 ≡ first_wrong y text
      unfolding text_right
      underway_long f =
          add-one (line_count y)
          ∙ sym (not_right
          (pick_true (all (right_at y text) (line_count y)) _ false all_right
          ∙ ne_eqb (length text) (text_length y) (λ (q : length text ≡ text_length y). f (ap (λ (k : ℕ). line_length y * k) last ∙ sym q)))
          ∙ ap suc (lowest-none (λ k. not (right_at y text k)) (line_count y)
          (any_false (λ k. not (right_at y text k)) (line_count y) (λ k b. ap not (s.right k (let e = last in omega (arith, e)))))))

      -- .. or nothing does, and all is read
      pub underway-done : line_length y * i ≡ length text → length old ≡ image_length y → LinesRead y text old image 0
      unfolding first_wrong text_right text_image
      underway-done q len =
          record {
            len = s.stored.len;
            first =
                sym (pick_true (text_right y text) 0 _
                (both_hold (all (right_at y text) (line_count y)) _ all_right
                (eq-eqb (length text) (text_length y) (sym q ∙ ap (λ (k : ℕ). line_length y * k) last))));
            told = λ z.
                tabulated (image_length y) (text_byte y text) image 0 (s.stored.len ∙ len)
                (λ x b. s.stored.done x (omega arith) (subst (λ (n : ℕ). x < n) (image_lines y ∙ ap (λ (k : ℕ). y.u * k) (sym last)) b));
          }
