-- Each kind by its number, and what a line of a kind is known by.
use Rattle.std.specs.Prelude.{◌≡◌, Bool, ℕ, ◌+◌, ◌*◌, ◌-◌, ◌≤◌, ◌<◌, leb, length}
use Rattle.std.proofs.Math.Path.{refl, sym, ap}
use Rattle.std.proofs.Common.{◌∙◌, arith}
use Rattle.std.proofs.Math.Logic.{⊎_elim}
use Rattle.std.proofs.Math.Bool.{true, false}
use mathlib.Core.List.{List, [], ◌∷◌}
use Rattle.std.proofs.Math.Dec.{eqb}
use Rattle.std.proofs.Math.ListN.{get_or-eq_default}
use borrow.Author.Tests.{ne_eqb, eqb-true, lt-leb, le-leb, leb-true}
use Rattle.lists.specs.Pick.{pick, pick_true, pick-false, both, both_true, both_off, either_way, clash, not-both_ways}
use Rattle.lists.specs.Part.{within}
use Rattle.lists.specs.Tabulate.{at}
use Rattle.hex_text.specs.Digit.{digit_value, digits_at, number_at}
use Rattle.trace.specs.Fields.{separator, fields_at}
use Rattle.trace.specs.FieldLaws.{fields_length, fields_first, fields_ended}
use Rattle.trace.specs.Forms.{byte_count, form_of, kind_of}
use Rattle.trace.specs.Kinds.{NoKind}

-- ---- the fields of a kind

module _ (count kind : ℕ) where
  pub form_write : kind ≡ 1 → form_of count kind ≡ 2 ∷ 16 ∷ 2 * count ∷ []
  unfolding form_of
  form_write e = ap (form_of count) e

  pub form_fail : kind ≡ 2 → form_of count kind ≡ 2 ∷ 2 ∷ []
  unfolding form_of
  form_fail e = ap (form_of count) e

  pub form_repair : kind ≡ 3 → form_of count kind ≡ 2 ∷ []
  unfolding form_of
  form_repair e = ap (form_of count) e

  pub form_read : kind ≡ 4 → form_of count kind ≡ 2 ∷ 16 ∷ 16 ∷ []
  unfolding form_of
  form_read e = ap (form_of count) e

  pub form_none : (kind ≡ 1 → ⊥) → (kind ≡ 2 → ⊥) → (kind ≡ 3 → ⊥) → (kind ≡ 4 → ⊥) → form_of count kind ≡ []
  unfolding form_of
  form_none a b c d = simp (ne_eqb kind 1 a, ne_eqb kind 2 b, ne_eqb kind 3 c, ne_eqb kind 4 d)

  -- every form but that of no kind begins with the two digits of the kind
  begins : (P : List ℕ → Type 0) → ((ws : List ℕ) → P (2 ∷ ws)) → P [] → P (form_of count kind)
  unfolding form_of
  begins P f g =
      by (eqb kind 1) (eqb kind 2) (eqb kind 3) (eqb kind 4)
    where
      by : (a b c d : Bool)
          → P (pick a (2 ∷ 16 ∷ 2 * count ∷ []) (pick b (2 ∷ 2 ∷ []) (pick c (2 ∷ []) (pick d (2 ∷ 16 ∷ 16 ∷ []) []))))
      by true b c d = f _
      by false true c d = f _
      by false false true d = f _
      by false false false true = f _
      by false false false false = g

-- ---- the kind of a line

abbrev formed : List ℕ → Bool
formed line = fields_at line 0 (form_of (byte_count line) (number_at line 0 2))

module _ (line : List ℕ) where
  pub kind_long : 8301 < length line → 0 ≡ kind_of line
  unfolding kind_of
  kind_long h =
      sym (pick-false (both (leb (length line) 8301) (formed line)) _ 0 (pick-false (leb (length line) 8301) _ false (lt-leb (length line) 8301 h)))

  -- the two digits of a kind and what follows them do not fit in two characters
  pub short_form : length line < 3 → (ws : List ℕ) → fields_at line 0 (2 ∷ ws) ≡ false
  unfolding fields_at
  short_form h ws =
      ap (λ (t : Bool). both (digits_at line 0 2) (both t (fields_at line 3 ws))) (none ws) ∙ both_off (digits_at line 0 2)
    where
      none : (ws : List ℕ) → eqb (at line 2) (separator ws) ≡ false
      none [] = ap (λ (c : ℕ). eqb c 10) (get_or-eq_default line 0 (omega arith))
      none (w ∷ ws) = ap (λ (c : ℕ). eqb c 32) (get_or-eq_default line 0 (omega arith))

  empty_kind : (l : List ℕ) → length l ≡ 0 → number_at l 0 2 ≡ 0
  unfolding number_at digit_value within
  empty_kind [] e = refl
  empty_kind (c ∷ l) e = absurd (omega (arith, e))

  -- a line that has no form of a kind
  kind_none : ((ws : List ℕ) → fields_at line 0 (2 ∷ ws) ≡ false) → 0 ≡ kind_of line
  unfolding kind_of fields_at
  kind_none none =
      ⊎_elim
      (λ (t : formed line ≡ true).
      begins (byte_count line) (number_at line 0 2) (λ (ws : List ℕ). fields_at line 0 ws ≡ true → 0 ≡ kind_of line)
      (λ ws e. clash (fields_at line 0 (2 ∷ ws)) e (none ws))
      (λ e. by (both (leb (length line) 8301) (formed line)) (empty_kind line (sym (eqb-true 0 (length line) e)))) t)
      (λ (t : formed line ≡ false).
      sym (pick-false (both (leb (length line) 8301) (formed line)) (number_at line 0 2) 0
      (ap (both (leb (length line) 8301)) t ∙ both_off (leb (length line) 8301))))
      (either_way (formed line))
    where
      by : (t : Bool) → number_at line 0 2 ≡ 0 → 0 ≡ pick t (number_at line 0 2) 0
      by true e = sym e
      by false e = refl

  pub kind_short : length line < 3 → 0 ≡ kind_of line
  kind_short h = kind_none (short_form h)

  -- nor has one that does not end with a newline
  pub kind_unended : (at line (length line - 1) ≡ 10 → ⊥) → 0 ≡ kind_of line
  kind_unended f =
      kind_none (λ ws. not-both_ways (fields_at line 0 (2 ∷ ws)) (λ (t : fields_at line 0 (2 ∷ ws) ≡ true). f (fields_ended line 0 2 ws t)))

  module _ (kind : ℕ) (e : kind ≡ number_at line 0 2) where
    same : fields_at line 0 (form_of (byte_count line) kind) ≡ formed line
    same = ap (λ (k : ℕ). fields_at line 0 (form_of (byte_count line) k)) e

    pub kind_right : length line ≤ 8301 → fields_at line 0 (form_of (byte_count line) kind) ≡ true → kind ≡ kind_of line
    unfolding kind_of
    kind_right h t =
        e
        ∙ sym (pick_true (both (leb (length line) 8301) (formed line)) (number_at line 0 2) 0
        (pick_true (leb (length line) 8301) (formed line) false (le-leb (length line) 8301 h) ∙ sym same ∙ t))

    pub kind_wrong : fields_at line 0 (form_of (byte_count line) kind) ≡ false → 0 ≡ kind_of line
    unfolding kind_of
    kind_wrong t =
        sym (pick-false (both (leb (length line) 8301) (formed line)) (number_at line 0 2) 0
        (ap (both (leb (length line) 8301)) (sym same ∙ t) ∙ both_off (leb (length line) 8301)))

    pub kind_unknown : 3 ≤ length line → NoKind kind → 0 ≡ kind_of line
    unfolding fields_at
    kind_unknown h none =
        kind_wrong (ap (fields_at line 0) (form_none (byte_count line) kind none.0 none.1 none.2 none.3) ∙ ne_eqb 0 (length line) (λ e. omega (arith, h, e)))

  -- ---- a line of a kind has that kind's fields

  pub record OfKind (kind : ℕ) : Type 0 where
    pub few : length line ≤ 8301
    pub fields : fields_at line 0 (form_of (byte_count line) kind) ≡ true
    pub named : number_at line 0 2 ≡ kind

  pub of_kind : (kind : ℕ) → kind_of line ≡ kind → 0 < kind → OfKind kind
  unfolding kind_of
  of_kind kind e some =
      ⊎_elim
      (λ (t : both (leb (length line) 8301) (formed line) ≡ true).
      let b = both_true (leb (length line) 8301) (formed line) t in
      let named : number_at line 0 2 ≡ kind = sym (pick_true (both (leb (length line) 8301) (formed line)) (number_at line 0 2) 0 t) ∙ e in
      record {
        few = leb-true (length line) 8301 b.0;
        fields = ap (λ (k : ℕ). fields_at line 0 (form_of (byte_count line) k)) (sym named) ∙ b.1;
        named = named;
      })
      (λ (t : both (leb (length line) 8301) (formed line) ≡ false).
      let none : 0 ≡ kind = sym (pick-false (both (leb (length line) 8301) (formed line)) (number_at line 0 2) 0 t) ∙ e in
      absurd (omega (arith, none)))
      (either_way (both (leb (length line) 8301) (formed line)))

  long_as : (kind : ℕ) (ws : List ℕ) → OfKind kind → form_of (byte_count line) kind ≡ ws → fields_at line 0 ws ≡ true
  long_as kind ws k e = ap (fields_at line 0) (sym e) ∙ k.fields

  pub write_length : kind_of line ≡ 1 → (length line ≡ 21 + 2 * byte_count line) × (length line ≤ 8301)
  write_length e =
      let k = of_kind 1 e (omega arith) in
      let l = fields_length line 0 (2 ∷ 16 ∷ 2 * byte_count line ∷ []) (long_as 1 _ k (form_write (byte_count line) 1 refl)) in
      (omega (arith, l), k.few)

  -- the bytes to write are told by digits
  pub write_digits : kind_of line ≡ 1 → digits_at line 20 (2 * byte_count line) ≡ true
  write_digits e =
      let last = 2 * byte_count line ∷ [] in
      let fields = long_as 1 (2 ∷ 16 ∷ last) (of_kind 1 e (omega arith)) (form_write (byte_count line) 1 refl) in
      (fields_first line 20 (2 * byte_count line) [] (fields_first line 3 16 last (fields_first line 0 2 (16 ∷ last) fields).1).1).0

  pub fail_length : kind_of line ≡ 2 → length line ≡ 6
  fail_length e = fields_length line 0 (2 ∷ 2 ∷ []) (long_as 2 _ (of_kind 2 e (omega arith)) (form_fail (byte_count line) 2 refl))

  pub read_length : kind_of line ≡ 4 → length line ≡ 37
  read_length e = fields_length line 0 (2 ∷ 16 ∷ 16 ∷ []) (long_as 4 _ (of_kind 4 e (omega arith)) (form_read (byte_count line) 4 refl))
