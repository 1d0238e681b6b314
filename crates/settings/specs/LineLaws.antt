-- A record's line tells the record, a well-formed line is the line of the record that it tells, and it is one line of a text.
use Rattle.std.specs.Prelude.{◌≡◌, Bool, ℕ, ◌+◌, ◌≤◌, ◌<◌, length, take}
use Rattle.std.proofs.Math.Path.{refl, sym, ap, subst}
use Rattle.std.proofs.Common.{◌∙◌, arith}
use Rattle.std.proofs.Math.Logic.{⊎_elim}
use Rattle.std.proofs.Math.Bool.{true, false}
use mathlib.Core.List.{List, [], ◌∷◌, ◌++◌}
use Rattle.std.proofs.Math.Dec.{eqb}
use borrow.Author.Tests.{eqb-true, eq-eqb, leb-true, le-leb}
use Rattle.lists.specs.Pick.{pick, pick_true, pick-false, both, both_true, both_hold, both_off, either_way, clash}
use Rattle.lists.specs.Tabulate.{at}
use Rattle.numbers.specs.declared.Layout.{Layout}
use Rattle.numbers.specs.Layouts.{Valid}
use Rattle.numbers.specs.Refused.{validb, layout_refusal, valid_of, valid_true, accepts, refuses}
use Rattle.hex_text.specs.Digit.{number_at}
use Rattle.hex_text.specs.NumberLaws.{number_fits}
use Rattle.trace.specs.Fields.{fields_at, numbers_at, field_line, number_fields}
use Rattle.trace.specs.FieldLaws.{end_of, fields_length, fields_ended}
use Rattle.trace.specs.FieldLines.{Fit, numbers_told, numbers_written, numbers_long, fields_newline_last}
use Rattle.trace.specs.Forms.{layout_fields, layout_at}
use Rattle.trace.specs.FormLaws.{short_form}
use Rattle.line_cursor.specs.Lines.{lines_of}
use Rattle.line_cursor.specs.LineLaws.{line_before}
use Rattle.settings.specs.Settings.{is_version, knows, setting_fields, setting_numbers, setting_line, version_of, edition_of, setting_layout, has_form, is_setting}
use Rattle.settings.specs.Scan.{setting_widths}

-- ---- the fields of a version

abbrev fields_by : Bool → List ℕ
fields_by second = 2 ∷ (layout_fields ++ pick second (2 ∷ []) [])

-- the first seven of the eight, or all
pub fields_taken : (version : ℕ) {n : ℕ} {widths : List ℕ} → n ≡ pick (eqb version 2) 8 7 → widths ≡ setting_widths → take n widths ≡ setting_fields version
fields_taken version {n} {widths} e w = (λ i. take (e i) (w i)) ∙ by (eqb version 2)
  where
    by : (second : Bool) → take (pick second 8 7) setting_widths ≡ fields_by second
    by true = refl
    by false = refl

pub fields_few : (version : ℕ) {n : ℕ} → n ≡ pick (eqb version 2) 8 7 → n ≤ 8
fields_few version {n} e = by (eqb version 2) e
  where
    by : (second : Bool) → n ≡ pick second 8 7 → n ≤ 8
    by true e = omega (arith, e)
    by false e = omega (arith, e)

-- "41 or 44 bytes"
abbrev pub line_long : ℕ → ℕ
line_long version = pick (eqb version 2) 44 41

fields_end : (a : ℕ) (second : Bool) → end_of a (fields_by second) ≡ a + pick second 44 41
fields_end a true = omega arith
fields_end a false = omega arith

pub form_end : (a version : ℕ) → end_of a (setting_fields version) ≡ a + line_long version
form_end a version = fields_end a (eqb version 2)

pub setting_long : (version : ℕ) (y : Layout) → length (setting_line version y) ≡ line_long version
unfolding setting_line
setting_long version y =
    let e = numbers_long 0 (setting_fields version) (setting_numbers version y) (few (eqb version 2)) in
    omega (arith, e, form_end 0 version)
  where
    few : (second : Bool) → length (fields_by second) ≤ 8
    few true = omega arith
    few false = omega arith

pub setting_end : (a version : ℕ) (y : Layout) → end_of a (setting_fields version) ≡ a + length (setting_line version y)
setting_end a version y = form_end a version ∙ ap (λ (n : ℕ). a + n) (sym (setting_long version y))

pub fields_fit : (a version : ℕ) (y : Layout) {n room : ℕ} {widths : List ℕ} → n ≡ pick (eqb version 2) 8 7 → widths ≡ setting_widths
    → a + length (setting_line version y) ≤ room → end_of a (take n widths) ≤ room
fields_fit a version y {room = room} e w h = subst (λ (m : ℕ). m ≤ room) (sym (ap (end_of a) (fields_taken version e w) ∙ setting_end a version y)) h

-- ---- the form of a line

module _ (line : List ℕ) where
  pub form_short : length line < 3 → false ≡ has_form line
  form_short h =
      sym (ap (both (is_version (version_of line))) (short_form line h (layout_fields ++ pick (eqb (version_of line) 2) (2 ∷ []) []))
      ∙ both_off (is_version (version_of line)))

  module _ (version : ℕ) (e : version ≡ version_of line) where
    pub form_unknown : is_version version ≡ false → false ≡ has_form line
    form_unknown f = sym (pick-false (is_version (version_of line)) _ false (ap is_version (sym e) ∙ f))

    pub form_known : is_version version ≡ true → fields_at line 0 (setting_fields version) ≡ has_form line
    form_known t =
        ap (λ (v : ℕ). fields_at line 0 (setting_fields v)) e
        ∙ sym (pick_true (is_version (version_of line)) (fields_at line 0 (setting_fields (version_of line))) false (ap is_version (sym e) ∙ t))

  module _ (t : has_form line ≡ true) where
    form_parts : (is_version (version_of line) ≡ true) × (fields_at line 0 (setting_fields (version_of line)) ≡ true)
    form_parts = both_true (is_version (version_of line)) (fields_at line 0 (setting_fields (version_of line))) t

    pub form_long : length line ≡ line_long (version_of line)
    form_long =
        fields_length line 0 (setting_fields (version_of line)) form_parts.1 ∙ form_end 0 (version_of line)
        ∙ (let z : 0 + line_long (version_of line) ≡ line_long (version_of line) = omega arith in z)

    -- it has the version and the six numbers, and in version 2 the edition
    pub form_room : 41 ≤ length line
    form_room = by (eqb (version_of line) 2) form_long
      where
        by : (second : Bool) → length line ≡ pick second 44 41 → 41 ≤ length line
        by true e = omega (arith, e)
        by false e = omega (arith, e)

    pub form_second : version_of line ≡ 2 → length line ≡ 44
    form_second e = form_long ∙ pick_true (eqb (version_of line) 2) 44 41 (eq-eqb (version_of line) 2 e)

    -- it is one line of a text that begins with it
    pub form_line : (rest : List ℕ) → lines_of (line ++ rest) ≡ line ∷ lines_of rest
    form_line rest =
        line_before line rest (omega (arith, form_room))
        (λ i h e. fields_newline_last line 0 (setting_fields (version_of line)) form_parts.1 i (omega arith) h e)
        (fields_ended line 0 2 (layout_fields ++ pick (eqb (version_of line) 2) (2 ∷ []) []) form_parts.1)

  -- well-formed or not, as the code tests it
  pub setting_unformed : has_form line ≡ false → false ≡ is_setting line
  unfolding is_setting
  setting_unformed f = sym (pick-false (has_form line) (validb (setting_layout line)) false f)

  pub setting_by_bounds : {y : Layout} {n : ℕ} → has_form line ≡ true → y ≡ setting_layout line → n ≡ layout_refusal y → eqb n 0 ≡ is_setting line
  unfolding is_setting
  setting_by_bounds {y} {n} t e q =
      ap (λ (m : ℕ). eqb m 0) q ∙ bounds y ∙ ap validb e ∙ sym (pick_true (has_form line) (validb (setting_layout line)) false t)
    where
      bounds : (y : Layout) → eqb (layout_refusal y) 0 ≡ validb y
      bounds y =
          ⊎_elim (λ (v : validb y ≡ true). ap (λ (m : ℕ). eqb m 0) (accepts y (valid_of y v)) ∙ sym v)
          (λ (v : validb y ≡ false). ap (λ (m : ℕ). eqb m 0) (refuses y (λ (w : Valid y). clash (validb y) (valid_true y w) v)) ∙ sym v)
          (either_way (validb y))

  pub setting_form : is_setting line ≡ true → has_form line ≡ true
  unfolding is_setting
  setting_form t = (both_true (has_form line) (validb (setting_layout line)) t).0

  pub setting_valid : is_setting line ≡ true → Valid (setting_layout line)
  unfolding is_setting
  setting_valid t = valid_of (setting_layout line) (both_true (has_form line) (validb (setting_layout line)) t).1

-- ---- a version is 1 or 2

pub version_is : {A : Type 0} (version : ℕ) → is_version version ≡ true → (version ≡ 1 → A) → (version ≡ 2 → A) → A
version_is version t f g =
    ⊎_elim (λ (e : eqb version 1 ≡ true). f (eqb-true version 1 e))
    (λ (e : eqb version 1 ≡ false). g (eqb-true version 2 (sym (pick-false (eqb version 1) true (eqb version 2) e) ∙ t))) (either_way (eqb version 1))

-- ---- a record: a layout within the bounds, and a version that knows its edition; a cookie is a number of 64 bits (18446744073709551616 is 16 to the 16)

pub record Addable (version : ℕ) (y : Layout) : Type 0 where
  pub known : is_version version ≡ true
  pub valid : Valid y
  pub edition : knows version y.edition ≡ true
  pub cookie : y.cookie < 18446744073709551616

-- ---- its line tells it

-- the numbers that a line of the version holds
abbrev held_numbers : Bool → ℕ → Layout → List ℕ
held_numbers second version y = version ∷ y.n ∷ y.k ∷ y.p ∷ y.u ∷ y.t ∷ y.cookie ∷ pick second (y.edition ∷ []) []

held_fields : (second : Bool) (version : ℕ) (y : Layout) → number_fields (fields_by second) (setting_numbers version y) ≡ number_fields (fields_by second) (held_numbers second version y)
held_fields true version y = refl
held_fields false version y = refl

module _ (version : ℕ) (y : Layout) (r : Addable version y) where
  small_version : version < 256
  small_version = version_is version r.known (λ e. omega (arith, e)) (λ e. omega (arith, e))

  held_fit : (second : Bool) → Fit (fields_by second) (held_numbers second version y)
  held_fit true =
      let v = r.valid in
      let w = small_version in
      (omega (arith, w), (omega arith, (omega arith, (omega arith, (omega arith, (omega arith, (r.cookie, (omega arith, tt))))))))
  held_fit false =
      let v = r.valid in
      let w = small_version in
      (omega (arith, w), (omega arith, (omega arith, (omega arith, (omega arith, (omega arith, (r.cookie, tt)))))))

  abbrev line : List ℕ
  line = setting_line version y

  held : (fields_at line 0 (setting_fields version) ≡ true) × (numbers_at line 0 (setting_fields version) ≡ held_numbers (eqb version 2) version y)
  unfolding setting_line
  held =
      subst
      (λ (fs : List (List ℕ)).
      (fields_at (field_line fs) 0 (setting_fields version) ≡ true)
      × (numbers_at (field_line fs) 0 (setting_fields version) ≡ held_numbers (eqb version 2) version y))
      (sym (held_fields (eqb version 2) version y)) (numbers_told (setting_fields version) (held_numbers (eqb version 2) version y) (held_fit (eqb version 2)))

  held_at : (i : ℕ) → at (numbers_at line 0 (setting_fields version)) i ≡ at (held_numbers (eqb version 2) version y) i
  held_at i = ap (λ (l : List ℕ). at l i) held.1

  pub line_version : version_of line ≡ version
  line_version = held_at 0

  pub line_form : has_form line ≡ true
  line_form = sym (form_known line version (sym line_version) r.known) ∙ held.0

  line_edition : edition_of line ≡ y.edition
  line_edition =
      version_is version r.known
      (λ (e : version ≡ 1).
      let v = r.valid in
      let k = leb-true y.edition version r.edition in
      pick-false (eqb (version_of line) 2) (number_at line 41 2) 1 (ap (λ (n : ℕ). eqb n 2) (line_version ∙ e)) ∙ omega (arith, e, k))
      (λ (e : version ≡ 2).
      pick_true (eqb (version_of line) 2) (number_at line 41 2) 1 (ap (λ (n : ℕ). eqb n 2) (line_version ∙ e))
      ∙ subst (λ (second : Bool). at (numbers_at line 0 (fields_by second)) 7 ≡ at (held_numbers second version y) 7) (eq-eqb version 2 e) (held_at 7))

  pub line-layout : setting_layout line ≡ y
  unfolding setting_layout layout_at
  line-layout =
      λ i. record { n = held_at 1 i; k = held_at 2 i; p = held_at 3 i; u = held_at 4 i; t = held_at 5 i; cookie = held_at 6 i; edition = line_edition i }

  pub line_setting : is_setting line ≡ true
  unfolding is_setting
  line_setting = both_hold (has_form line) (validb (setting_layout line)) line_form (ap validb line-layout ∙ valid_true y r.valid)

-- ---- and a well-formed line is the line of what it tells

module _ (line : List ℕ) (t : is_setting line ≡ true) where
  parts : (is_version (version_of line) ≡ true) × (fields_at line 0 (setting_fields (version_of line)) ≡ true)
  parts = both_true (is_version (version_of line)) (fields_at line 0 (setting_fields (version_of line))) (setting_form line t)

  -- a line of version 1 has no edition, and one of version 2 tells its own
  told_fields : (second : Bool) → eqb (version_of line) 2 ≡ second
      → number_fields (fields_by second) (numbers_at line 0 (fields_by second)) ≡ number_fields (fields_by second) (setting_numbers (version_of line) (setting_layout line))
  unfolding setting_layout layout_at
  told_fields true e =
      ap (λ (edition : ℕ).
      number_fields (fields_by true) (version_of line ∷ number_at line 3 2 ∷ number_at line 6 2 ∷ number_at line 9 2 ∷ number_at line 12 4
      ∷ number_at line 17 6 ∷ number_at line 24 16 ∷ edition ∷ []))
      (sym (pick_true (eqb (version_of line) 2) (number_at line 41 2) 1 e))
  told_fields false e = refl

  pub setting_line_lem : line ≡ setting_line (version_of line) (setting_layout line)
  unfolding setting_line
  setting_line_lem = numbers_written line (setting_fields (version_of line)) parts.1 ∙ ap field_line (told_fields (eqb (version_of line) 2) refl)

  pub setting_addable : Addable (version_of line) (setting_layout line)
  unfolding setting_layout layout_at
  setting_addable =
      record {
        known = parts.0;
        valid = setting_valid line t;
        edition = le-leb (edition_of line) (version_of line)
            (version_is (version_of line) parts.0
            (λ (e : version_of line ≡ 1). omega (arith, e, pick-false (eqb (version_of line) 2) (number_at line 41 2) 1 (ap (λ (n : ℕ). eqb n 2) e)))
            (λ (e : version_of line ≡ 2). let few = (setting_valid line t).few_editions in omega (arith, e, few)));
        cookie = number_fits line 24 16 (omega arith);
      }
