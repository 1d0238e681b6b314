-- The tests of the calls as the code makes them, and what each leads to.
use Rattle.std.specs.Prelude.{◌≡◌, true, false, ℕ, ◌+◌, ◌-◌, ◌≤◌, ◌<◌, eqb, take, drop}
use Rattle.std.proofs.Math.Path.{refl, sym, ap, subst}
use Rattle.std.proofs.Common.{◌∙◌, arith, length-take-le, take-add, drop_at}
use mathlib.Core.List.{List, [], ◌∷◌}
use Rattle.std.proofs.Math.ListN.{length}
use borrow.Author.Tests.{leb-true, le-leb, lt-leb, lt-ltb, eq-eqb, ne_eqb}
use Rattle.lists.specs.Pick.{pick}
use Rattle.lists.specs.Put.{Put, put_at}
use Rattle.lists.specs.Refusal.{◌or_else◌, refusal_by, grant_yes, grant_no, refusal_lowest, LowestThatApplies}
use Rattle.numbers.specs.declared.Layout.{Layout}
use Rattle.numbers.specs.Layouts.{Valid}
use Rattle.numbers.specs.Refused.{valid_true, layout_refusal, bad-layout, no_layout}
use Rattle.trace.specs.Fields.{field_line, number_fields}
use Rattle.trace.specs.FieldLaws.{end_of}
use Rattle.line_cursor.specs.Lines.{lines_of}
use Rattle.line_cursor.specs.LineLaws.{no_lines, lines_first}
use Rattle.settings.specs.Settings.{is_version, setting_fields, setting_numbers, setting_line, setting_layout}
use Rattle.settings.specs.Calls.{add_tests, add_refusal, added_of, add_buffer, Adds, used_lines, first_malformed, newest_line, read_tests, read_refusal, settings_of}
use Rattle.settings.specs.Scan.{Scans, refused_with}
use Rattle.settings.specs.LineLaws.{line_long, setting_long, setting_end}

-- ---- adding

module _ (version : ℕ) (y : Layout) (room used : ℕ) where
  pub add-bad : {n : ℕ} → n ≡ layout_refusal y → (n ≡ 0 → ⊥) → n ≡ add_refusal version y room used
  unfolding add_refusal
  add-bad e f = bad-layout y _ e f

  module _ (v : Valid y) where
    pub add_unknown : is_version version ≡ false → 1 ≡ add_refusal version y room used
    unfolding add_refusal refusal_by ◌or_else◌
    add_unknown f = simp (valid_true y v, f)

    module _ (k : is_version version ≡ true) where
      pub add_edition : version < y.edition → 1 ≡ add_refusal version y room used
      unfolding add_refusal refusal_by ◌or_else◌
      add_edition h = simp (valid_true y v, k, lt-leb y.edition version h)

      module _ (h : y.edition ≤ version) where
        pub add_outside : room < used → 5 ≡ add_refusal version y room used
        unfolding add_refusal refusal_by ◌or_else◌
        add_outside b = simp (valid_true y v, k, le-leb y.edition version h, lt-leb used room b)

        module _ (b : used ≤ room) where
          pub add_full : room - used < line_long version → 10 ≡ add_refusal version y room used
          unfolding add_refusal refusal_by ◌or_else◌
          add_full c =
              let s = setting_long version y in
              simp (valid_true y v, k, le-leb y.edition version h, le-leb used room b, lt-leb (length (setting_line version y)) (room - used) (omega (arith, s, c)))

          pub add-good : line_long version ≤ room - used → 0 ≡ add_refusal version y room used
          unfolding add_refusal refusal_by ◌or_else◌
          add-good c =
              let s = setting_long version y in
              simp (valid_true y v, k, le-leb y.edition version h, le-leb used room b, le-leb (length (setting_line version y)) (room - used) (omega (arith, s, c)))

  pub add-lowest : LowestThatApplies (add_tests version y room used) (add_refusal version y room used)
  unfolding add_refusal
  add-lowest = refusal_lowest 1 (add_tests version y room used) (omega arith) refl

  -- the line of an accepted call has room
  pub add_room : {n : ℕ} → n ≡ add_refusal version y room used → n ≡ 0 → used + length (setting_line version y) ≤ room
  add_room e z =
      let t = add-lowest.none (sym e ∙ z) in
      let a = leb-true used room t.1.1.1.0 in
      let b = leb-true (length (setting_line version y)) (room - used) t.1.1.1.1.0 in
      omega (arith, a, b)

module _ (version : ℕ) (y : Layout) (buffer : List ℕ) (used : ℕ) where
  abbrev number : ℕ
  number = add_refusal version y (length buffer) used

  pub adds_refused : {n : ℕ} → n ≡ number → (n ≡ 0 → ⊥) → Adds version y buffer used (record { refusal = n; used = used }) buffer
  unfolding added_of add_buffer
  adds_refused {n} e f =
      let g : number ≡ 0 → ⊥ = λ z. f (e ∙ z) in
      record {
        answer = λ i. record { refusal = e i; used = sym (grant_no number (used + length (setting_line version y)) used g) i };
        bytes = sym (grant_no number _ buffer g);
      }

  -- the fields of the version put after the used part
  pub adds_fields : {n end : ℕ} {ws new : List ℕ} → n ≡ number → n ≡ 0 → ws ≡ setting_fields version → end ≡ end_of used ws
      → Put used (field_line (number_fields ws (setting_numbers version y))) buffer new → Adds version y buffer used (record { refusal = 0; used = end }) new
  unfolding added_of add_buffer setting_line
  adds_fields {n} {end} {ws} {new} e z w q p =
      let g : number ≡ 0 = sym e ∙ z in
      let longer : end ≡ used + length (setting_line version y) = q ∙ ap (end_of used) w ∙ setting_end used version y in
      let line = subst (λ (vs : List ℕ). Put used (field_line (number_fields vs (setting_numbers version y))) buffer new) w p in
      record {
        answer = λ i. record { refusal = sym g i; used = (longer ∙ sym (grant_yes number (used + length (setting_line version y)) used g)) i };
        bytes = put_at used (setting_line version y) (add_room version y (length buffer) used e z) line ∙ sym (grant_yes number _ buffer g);
      }

-- ---- reading

module _ (reader : ℕ) (buffer : List ℕ) (used : ℕ) where
  abbrev ls : List (List ℕ)
  ls = used_lines buffer used

  abbrev newest : Layout
  newest = setting_layout (newest_line ls)

  refused_as : {n m : ℕ} → n ≡ read_refusal reader buffer used → (n ≡ 0 → ⊥) → m ≡ pick (eqb n 12) (first_malformed ls) 0 → refused_with n m ≡ settings_of reader buffer used
  unfolding settings_of
  refused_as {n} {m} e f q =
      let g : read_refusal reader buffer used ≡ 0 → ⊥ = λ z. f (e ∙ z) in
      λ i. record {
        refusal = e i;
        line = (q ∙ ap (λ (k : ℕ). pick (eqb k 12) (first_malformed ls) 0) e) i;
        layout = sym (grant_no (read_refusal reader buffer used) newest no_layout g) i;
      }

  pub read_outside : length buffer < used → refused_with 5 0 ≡ settings_of reader buffer used
  unfolding read_refusal refusal_by ◌or_else◌
  read_outside h = refused_as five (λ z. omega (arith, z)) refl
    where
      five : 5 ≡ read_refusal reader buffer used
      five = simp (lt-leb used (length buffer) h)

  pub read_none : used ≤ length buffer → used ≡ 0 → refused_with 11 0 ≡ settings_of reader buffer used
  unfolding read_refusal refusal_by ◌or_else◌
  read_none h z = refused_as eleven (λ z. omega (arith, z)) refl
    where
      none : length ls ≡ 0
      none = ap (λ (n : ℕ). length (lines_of (take n buffer))) z ∙ ap length no_lines

      eleven : 11 ≡ read_refusal reader buffer used
      eleven = simp (le-leb used (length buffer) h, none)

  pub some_lines : used ≤ length buffer → 0 < used → 0 < length ls
  some_lines h some = any (take used buffer) (let e = length-take-le used buffer h in omega (arith, e, some))
    where
      any : (text : List ℕ) → 0 < length text → 0 < length (lines_of text)
      any [] b = absurd (omega (arith, b))
      any (c ∷ cs) b = subst (λ (ms : List (List ℕ)). 0 < length ms) (sym (lines_first c cs)) (omega arith)

  module _ (h : used ≤ length buffer) (some : 0 < length ls) where
    pub read_malformed : {n : ℕ} → n ≡ first_malformed ls → (n ≡ 0 → ⊥) → refused_with 12 n ≡ settings_of reader buffer used
    unfolding read_refusal refusal_by ◌or_else◌
    read_malformed {n} e f = refused_as twelve (λ z. omega (arith, z)) e
      where
        twelve : 12 ≡ read_refusal reader buffer used
        twelve = simp (le-leb used (length buffer) h, lt-ltb 0 (length ls) some, ne_eqb (first_malformed ls) 0 (λ z. f (e ∙ z)))

    module _ (right : first_malformed ls ≡ 0) {y : Layout} (q : y ≡ newest) where
      pub read_unknown : reader < y.edition → refused_with 17 0 ≡ settings_of reader buffer used
      unfolding read_refusal refusal_by ◌or_else◌
      read_unknown b = refused_as seventeen (λ z. omega (arith, z)) refl
        where
          above : reader < newest.edition
          above = subst (λ (x : Layout). reader < x.edition) q b

          seventeen : 17 ≡ read_refusal reader buffer used
          seventeen =
              simp (le-leb used (length buffer) h, lt-ltb 0 (length ls) some, eq-eqb (first_malformed ls) 0 right, lt-leb newest.edition reader above)

      pub read_shown : y.edition ≤ reader → record { refusal = 0; line = 0; layout = y } ≡ settings_of reader buffer used
      unfolding settings_of read_refusal refusal_by ◌or_else◌
      read_shown b =
          λ i. record {
            refusal = nought i;
            line = pick (eqb (nought i) 12) (first_malformed ls) 0;
            layout = (q ∙ sym (grant_yes (read_refusal reader buffer used) newest no_layout (sym nought))) i;
          }
        where
          known : newest.edition ≤ reader
          known = subst (λ (x : Layout). x.edition ≤ reader) q b

          nought : 0 ≡ read_refusal reader buffer used
          nought =
              simp (le-leb used (length buffer) h, lt-ltb 0 (length ls) some, eq-eqb (first_malformed ls) 0 right, le-leb newest.edition reader known)

  -- by what the code's scan of the used part found
  module _ (h : used ≤ length buffer) (some : 0 < used) {n begins : ℕ} (s : Scans (take used buffer) n begins) where
    long : length (take used buffer) ≡ used
    long = length-take-le used buffer h

    pub found_inside : begins ≤ used
    found_inside = let b = s.inside in omega (arith, b, long)

    pub found_malformed : (n ≡ 0 → ⊥) → refused_with 12 n ≡ settings_of reader buffer used
    found_malformed f = read_malformed h (some_lines h some) s.wrong f

    module _ (z : n ≡ 0) where
      abbrev found : List ℕ
      found = take (used - begins) (drop begins buffer)

      pub found-line : found ≡ newest_line ls
      found-line =
          let b = found_inside in
          let e : used ≡ begins + (used - begins) = omega (arith, b) in
          sym (drop_at (take begins buffer) found begins (length-take-le begins buffer (omega (arith, b, h))))
          ∙ ap (drop begins) (sym (ap (λ (m : ℕ). take m buffer) e ∙ take-add begins (used - begins) buffer)) ∙ s.begins z

      right : first_malformed ls ≡ 0
      right = sym s.wrong ∙ z

      module _ {y : Layout} (q : y ≡ setting_layout found) where
        pub found_unknown : reader < y.edition → refused_with 17 0 ≡ settings_of reader buffer used
        found_unknown b = read_unknown h (some_lines h some) right (q ∙ ap setting_layout found-line) b

        pub found-shown : y.edition ≤ reader → record { refusal = 0; line = 0; layout = y } ≡ settings_of reader buffer used
        found-shown b = read_shown h (some_lines h some) right (q ∙ ap setting_layout found-line) b

  pub read_lowest : LowestThatApplies (read_tests reader buffer used) (read_refusal reader buffer used)
  unfolding read_refusal
  read_lowest = refusal_lowest 1 (read_tests reader buffer used) (omega arith) refl
