-- "Each row keeps its layout numbers as hex lines, one record a line, the newest last. A line is the version (2 digits), N, K, P (2 each), U (4),
-- T (6), cookie (16), and in version 2 the edition (2), lower case, single spaces between, newline: 41 or 44 bytes."
--
--     01 NN KK PP UUUU TTTTTT CCCCCCCCCCCCCCCC        version 1, 41 bytes
--     02 NN KK PP UUUU TTTTTT CCCCCCCCCCCCCCCC EE     version 2, 44 bytes
use Rattle.std.specs.Prelude.{Bool, true, List, [], ◌∷◌, ◌++◌, ℕ, leb, eqb}
use Rattle.lists.specs.Pick.{pick, both}
use Rattle.numbers.specs.declared.Layout.{Layout}
use Rattle.numbers.specs.Refused.{validb}
use Rattle.hex_text.specs.Digit.{number_at}
use Rattle.trace.specs.Fields.{fields_at, field_line, number_fields}
use Rattle.trace.specs.Forms.{layout_fields, layout_at}

abbrev pub is_version : ℕ → Bool
is_version version = pick (eqb version 1) true (eqb version 2)

-- version 1 knows edition 1, version 2 knows editions 1 and 2
abbrev pub knows : ℕ → ℕ → Bool
knows version edition = leb edition version

-- after the version come the fields of a trace's first line
abbrev pub setting_fields : ℕ → List ℕ
setting_fields version = 2 ∷ (layout_fields ++ pick (eqb version 2) (2 ∷ []) [])

-- ---- a record's line

abbrev pub setting_numbers : ℕ → Layout → List ℕ
setting_numbers version y = version ∷ y.n ∷ y.k ∷ y.p ∷ y.u ∷ y.t ∷ y.cookie ∷ y.edition ∷ []

unfoldable pub setting_line : ℕ → Layout → List ℕ
setting_line version y = field_line (number_fields (setting_fields version) (setting_numbers version y))

-- ---- what a line tells

abbrev pub version_of : List ℕ → ℕ
version_of line = number_at line 0 2

-- "Version 1 read by the new reader is edition 1"
abbrev pub edition_of : List ℕ → ℕ
edition_of line = pick (eqb (version_of line) 2) (number_at line 41 2) 1

-- the six numbers of a trace's first line, in the edition that the line tells
unfoldable pub setting_layout : List ℕ → Layout
setting_layout line =
    let six = layout_at line 3 in
    record { n = six.n; k = six.k; p = six.p; u = six.u; t = six.t; cookie = six.cookie; edition = edition_of line }

-- a line of a version that has its fields; "Another version, or numbers outside the bounds, make a line malformed"
abbrev pub has_form : List ℕ → Bool
has_form line = both (is_version (version_of line)) (fields_at line 0 (setting_fields (version_of line)))

unfoldable pub is_setting : List ℕ → Bool
is_setting line = both (has_form line) (validb (setting_layout line))
