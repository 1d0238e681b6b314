-- Lines of settings and what both readers answer, computed by the checker: N = 2, K = 2, P = 7, U = 4096, T = 65536, cookie 0x0123456789abcdef.
use Rattle.std.specs.Prelude.{◌≡◌, refl, List, [], ◌∷◌, ◌++◌, ℕ, set}
use Rattle.lists.specs.Part.{within}
use Rattle.lists.specs.Refusal.{◌or_else◌, refusal_by}
use Rattle.lists.specs.Search.{all}
use Rattle.lists.specs.Tabulate.{tabulate}
use Rattle.numbers.specs.declared.Layout.{Layout}
use Rattle.numbers.specs.Refused.{validb, no_layout}
use Rattle.hex_text.specs.Hex.{hex_digit, digits_of}
use Rattle.hex_text.specs.Digit.{is_digit, digit_value, number_at}
use Rattle.trace.specs.Fields.{fields_at, field_line}
use Rattle.trace.specs.Forms.{layout_at}
use Rattle.line_cursor.specs.Lines.{lines_of}
use Rattle.settings.specs.declared.Settings.{Settings}
use Rattle.settings.specs.Settings.{setting_line, setting_layout, is_setting}
use Rattle.settings.specs.Calls.{add_refusal, first_malformed, read_refusal, settings_of}

abbrev row : ℕ → Layout
row edition = record { n = 2; k = 2; p = 7; u = 4096; t = 65536; cookie = 81985529216486895; edition = edition }

-- "02 02 07 1000 010000 0123456789abcdef", as in a trace's first line
abbrev six : List ℕ
six =
    48 ∷ 50 ∷ 32 ∷ 48 ∷ 50 ∷ 32 ∷ 48 ∷ 55 ∷ 32 ∷ 49 ∷ 48 ∷ 48 ∷ 48 ∷ 32 ∷ 48 ∷ 49 ∷ 48 ∷ 48 ∷ 48 ∷ 48 ∷ 32
    ∷ 48 ∷ 49 ∷ 50 ∷ 51 ∷ 52 ∷ 53 ∷ 54 ∷ 55 ∷ 56 ∷ 57
    ∷ 97 ∷ 98 ∷ 99 ∷ 100 ∷ 101 ∷ 102 ∷ []

-- version 1; version 2 with edition 1; with edition 2
abbrev line1 : List ℕ
line1 = 48 ∷ 49 ∷ 32 ∷ (six ++ 10 ∷ [])

abbrev line2 : List ℕ
line2 = 48 ∷ 50 ∷ 32 ∷ (six ++ 32 ∷ 48 ∷ 49 ∷ 10 ∷ [])

abbrev line3 : List ℕ
line3 = 48 ∷ 50 ∷ 32 ∷ (six ++ 32 ∷ 48 ∷ 50 ∷ 10 ∷ [])

abbrev shown : ℕ → Settings
shown edition = record { refusal = 0; line = 0; layout = row edition }

abbrev refused : ℕ → ℕ → Settings
refused refusal line = record { refusal = refusal; line = line; layout = no_layout }

pub setting_examples :
    (setting_line 1 (row 1) ≡ line1)
    × (setting_line 2 (row 1) ≡ line2)
    × (setting_line 2 (row 2) ≡ line3)
    -- adding: edition 2 in version 1, version 3, a used length above the buffer, one byte too little, just enough
    × (add_refusal 1 (row 2) 100 0 ≡ 1)
    × (add_refusal 3 (row 1) 100 0 ≡ 1)
    × (add_refusal 1 (row 1) 100 101 ≡ 5)
    × (add_refusal 1 (row 1) 100 60 ≡ 10)
    × (add_refusal 1 (row 1) 100 59 ≡ 0)
    -- both readers: version 1; version 2 with edition 1; with edition 2; edition 2 before another
    × (settings_of 1 line1 41 ≡ shown 1)
    × (settings_of 2 line1 41 ≡ shown 1)
    × (settings_of 1 (line1 ++ line2) 85 ≡ shown 1)
    × (settings_of 1 (line1 ++ line3) 85 ≡ refused 17 0)
    × (settings_of 2 (line1 ++ line3) 85 ≡ shown 2)
    × (settings_of 1 (line3 ++ line1) 85 ≡ shown 1)
    -- a used length above the buffer; none; cut short; an empty line between
    × (settings_of 2 line1 42 ≡ refused 5 0)
    × (settings_of 2 line1 0 ≡ refused 11 0)
    × (settings_of 1 (line1 ++ line3) 84 ≡ refused 12 2)
    × (settings_of 2 (line1 ++ 10 ∷ line1) 83 ≡ refused 12 2)
    -- 'A' for a digit of the cookie; version 3; version 1 in 44 bytes; T above its bound
    × (settings_of 2 (set line1 34 65) 41 ≡ refused 12 1)
    × (settings_of 2 (set line2 1 51) 44 ≡ refused 12 1)
    × (settings_of 2 (set line2 1 49) 44 ≡ refused 12 1)
    × (settings_of 2 (set line1 22 49) 41 ≡ refused 12 1)
unfolding tabulate hex_digit digits_of is_digit digit_value number_at within all fields_at field_line layout_at lines_of validb refusal_by ◌or_else◌
    setting_line setting_layout is_setting add_refusal first_malformed read_refusal settings_of
setting_examples =
    (refl, refl, refl, refl, refl, refl, refl, refl, refl, refl, refl, refl, refl, refl, refl, refl, refl, refl, refl, refl, refl, refl)
