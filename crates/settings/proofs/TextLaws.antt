-- A line added to a text without malformed lines, and which line is the first malformed one.
use Rattle.std.specs.Prelude.{◌≡◌, refl, true, false, List, [], ◌∷◌, ◌++◌, ℕ}
use Rattle.std.proofs.Common.{sym, ap, ◌∙◌, subst, ⊎_elim, append-nil, append_assoc}
use Rattle.lists.specs.Pick.{either_way}
use Rattle.line_cursor.specs.Lines.{lines_of, joined}
use Rattle.line_cursor.specs.LineLaws.{no_lines, lines-joined}
use Rattle.settings.specs.Settings.{is_setting}
use Rattle.settings.specs.Calls.{later, first_malformed}
use Rattle.settings.specs.LineLaws.{setting_form, form_line}
use Rattle.settings.specs.ScanLaws.{none_malformed}
use Rattle.settings.proofs.ScanLaws.{malformed_here, malformed_later, all_settings}
use Rattle.settings.specs.TextLaws.{FirstMalformed, no_malformed, malformed_now, malformed_then}

-- lines without a malformed one, before another text
lines-before : (ls : List (List ℕ)) (rest : List ℕ) → first_malformed ls ≡ 0 → lines_of (joined ls ++ rest) ≡ ls ++ lines_of rest
lines-before [] rest z = refl
lines-before (l ∷ ls) rest z =
    let a = all_settings l ls z in
    ap lines_of (append_assoc l (joined ls) rest) ∙ form_line l (setting_form l a.0) (joined ls ++ rest) ∙ ap (λ (ms : List (List ℕ)). l ∷ ms) (lines-before ls rest a.1)

pub lines_more : (text line : List ℕ) → first_malformed (lines_of text) ≡ 0 → is_setting line ≡ true → lines_of (text ++ line) ≡ lines_of text ++ line ∷ []
lines_more text line z t =
    ap (λ (l : List ℕ). lines_of (l ++ line)) (sym (lines-joined text)) ∙ lines-before (lines_of text) line z
    ∙ ap (λ (ms : List (List ℕ)). lines_of text ++ ms)
    (ap lines_of (sym (append-nil line)) ∙ form_line line (setting_form line t) [] ∙ ap (λ (ms : List (List ℕ)). line ∷ ms) no_lines)

pub malformed_more : (ls : List (List ℕ)) (line : List ℕ) → first_malformed ls ≡ 0 → is_setting line ≡ true → first_malformed (ls ++ line ∷ []) ≡ 0
malformed_more [] line z t = malformed_later line [] t ∙ ap later none_malformed
malformed_more (l ∷ ls) line z t =
    let a = all_settings l ls z in malformed_later l (ls ++ line ∷ []) a.0 ∙ ap later (malformed_more ls line a.1 t)

pub malformed_first : (ls : List (List ℕ)) → FirstMalformed ls (first_malformed ls)
malformed_first [] = subst (FirstMalformed []) (sym none_malformed) (no_malformed [])
malformed_first (l ∷ ls) =
    ⊎_elim
    (λ (t : is_setting l ≡ true). subst (FirstMalformed (l ∷ ls)) (sym (malformed_later l ls t)) (malformed_then l ls t (first_malformed ls) (malformed_first ls)))
    (λ (t : is_setting l ≡ false). subst (FirstMalformed (l ∷ ls)) (sym (malformed_here l ls t)) (malformed_now l ls t))
    (either_way (is_setting l))
