-- Document 02, order 11: settings with versions. A row's settings are a text of lines; nothing of a pool is touched, so none of the three calls is an
-- event of demand 3's runs.
use Rattle.std.specs.Prelude.{◌≡◌, refl, Bool, true, List, [], ◌∷◌, ◌++◌, ℕ, suc, ◌+◌, ◌-◌, ◌≤◌, ◌<◌, leb, eqb, ltb, take, drop}
use Rattle.std.proofs.Common.{sym, ap₂, ◌∙◌, append-nil, append_assoc, arith, length-append, length-drop, length-take-le}
use Rattle.std.proofs.Math.Path.{ap, subst⁻¹}
use Rattle.std.proofs.Math.ListN.{length}
use Rattle.std.proofs.Math.Seq.{take-append-add, take-append_seam, drop-append_seam}
use borrow.Author.Tests.{leb-true, le-leb, eqb-true, eq-eqb, ne_eqb, ltb-true}
use Rattle.lists.specs.Pick.{pick, pick_true, pick-false, below_or_not, equal_or_not}
use Rattle.lists.specs.Refusal.{LowestThatApplies, refusal_by, refusal_none, grant, grant_yes, grant_no}
use Rattle.numbers.specs.declared.Layout.{Layout}
use Rattle.numbers.specs.Layouts.{Valid}
use Rattle.numbers.specs.Refused.{valid_of, valid_true, no_layout}
use Rattle.line_cursor.specs.Lines.{lines_of}
use Rattle.line_cursor.specs.LineLaws.{no_lines}
use Rattle.settings.specs.declared.Added.{Added}
use Rattle.settings.specs.declared.Settings.{Settings}
use Rattle.settings.specs.Settings.{is_version, knows, setting_line, version_of, setting_layout, is_setting}
use Rattle.settings.specs.Calls.{add_tests, add_refusal, added_of, add_buffer, Adds, used_lines, first_malformed, newest_line, read_tests, read_refusal, settings_of}
use Rattle.settings.specs.LineLaws as L
use Rattle.settings.specs.ScanLaws as N
use Rattle.settings.proofs.ScanLaws as NProofs
use Rattle.settings.specs.CallLaws as C
use Rattle.settings.specs.TextLaws as T
use Rattle.settings.proofs.TextLaws as TProofs
use Rattle.promises.specs.Tight.{same}

-- ---- a record and its line

-- "41 or 44 bytes"
pub line-length : (version : ℕ) (y : Layout) → length (setting_line version y) ≡ pick (eqb version 2) 44 41
line-length = L.setting_long

-- the line of a record is well-formed and tells it; `Addable`: numbers within the bounds, version 1 or 2, no edition 2 in version 1
pub line_tells : (version : ℕ) (y : Layout) → L.Addable version y
    → (is_setting (setting_line version y) ≡ true) × (version_of (setting_line version y) ≡ version) × (setting_layout (setting_line version y) ≡ y)
line_tells version y a = (L.line_setting version y a, L.line_version version y a, L.line-layout version y a)

-- a well-formed line is the line of the record that it tells
pub told_line : (line : List ℕ) → is_setting line ≡ true
    → L.Addable (version_of line) (setting_layout line) × (line ≡ setting_line (version_of line) (setting_layout line))
told_line line t = (L.setting_addable line t, L.setting_line_lem line t)

-- "the line of a record determines it"
pub one_record : (v w : ℕ) (y z : Layout) → L.Addable v y → L.Addable w z → setting_line v y ≡ setting_line w z → (v ≡ w) × (y ≡ z)
one_record v w y z a b e =
    (sym (L.line_version v y a) ∙ ap version_of e ∙ L.line_version w z b, sym (L.line-layout v y a) ∙ ap setting_layout e ∙ L.line-layout w z b)

-- ".. and is determined by it"
pub one_setting_line : (l m : List ℕ) → is_setting l ≡ true → is_setting m ≡ true → version_of l ≡ version_of m → setting_layout l ≡ setting_layout m → l ≡ m
one_setting_line l m a b v y = L.setting_line_lem l a ∙ ap₂ setting_line v y ∙ sym (L.setting_line_lem m b)

-- ---- adding

module _ (version : ℕ) (y : Layout) (buffer : List ℕ) (used : ℕ) (x : Added) (new : List ℕ) (p : Adds version y buffer used x new) where
  abbrev number : ℕ
  number = add_refusal version y (length buffer) used

  added_number : x.refusal ≡ number
  unfolding added_of
  added_number = ap (λ (a : Added). a.refusal) p.answer

  -- the number that the call answers is the lowest that applies
  pub add_settings_lowest : LowestThatApplies (add_tests version y (length buffer) used) x.refusal
  add_settings_lowest = subst⁻¹ (LowestThatApplies (add_tests version y (length buffer) used)) added_number (C.add-lowest version y (length buffer) used)

  -- "or is refused": no byte changes, and the used length is what it was
  pub add_settings_refused : (x.refusal ≡ 0 → ⊥) → (new ≡ buffer) × (x.used ≡ used)
  unfolding added_of add_buffer
  add_settings_refused f =
      let g : number ≡ 0 → ⊥ = λ z. f (added_number ∙ z) in
      (p.bytes ∙ grant_no number _ buffer g, ap (λ (a : Added). a.used) p.answer ∙ grant_no number _ used g)

  -- what an accepted call was given, and what it left: "appends a line after the used length"
  pub record AcceptedAdd : Type 0 where
    pub valid : Valid y
    pub version_known : is_version version ≡ true
    pub edition_known : y.edition ≤ version
    pub room : used + length (setting_line version y) ≤ length buffer
    pub longer : x.used ≡ used + length (setting_line version y)
    pub text : take x.used new ≡ take used buffer ++ setting_line version y
    pub rest : drop x.used new ≡ drop x.used buffer
    pub as_long : length new ≡ length buffer

  module _ (z : x.refusal ≡ 0) where
    abbrev line : List ℕ
    line = setting_line version y

    fits : used + length line ≤ length buffer
    fits =
        let t = add_settings_lowest.none z in
        let a = leb-true used (length buffer) t.1.1.1.0 in
        let b = leb-true (length line) (length buffer - used) t.1.1.1.1.0 in
        omega (arith, a, b)

    used_is : x.used ≡ used + length line
    unfolding added_of
    used_is = ap (λ (a : Added). a.used) p.answer ∙ grant_yes number (used + length line) used (sym added_number ∙ z)

    bytes_are : new ≡ take used buffer ++ (line ++ drop (used + length line) buffer)
    unfolding add_buffer
    bytes_are = p.bytes ∙ grant_yes number _ buffer (sym added_number ∙ z)

    head_long : length (take used buffer) ≡ used
    head_long = length-take-le used buffer (let h = fits in omega (arith, h))

    text_is : take x.used new ≡ take used buffer ++ line
    text_is =
        ap₂ (λ (n : ℕ) (l : List ℕ). take n l) (used_is ∙ ap (λ (n : ℕ). n + length line) (sym head_long)) bytes_are
        ∙ take-append-add (take used buffer) (line ++ drop (used + length line) buffer) (length line)
        ∙ ap (λ (l : List ℕ). take used buffer ++ l) (take-append_seam line (drop (used + length line) buffer))

    rest_is : drop x.used new ≡ drop x.used buffer
    rest_is =
        let n : used + length line ≡ length (take used buffer ++ line) = sym (length-append (take used buffer) line ∙ ap (λ (m : ℕ). m + length line) head_long) in
        ap₂ (λ (m : ℕ) (l : List ℕ). drop m l) (used_is ∙ n) (bytes_are ∙ sym (append_assoc (take used buffer) line (drop (used + length line) buffer)))
        ∙ drop-append_seam (take used buffer ++ line) (drop (used + length line) buffer)
        ∙ ap (λ (m : ℕ). drop m buffer) (sym used_is)

    length_is : length new ≡ length buffer
    length_is =
        let h = fits in
        let a = length-append (take used buffer) (line ++ drop (used + length line) buffer) in
        let b = length-append line (drop (used + length line) buffer) in
        let c = length-drop (used + length line) buffer in
        let d = head_long in
        ap length bytes_are ∙ omega (arith, a, b, c, d, h)

    pub add_settings_accepted : AcceptedAdd
    add_settings_accepted =
        let t = add_settings_lowest.none z in
        record {
          valid = valid_of y t.0;
          version_known = t.1.0;
          edition_known = leb-true y.edition version t.1.1.0;
          room = fits;
          longer = used_is;
          text = text_is;
          rest = rest_is;
          as_long = length_is;
        }

    -- on a text without a malformed line: one line more, and it is the newest
    module _ (word : y.cookie < 18446744073709551616) (right : first_malformed (used_lines buffer used) ≡ 0) where
      added : L.Addable version y
      added =
          let a = add_settings_accepted in
          record { known = a.version_known; valid = a.valid; edition = le-leb y.edition version a.edition_known; cookie = word }

      pub add_settings_lines : used_lines new x.used ≡ used_lines buffer used ++ line ∷ []
      add_settings_lines = ap lines_of text_is ∙ TProofs.lines_more (take used buffer) line right (L.line_setting version y added)

      pub add_settings_right : first_malformed (used_lines new x.used) ≡ 0
      add_settings_right = ap first_malformed add_settings_lines ∙ TProofs.malformed_more (used_lines buffer used) line right (L.line_setting version y added)

      newest_added : setting_layout (newest_line (used_lines new x.used)) ≡ y
      newest_added = ap setting_layout (ap newest_line add_settings_lines ∙ T.newest_more (used_lines buffer used) line) ∙ L.line-layout version y added

      inside : x.used ≤ length new
      inside = let h = fits in omega (arith, used_is, length_is, h)

      some : 0 < length (used_lines new x.used)
      some = let n = ap length add_settings_lines ∙ length-append (used_lines buffer used) (line ∷ []) in omega (arith, n)

      -- a reader that knows the edition shows the layout that was added
      pub read_added : (reader : ℕ) → y.edition ≤ reader → settings_of reader new x.used ≡ record { refusal = 0; line = 0; layout = y }
      read_added reader h = sym (C.read_shown reader new x.used inside some add_settings_right (sym newest_added) h)

      -- "with edition 2 it refuses with number 17"
      pub read_added_unknown : (reader : ℕ) → reader < y.edition → settings_of reader new x.used ≡ record { refusal = 17; line = 0; layout = no_layout }
      read_added_unknown reader h = sym (C.read_unknown reader new x.used inside some add_settings_right (sym newest_added) h)

-- a call within the bounds, with room, is accepted
pub add_settings_accepts : (version : ℕ) (y : Layout) (buffer : List ℕ) (used : ℕ) (x : Added) (new : List ℕ) → Adds version y buffer used x new
    → Valid y → is_version version ≡ true → y.edition ≤ version → used + length (setting_line version y) ≤ length buffer → x.refusal ≡ 0
unfolding add_refusal
add_settings_accepts version y buffer used x new p v k e room =
    added_number version y buffer used x new p
    ∙ refusal_none (add_tests version y (length buffer) used) (
      valid_true y v,
      (
        k,
        (
          le-leb y.edition version e,
          (le-leb used (length buffer) (omega (arith, room)), (le-leb (length (setting_line version y)) (length buffer - used) (omega (arith, room)), tt)),
        ),
      ),
    )

pub add_settings_tight : (version : ℕ) (y : Layout) (buffer : List ℕ) (used : ℕ) (x x' : Added) (new new' : List ℕ)
    → Adds version y buffer used x new → Adds version y buffer used x' new' → (x ≡ x') × (new ≡ new')
add_settings_tight version y buffer used x x' new new' p q = (same p.answer q.answer, same p.bytes q.bytes)

-- what is answered depends on the buffer's length alone
pub add_settings_independent : (version : ℕ) (y : Layout) (b b' : List ℕ) (used : ℕ) (x x' : Added) (new new' : List ℕ)
    → length b ≡ length b' → Adds version y b used x new → Adds version y b' used x' new' → x ≡ x'
add_settings_independent version y b b' used x x' new new' e p q =
    p.answer ∙ ap (λ (n : ℕ). added_of version y n used) e ∙ sym q.answer

-- ---- reading; `reader` is 2 for the new reader, 1 for that of version 1

module _ (reader : ℕ) (buffer : List ℕ) (used : ℕ) (s : Settings) (p : s ≡ settings_of reader buffer used) where
  abbrev lines : List (List ℕ)
  lines = used_lines buffer used

  read_number : s.refusal ≡ read_refusal reader buffer used
  unfolding settings_of
  read_number = ap (λ (x : Settings). x.refusal) p

  -- the number that the call answers is the lowest that applies
  pub read_settings_lowest : LowestThatApplies (read_tests reader buffer used) s.refusal
  read_settings_lowest = subst⁻¹ (LowestThatApplies (read_tests reader buffer used)) read_number (C.read_lowest reader buffer used)

  -- a refused call shows no layout
  pub read_settings_refused : (s.refusal ≡ 0 → ⊥) → s.layout ≡ no_layout
  unfolding settings_of
  read_settings_refused f = ap (λ (x : Settings). x.layout) p ∙ grant_no (read_refusal reader buffer used) _ no_layout (λ z. f (read_number ∙ z))

  line_is : s.line ≡ pick (eqb (read_refusal reader buffer used) 12) (first_malformed lines) 0
  unfolding settings_of
  line_is = ap (λ (x : Settings). x.line) p

  -- "A malformed line anywhere is 12 with its number": each line before it is well-formed, and it is not
  pub read_settings_line : s.refusal ≡ 12 → T.FirstMalformed lines s.line
  read_settings_line e =
      subst⁻¹ (T.FirstMalformed lines) (line_is ∙ pick_true (eqb (read_refusal reader buffer used) 12) (first_malformed lines) 0 (eq-eqb _ 12 (sym read_number ∙ e)))
      (TProofs.malformed_first lines)

  pub read_settings_no_line : (s.refusal ≡ 12 → ⊥) → s.line ≡ 0
  read_settings_no_line f = line_is ∙ pick-false (eqb (read_refusal reader buffer used) 12) (first_malformed lines) 0 (ne_eqb _ 12 (λ e. f (read_number ∙ e)))

  -- what an accepted call was given, and what it shows: "The reader gives the newest record"
  pub record AcceptedReading : Type 0 where
    pub within : used ≤ length buffer
    pub some : 0 < length lines
    pub right : first_malformed lines ≡ 0
    pub known : s.layout.edition ≤ reader
    pub shown : s.layout ≡ setting_layout (newest_line lines)
    pub valid : Valid s.layout

  pub read_settings_accepted : s.refusal ≡ 0 → AcceptedReading
  unfolding settings_of
  read_settings_accepted z =
      let t = read_settings_lowest.none z in
      let is : s.layout ≡ setting_layout (newest_line lines) =
      ap (λ (x : Settings). x.layout) p ∙ grant_yes (read_refusal reader buffer used) (setting_layout (newest_line lines)) no_layout (sym read_number ∙ z) in
      let many = ltb-true 0 (length lines) t.1.0 in
      let none = eqb-true (first_malformed lines) 0 t.1.1.0 in
      record {
        within = leb-true used (length buffer) t.0;
        some = many;
        right = none;
        known = subst⁻¹ (λ (x : Layout). x.edition ≤ reader) is (leb-true _ reader t.1.1.1.0);
        shown = is;
        valid = subst⁻¹ Valid is (L.setting_valid (newest_line lines) (NProofs.newest_setting lines many none));
      }

-- "11 if there is none": no line at all
pub no_settings : (reader : ℕ) (buffer : List ℕ) (s : Settings) → s ≡ settings_of reader buffer 0 → s ≡ record { refusal = 11; line = 0; layout = no_layout }
no_settings reader buffer s p = p ∙ sym (C.read_none reader buffer 0 (omega arith) refl)

pub read_settings_tight : (reader : ℕ) (buffer : List ℕ) (used : ℕ) (s s' : Settings) → s ≡ settings_of reader buffer used → s' ≡ settings_of reader buffer used → s ≡ s'
read_settings_tight reader buffer used s s' p q = same p q

-- reading is a function of the used part alone
pub read_settings_used : (reader : ℕ) (b b' : List ℕ) (used : ℕ) → used ≤ length b → used ≤ length b' → take used b ≡ take used b'
    → settings_of reader b used ≡ settings_of reader b' used
unfolding settings_of read_refusal
read_settings_used reader b b' used h h' e =
    let t : leb used (length b) ≡ leb used (length b') = le-leb used (length b) h ∙ sym (le-leb used (length b') h') in
    λ i. told (t i) (lines_of (e i))
  where
    number : Bool → List (List ℕ) → ℕ
    number t ls = refusal_by ((t, 5) ∷ (ltb 0 (length ls), 11) ∷ (eqb (first_malformed ls) 0, 12) ∷ (knows reader (setting_layout (newest_line ls)).edition, 17) ∷ [])

    told : Bool → List (List ℕ) → Settings
    told t ls =
        record {
          refusal = number t ls;
          line = pick (eqb (number t ls) 12) (first_malformed ls) 0;
          layout = grant (number t ls) (setting_layout (newest_line ls)) no_layout;
        }

-- ---- the two readers

module _ (buffer : List ℕ) (used : ℕ) (old new : Settings) (p : old ≡ settings_of 1 buffer used) (q : new ≡ settings_of 2 buffer used) where
  -- what the reader of version 1 accepts the new one accepts, and shows the same, of edition 1: "never a wrong layout"
  pub old_shows_new : old.refusal ≡ 0 → (old ≡ new) × (old.layout.edition ≡ 1)
  old_shows_new z =
      let a = read_settings_accepted 1 buffer used old p z in
      let few = a.known in
      let some = a.valid.some_edition in (
        p ∙ sym (C.read_shown 1 buffer used a.within a.some a.right a.shown few)
            ∙ C.read_shown 2 buffer used a.within a.some a.right a.shown (omega (arith, few)) ∙ sym q,
        omega (arith, few, some),
      )

  -- the new reader shows edition 1: so does the old one, the same
  pub new_shows_old : new.refusal ≡ 0 → new.layout.edition ≡ 1 → old ≡ new
  new_shows_old z e =
      let a = read_settings_accepted 2 buffer used new q z in
      p ∙ sym (C.read_shown 1 buffer used a.within a.some a.right a.shown (omega (arith, e)))
      ∙ C.read_shown 2 buffer used a.within a.some a.right a.shown a.known ∙ sym q

  -- "with edition 2 it refuses with number 17"
  pub old_refuses : new.refusal ≡ 0 → new.layout.edition ≡ 2 → old ≡ record { refusal = 17; line = 0; layout = no_layout }
  old_refuses z e =
      let a = read_settings_accepted 2 buffer used new q z in
      p ∙ sym (C.read_unknown 1 buffer used a.within a.some a.right a.shown (omega (arith, e)))

  -- what a text is to both readers: too long for the buffer, empty, with a malformed line, or right
  by_text : {A : Type 0} → (length buffer < used → A) → (used ≤ length buffer → used ≡ 0 → A)
      → (used ≤ length buffer → 0 < length (used_lines buffer used) → (first_malformed (used_lines buffer used) ≡ 0 → ⊥) → A)
      → (used ≤ length buffer → 0 < length (used_lines buffer used) → first_malformed (used_lines buffer used) ≡ 0 → A) → A
  by_text f g h k =
      below_or_not (length buffer) used f
      (λ (b : used ≤ length buffer).
      equal_or_not used 0 (g b)
      (λ (n : used ≡ 0 → ⊥).
      let some = C.some_lines 1 buffer used b (omega (arith, n)) in
      equal_or_not (first_malformed (used_lines buffer used)) 0 (λ z. k b some z) (λ m. h b some m)))

  -- in all else they agree, also in what they refuse and with which line
  pub readers_agree : (old.refusal ≡ 17 → ⊥) → old ≡ new
  readers_agree f =
      by_text (λ b. p ∙ sym (C.read_outside 1 buffer used b) ∙ C.read_outside 2 buffer used b ∙ sym q)
      (λ b z. p ∙ sym (C.read_none 1 buffer used b z) ∙ C.read_none 2 buffer used b z ∙ sym q)
      (λ b some m. p ∙ sym (C.read_malformed 1 buffer used b some refl m) ∙ C.read_malformed 2 buffer used b some refl m ∙ sym q)
      (λ b some z.
      below_or_not 1 newest.edition
      (λ (above : 1 < newest.edition). absurd (f (ap (λ (x : Settings). x.refusal) (p ∙ sym (C.read_unknown 1 buffer used b some z {y = newest} refl above)))))
      (λ (most : newest.edition ≤ 1).
      p ∙ sym (C.read_shown 1 buffer used b some z {y = newest} refl most) ∙ C.read_shown 2 buffer used b some z {y = newest} refl (omega (arith, most)) ∙ sym q))
    where
      newest : Layout
      newest = setting_layout (newest_line (used_lines buffer used))

  -- 17 exactly if the newest has edition 2
  pub old_refuses_only : old.refusal ≡ 17 → (new.refusal ≡ 0) × (new.layout.edition ≡ 2)
  old_refuses_only e =
      by_text (λ b. no 5 0 (C.read_outside 1 buffer used b) (λ z. omega (arith, z))) (λ b z. no 11 0 (C.read_none 1 buffer used b z) (λ z. omega (arith, z)))
      (λ b some m. no 12 _ (C.read_malformed 1 buffer used b some refl m) (λ z. omega (arith, z)))
      (λ b some z.
      below_or_not 1 newest.edition
      (λ (above : 1 < newest.edition).
      let most = (L.setting_valid (newest_line (used_lines buffer used)) (NProofs.newest_setting (used_lines buffer used) some z)).few_editions in
      let is = q ∙ sym (C.read_shown 2 buffer used b some z {y = newest} refl most) in
      (ap (λ (x : Settings). x.refusal) is, ap (λ (x : Settings). x.layout.edition) is ∙ omega (arith, above, most)))
      (λ (most : newest.edition ≤ 1).
      absurd (let z : 0 ≡ 17 = ap (λ (x : Settings). x.refusal) (C.read_shown 1 buffer used b some z {y = newest} refl most ∙ sym p) ∙ e in omega (arith, z))))
    where
      newest : Layout
      newest = setting_layout (newest_line (used_lines buffer used))

      no : {A : Type 0} (n line : ℕ) → record { refusal = n; line = line; layout = no_layout } ≡ settings_of 1 buffer used → (n ≡ 17 → ⊥) → A
      no n line is f = absurd (f (ap (λ (x : Settings). x.refusal) (is ∙ sym p) ∙ e))

-- the new reader knows every edition: it never answers 17
pub new_never_17 : (buffer : List ℕ) (used : ℕ) (s : Settings) → s ≡ settings_of 2 buffer used → s.refusal ≡ 17 → ⊥
new_never_17 buffer used s p e =
    let old = settings_of 1 buffer used in
    equal_or_not old.refusal 17
    (λ (z : old.refusal ≡ 17). let n = (old_refuses_only buffer used old s refl p z).0 in omega (arith, n, e))
    (λ (f : old.refusal ≡ 17 → ⊥). f (ap (λ (x : Settings). x.refusal) (readers_agree buffer used old s refl p f) ∙ e))

-- ---- many adds, one after another; refused ones leave everything

-- buffer and used length after them
abbrev pub after_adds : List (ℕ × Layout) → List ℕ → ℕ → List ℕ × ℕ
after_adds [] buffer used = (buffer, used)
after_adds (a ∷ adds) buffer used = after_adds adds (add_buffer a.0 a.1 buffer used) (added_of a.0 a.1 (length buffer) used).used

-- the lines of those that are accepted
abbrev pub accepted_lines : List (ℕ × Layout) → List ℕ → ℕ → List (List ℕ)
accepted_lines [] buffer used = []
accepted_lines (a ∷ adds) buffer used =
    grant (add_refusal a.0 a.1 (length buffer) used) (setting_line a.0 a.1 ∷ []) []
    ++ accepted_lines adds (add_buffer a.0 a.1 buffer used) (added_of a.0 a.1 (length buffer) used).used

-- every cookie is a number of 64 bits
abbrev pub Words : List (ℕ × Layout) → Type 0
Words [] = Unit {0}
Words (a ∷ adds) = (a.1.cookie < 18446744073709551616) × Words adds

-- the lines of the text are then those that were there and those that were accepted, in their order, and none of them is malformed
pub adds_lines : (adds : List (ℕ × Layout)) (buffer : List ℕ) (used : ℕ) → Words adds → first_malformed (used_lines buffer used) ≡ 0
    → (used_lines (after_adds adds buffer used).0 (after_adds adds buffer used).1 ≡ used_lines buffer used ++ accepted_lines adds buffer used)
    × (first_malformed (used_lines (after_adds adds buffer used).0 (after_adds adds buffer used).1) ≡ 0)
adds_lines [] buffer used w z = (sym (append-nil (used_lines buffer used)), z)
adds_lines (a ∷ adds) buffer used w z =
    equal_or_not number 0
    (λ (e : number ≡ 0).
    let one = add_settings_lines a.0 a.1 buffer used x new promise (is ∙ e) w.0 z in
    let rest = adds_lines adds new x.used w.1 (add_settings_right a.0 a.1 buffer used x new promise (is ∙ e) w.0 z) in (
      rest.0 ∙ ap (λ (ls : List (List ℕ)). ls ++ others) one ∙ append_assoc (used_lines buffer used) (setting_line a.0 a.1 ∷ []) others
          ∙ ap (λ (ls : List (List ℕ)). used_lines buffer used ++ (ls ++ others)) (sym (grant_yes number _ [] e)),
      rest.1,
    ))
    (λ (f : number ≡ 0 → ⊥).
    let same = add_settings_refused a.0 a.1 buffer used x new promise (λ e. f (sym is ∙ e)) in
    let rest = adds_lines adds new x.used w.1 (ap₂ (λ (b : List ℕ) (n : ℕ). first_malformed (used_lines b n)) same.0 same.1 ∙ z) in (
      rest.0 ∙ ap (λ (ls : List (List ℕ)). ls ++ others) (ap₂ used_lines same.0 same.1)
          ∙ ap (λ (ls : List (List ℕ)). used_lines buffer used ++ (ls ++ others)) (sym (grant_no number (setting_line a.0 a.1 ∷ []) [] f)),
      rest.1,
    ))
  where
    x : Added
    x = added_of a.0 a.1 (length buffer) used

    new : List ℕ
    new = add_buffer a.0 a.1 buffer used

    number : ℕ
    number = add_refusal a.0 a.1 (length buffer) used

    promise : Adds a.0 a.1 buffer used x new
    promise = record { answer = refl; bytes = refl }

    is : x.refusal ≡ number
    is = added_number a.0 a.1 buffer used x new promise

    others : List (List ℕ)
    others = accepted_lines adds new x.used

-- from nothing: the lines of the accepted ones, and no malformed one
pub built-lines : (adds : List (ℕ × Layout)) (buffer : List ℕ) → Words adds
    → (used_lines (after_adds adds buffer 0).0 (after_adds adds buffer 0).1 ≡ accepted_lines adds buffer 0)
    × (first_malformed (used_lines (after_adds adds buffer 0).0 (after_adds adds buffer 0).1) ≡ 0)
built-lines adds buffer w =
    let none : used_lines buffer 0 ≡ [] = no_lines in
    let r = adds_lines adds buffer 0 w (ap first_malformed none ∙ N.none_malformed) in
    (r.0 ∙ ap (λ (ls : List (List ℕ)). ls ++ accepted_lines adds buffer 0) none, r.1)

-- each of them is accepted
abbrev pub AllAccepted : List (ℕ × Layout) → List ℕ → ℕ → Type 0
AllAccepted [] buffer used = Unit {0}
AllAccepted (a ∷ adds) buffer used =
    (add_refusal a.0 a.1 (length buffer) used ≡ 0)
    × AllAccepted adds (add_buffer a.0 a.1 buffer used) (added_of a.0 a.1 (length buffer) used).used

accepted_many : (adds : List (ℕ × Layout)) (buffer : List ℕ) (used : ℕ) → AllAccepted adds buffer used → length (accepted_lines adds buffer used) ≡ length adds
accepted_many [] buffer used h = refl
accepted_many (a ∷ adds) buffer used h =
    let more = accepted_lines adds (add_buffer a.0 a.1 buffer used) (added_of a.0 a.1 (length buffer) used).used in
    ap (λ (ls : List (List ℕ)). length (ls ++ more)) (grant_yes (add_refusal a.0 a.1 (length buffer) used) (setting_line a.0 a.1 ∷ []) [] h.0)
    ∙ ap suc (accepted_many adds (add_buffer a.0 a.1 buffer used) (added_of a.0 a.1 (length buffer) used).used h.1)

-- "a buffer built by accepted adds from nothing has no malformed line and as many lines as adds"
pub built_many : (adds : List (ℕ × Layout)) (buffer : List ℕ) → Words adds → AllAccepted adds buffer 0
    → length (used_lines (after_adds adds buffer 0).0 (after_adds adds buffer 0).1) ≡ length adds
built_many adds buffer w h = ap length (built-lines adds buffer w).0 ∙ accepted_many adds buffer 0 h
