-- Fields one after another, as the code's loop meets them; and how long a line of fields is.
use Rattle.std.specs.Prelude.{◌≡◌, refl, Bool, true, false, List, [], ◌∷◌, eqb, length, take}
use Rattle.std.proofs.Common.{sym, ◌∙◌, length-drop, drop_of_length-le, drop-cons, length-take-le, eq-eqb, ne_eqb, eqb-true}
use Rattle.std.proofs.Math.Path.{ap}
use Prim.Native.Nat.{ℕ, suc, ◌+◌, ◌-◌, ◌≤◌, ◌<◌}
use native.Mathlib.Omega.{arith}
use Rattle.std.proofs.Math.ListN.{drop, get_or-eq_default}
use Rattle.std.proofs.Math.Seq.{get_or-take}
use Rattle.lists.specs.Pick.{pick, pick_true, pick-false, both, both_true, both_off, equal_or_not}
use Rattle.lists.specs.Tabulate.{at}
use Rattle.hex_text.specs.Digit.{digits_at}
use Rattle.trace.specs.Fields.{separator, fields_at}

-- what follows a field, by whether it is the last
abbrev pub after : Bool → ℕ
after is_last = pick is_last 10 32

after-left : (l : List ℕ) → separator l ≡ after (eqb (length l) 0)
after-left [] = refl
after-left (w ∷ l) = sym (pick-false (eqb (suc (length l)) 0) 10 32 (ne_eqb (suc (length l)) 0 (λ e. absurd (omega (arith, e)))))

-- no separator stands past the end of a line
past_end : (line : List ℕ) (x : ℕ) (is_last : Bool) → length line ≤ x → eqb (at line x) (after is_last) ≡ false
past_end line x true h = ap (λ (c : ℕ). eqb c 10) (get_or-eq_default line 0 h)
past_end line x false h = ap (λ (c : ℕ). eqb c 32) (get_or-eq_default line 0 h)

-- the fields from the i-th on, of the first n of a list of widths
abbrev pub fields_from : List ℕ → List ℕ → ℕ → ℕ → ℕ → Bool
fields_from line widths n i a = fields_at line a (drop i (take n widths))

module _ (line widths : List ℕ) (n : ℕ) (room : n ≤ length widths) where
  many : length (take n widths) ≡ n
  many = length-take-le n widths room

  pub last_is : (i : ℕ) → i < n → separator (drop (i + 1) (take n widths)) ≡ after (eqb (i + 1) n)
  last_is i h = after-left (drop (i + 1) (take n widths)) ∙ ap after same
    where
      left : length (drop (i + 1) (take n widths)) ≡ n - (i + 1)
      left = length-drop (i + 1) (take n widths) ∙ ap (λ (m : ℕ). m - (i + 1)) many

      same : eqb (length (drop (i + 1) (take n widths))) 0 ≡ eqb (i + 1) n
      same =
          equal_or_not (i + 1) n (λ (e : i + 1 ≡ n). eq-eqb (length (drop (i + 1) (take n widths))) 0 (omega (arith, left, e)) ∙ sym (eq-eqb (i + 1) n e))
          (λ (f : i + 1 ≡ n → ⊥).
          ne_eqb (length (drop (i + 1) (take n widths))) 0 (λ (e : length (drop (i + 1) (take n widths)) ≡ 0). f (omega (arith, left, e)))
          ∙ sym (ne_eqb (i + 1) n f))

  module _ (i a : ℕ) (h : i < n) where
    -- field i, what follows it, and the fields after it
    here : fields_from line widths n i a
        ≡ both (digits_at line a (at widths i)) (both (eqb (at line (a + at widths i)) (after (eqb (i + 1) n))) (fields_from line widths n (i + 1) (a + at widths i + 1)))
    unfolding fields_at
    here =
        ap (fields_at line a) (drop-cons (take n widths) i 0 (omega (arith, many)) ∙ (λ k. get_or-take n widths i 0 h k ∷ drop (next k) (take n widths)))
        ∙ ap (λ (c : ℕ). both (digits_at line a (at widths i)) (both (eqb (at line (a + at widths i)) c) (fields_from line widths n (i + 1) (a + at widths i + 1)))) (last_is i h)
      where
        next : suc i ≡ i + 1
        next = omega arith

    pub field_cut : a ≤ length line → length line - a ≤ at widths i → false ≡ fields_from line widths n i a
    field_cut b k =
        sym (here
        ∙ ap (λ (t : Bool). both (digits_at line a (at widths i)) (both t (fields_from line widths n (i + 1) (a + at widths i + 1))))
        (past_end line (a + at widths i) (eqb (i + 1) n) (omega arith))
        ∙ both_off (digits_at line a (at widths i)))

    pub field_wrong : digits_at line a (at widths i) ≡ false → false ≡ fields_from line widths n i a
    field_wrong e = sym (here ∙ pick-false (digits_at line a (at widths i)) _ false e)

    pub after-wrong : {c : ℕ} → c ≡ after (eqb (i + 1) n) → (at line (a + at widths i) ≡ c → ⊥) → false ≡ fields_from line widths n i a
    after-wrong {c} q f =
        sym (here
        ∙ ap (λ (t : Bool). both (digits_at line a (at widths i)) (both t (fields_from line widths n (i + 1) (a + at widths i + 1)))) (ne_eqb _ _ (λ e. f (e ∙ sym q)))
        ∙ both_off (digits_at line a (at widths i)))

    pub field_right : {c : ℕ} → digits_at line a (at widths i) ≡ true → c ≡ after (eqb (i + 1) n) → at line (a + at widths i) ≡ c
        → fields_from line widths n i a ≡ fields_from line widths n (i + 1) (a + at widths i + 1)
    field_right {c} e q s =
        here ∙ pick_true (digits_at line a (at widths i)) _ false e
        ∙ pick_true (eqb (at line (a + at widths i)) (after (eqb (i + 1) n))) _ false (eq-eqb _ _ (s ∙ q))

  pub fields_done : (a : ℕ) → fields_from line widths n n a ≡ eqb a (length line)
  unfolding fields_at
  fields_done a = ap (fields_at line a) (drop_of_length-le (take n widths) {i = n} (omega (arith, many)))

-- ---- how long a line is that has the fields

abbrev pub end_of : ℕ → List ℕ → ℕ
end_of a [] = a
end_of a (w ∷ ws) = end_of (a + w + 1) ws

pub fields_length : (line : List ℕ) (a : ℕ) (ws : List ℕ) → fields_at line a ws ≡ true → length line ≡ end_of a ws
unfolding fields_at
fields_length line a [] e = sym (eqb-true a (length line) e)
fields_length line a (w ∷ ws) e =
    fields_length line (a + w + 1) ws
    (both_true (eqb (at line (a + w)) (separator ws)) (fields_at line (a + w + 1) ws) (both_true (digits_at line a w) _ e).1).1

-- and of the first field that it has digits, with the others after it
pub fields_first : (line : List ℕ) (a w : ℕ) (ws : List ℕ) → fields_at line a (w ∷ ws) ≡ true → (digits_at line a w ≡ true) × (fields_at line (a + w + 1) ws ≡ true)
unfolding fields_at
fields_first line a w ws e =
    let b = both_true (digits_at line a w) (both (eqb (at line (a + w)) (separator ws)) (fields_at line (a + w + 1) ws)) e in
    (b.0, (both_true (eqb (at line (a + w)) (separator ws)) (fields_at line (a + w + 1) ws) b.1).1)

-- and that it ends with a newline
pub fields_ended : (line : List ℕ) (a w : ℕ) (ws : List ℕ) → fields_at line a (w ∷ ws) ≡ true → at line (length line - 1) ≡ 10
unfolding fields_at
fields_ended line a w [] e =
    let b = both_true (eqb (at line (a + w)) 10) (eqb (a + w + 1) (length line)) (both_true (digits_at line a w) _ e).1 in
    let long = eqb-true (a + w + 1) (length line) b.1 in
    ap (at line) (let q : length line - 1 ≡ a + w = omega (arith, long) in q) ∙ eqb-true (at line (a + w)) 10 b.0
fields_ended line a w (v ∷ vs) e =
    fields_ended line (a + w + 1) v vs (both_true (eqb (at line (a + w)) 32) (fields_at line (a + w + 1) (v ∷ vs)) (both_true (digits_at line a w) _ e).1).1
