-- Texts of settings as lists of lines: the newest, and what the first malformed one is.
use Rattle.std.specs.Prelude.{◌≡◌, refl, true, false, List, [], ◌∷◌, ◌++◌, ℕ, zero, suc, ◌<◌, length, get_or}
use Rattle.std.proofs.Common.{sym, ◌∙◌, arith}
use Rattle.settings.specs.Settings.{is_setting}
use Rattle.settings.specs.Calls.{later, newest_line}
use Rattle.settings.specs.ScanLaws.{last_or, last_begin}

-- ---- a line more

last_more : (old : List ℕ) (ls : List (List ℕ)) (line : List ℕ) → last_or old (ls ++ line ∷ []) ≡ line
last_more old [] line = refl
last_more old (l ∷ ls) line = last_more l ls line

-- the line that was added last is the newest
pub newest_more : (ls : List (List ℕ)) (line : List ℕ) → newest_line (ls ++ line ∷ []) ≡ line
newest_more ls line = sym (last_begin (ls ++ line ∷ [])) ∙ last_more [] ls line

-- ---- "12 with its number"

-- each line before it is well-formed, and it is not
pub record FirstMalformed (ls : List (List ℕ)) (n : ℕ) : Type 0 where
  pub before : (i : ℕ) → suc i < n → is_setting (get_or ls i []) ≡ true
  pub here : (i : ℕ) → n ≡ suc i → (i < length ls) × (is_setting (get_or ls i []) ≡ false)

pub no_malformed : (ls : List (List ℕ)) → FirstMalformed ls 0
no_malformed ls = record { before = λ i b. absurd (omega (arith, b)); here = λ i e. absurd (omega (arith, e)) }

pub malformed_now : (l : List ℕ) (ls : List (List ℕ)) → is_setting l ≡ false → FirstMalformed (l ∷ ls) 1
malformed_now l ls t = record { before = λ i b. absurd (omega (arith, b)); here = there }
  where
    there : (i : ℕ) → 1 ≡ suc i → (i < length (l ∷ ls)) × (is_setting (get_or (l ∷ ls) i []) ≡ false)
    there zero e = (omega arith, t)
    there (suc i) e = absurd (omega (arith, e))

pub malformed_then : (l : List ℕ) (ls : List (List ℕ)) → is_setting l ≡ true → (n : ℕ) → FirstMalformed ls n → FirstMalformed (l ∷ ls) (later n)
malformed_then l ls t zero f = no_malformed (l ∷ ls)
malformed_then l ls t (suc n) f = record { before = earlier; here = there }
  where
    earlier : (i : ℕ) → suc i < suc (suc n) → is_setting (get_or (l ∷ ls) i []) ≡ true
    earlier zero b = t
    earlier (suc i) b = f.before i (omega (arith, b))

    there : (i : ℕ) → suc (suc n) ≡ suc i → (i < length (l ∷ ls)) × (is_setting (get_or (l ∷ ls) i []) ≡ false)
    there zero e = absurd (omega (arith, e))
    there (suc i) e = let q = f.here i (omega (arith, e)) in let h = q.0 in (omega (arith, h), q.1)
