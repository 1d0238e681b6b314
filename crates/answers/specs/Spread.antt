-- Bytes spread to hex in parts: 64 at once from a copy, and what is left one by one.
use Rattle.std.specs.Prelude.{◌≡◌, refl, List, ℕ, ◌+◌, ◌*◌, ◌-◌, ◌/◌, ◌%◌, ◌≤◌, ◌<◌, length, set}
use Rattle.std.proofs.Common.{sym, ap, ◌∙◌, arith}
use Rattle.std.proofs.Math.Nat.{mul-add-div, mul-add-mod_self_left}
use Rattle.lists.specs.Digits.{div_below}
use Rattle.lists.specs.Span.{Span, span_cong, span_join, span_to}
use Rattle.lists.specs.Tabulate.{at, fill_step}
use Rattle.hex_text.specs.Hex.{digit_at}
use Rattle.hex_text.specs.Runs.{unit_from}

-- 64 bytes of a text
pub record Block (text : List ℕ) (from : ℕ) (block : List ℕ) : Type 0 where
  pub many : length block ≡ 64
  pub holds : (j : ℕ) → j < 64 → at block j ≡ at text (from + j)

-- digits of a copy are the digits of what was copied
pub block_spread : {text block : List ℕ} (begins to : ℕ) {new : List ℕ} → Block text begins block → Span (unit_from block 0 to) to (to + 2 * 64) text new
    → Span (unit_from text begins to) to (to + 128) text new
block_spread {text} {block} begins to b s =
    span_to (to + 2 * 64) (to + 128) refl
    (span_cong (unit_from block 0 to) (unit_from text begins to) to (to + 2 * 64)
    (λ x h k.
    let none : 0 + (x - to) / 2 ≡ (x - to) / 2 = omega arith in
    ap (λ (v : ℕ). digit_at v (1 - (x - to) % 2)) (ap (at block) none ∙ b.holds ((x - to) / 2) (div_below (x - to) 2 64 (omega arith) (omega (arith, h, k))))) s)

-- the first i bytes were spread, and then n more: what these were is still what stood there
pub spread_more : (old : List ℕ) (a b i n : ℕ) {text new : List ℕ} {c d e : ℕ} → a + 2 * i ≤ b + i → c ≡ b + i → d ≡ a + 2 * i → e ≡ d + 2 * n
    → Span (unit_from old b a) a d old text → Span (unit_from text c d) d e text new → Span (unit_from old b a) a (a + 2 * (i + n)) old new
spread_more old a b i n {text} {new} {c} {d} {e} before qc qd qe s t =
    span_to e (a + 2 * (i + n)) (omega (arith, qd, qe))
    (span_join (unit_from old b a) (unit_from text c d) (unit_from old b a) a d e (omega (arith, qd)) (omega (arith, qe)) s t (λ x h k. refl)
    (λ x h k. digit x h))
  where
    -- a place after d is as far in its pair as after a, and its pair i further on
    far : (x : ℕ) → d ≤ x → x - a ≡ 2 * i + (x - d)
    far x h = omega (arith, qd, h)

    digit : (x : ℕ) → d ≤ x → unit_from text c d x ≡ unit_from old b a x
    digit x h =
        let half : (x - a) / 2 ≡ i + (x - d) / 2 = ap (λ (z : ℕ). z / 2) (far x h) ∙ mul-add-div (omega arith) i (x - d) in
        let which : (x - a) % 2 ≡ (x - d) % 2 = ap (λ (z : ℕ). z % 2) (far x h) ∙ mul-add-mod_self_left 2 i (x - d) in
        let place : c + (x - d) / 2 ≡ b + (x - a) / 2 = omega (arith, qc, half) in
        let stood : at text (c + (x - d) / 2) ≡ at old (b + (x - a) / 2) =
        s.after (c + (x - d) / 2) (omega (arith, qc, qd, before)) ∙ ap (at old) place in
        (λ k. digit_at (stood k) (1 - sym which k))

-- a loop that copies: what is right below j is right below j + 1 after the store
pub block_turn : (text l : List ℕ) (from j v : ℕ) → j < length l → v ≡ at text (from + j) → ((k : ℕ) → k < j → at l k ≡ at text (from + k))
    → (k : ℕ) → k < j + 1 → at (set l j v) k ≡ at text (from + k)
block_turn text l from j v h e below = fill_step (λ k. at text (from + k)) l j v 0 h e below
