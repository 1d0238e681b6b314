-- A played line keeps the call's promise: refused, and for each kind of line.
use Rattle.std.specs.Prelude.{◌≡◌, true, false, List, [], ◌∷◌, ℕ, zero, suc, ◌≤◌, length, drop}
use Rattle.std.proofs.Math.Path.{refl}
use Rattle.std.proofs.Common.{sym, ap, ◌∙◌, arith, length-append}
use Rattle.lists.specs.Refusal.{◌or_else◌, refusal_by, grant}
use Rattle.lists.specs.Tabulate.{zeros}
use Rattle.numbers.specs.declared.Layout.{Layout}
use Rattle.homes.specs.declared.Record.{Record}
use Rattle.hex_text.specs.Digit.{number_at}
use Rattle.hex_text.specs.Hex.{hex_of}
use Rattle.pool.specs.Refusals.{range_refusal, fail_refusal, repair_refusal}
use Rattle.pool.specs.Reading.{read_out}
use Rattle.pool.specs.Writing.{write_image}
use Rattle.pool.specs.Failing.{fail_record}
use Rattle.pool.specs.Repairing.{repair_image, repair_record, repair_count}
use Rattle.trace.specs.Forms.{kind_of, bytes_of}
use Rattle.trace.specs.Told.{Told, malformed, told_of}
use Rattle.trace.specs.ToldLaws.{told_write_lem, told_fail_lem, told_repair_lem, told_read_lem}
use Rattle.answers.specs.Decimal.{decimal, printed}
use Rattle.replay_line.specs.declared.Played.{Played}
use Rattle.replay_line.specs.Play.{played_record, played_image, answer_of, roomy, play_refusal, laid_first, Plays}
use Rattle.replay_line.specs.Said.{Said}

-- ---- the promise

module _ (y : Layout) (R : Record) (img line old : List ℕ) where
  refused : roomy (length img) (length old) ≡ false → play_refusal (length img) (length old) ≡ 5
  unfolding play_refusal refusal_by ◌or_else◌
  refused t = simp t

  accepted : roomy (length img) (length old) ≡ true → play_refusal (length img) (length old) ≡ 0
  unfolding play_refusal refusal_by ◌or_else◌
  accepted t = simp t

  pub plays_refused : {new : List ℕ} → roomy (length img) (length old) ≡ false → new ≡ zeros (length old)
      → Plays y R img line old (record { refusal = 5; length = 0; rec = R }) img new
  plays_refused t e =
      let n = sym (refused t) in
      record {
        answer = n;
        long = ap (λ (k : ℕ). grant k (length (answer_of y R img (told_of line))) 0) n;
        text = e ∙ ap (λ (k : ℕ). grant k (laid_first (answer_of y R img (told_of line)) old) (zeros (length old))) n;
        rec = ap (λ (k : ℕ). grant k (played_record y R img (told_of line)) R) n;
        image = ap (λ (k : ℕ). grant k (played_image y R img (told_of line)) img) n;
      }

  pub plays_told : {t : Told} {x : Played} {img' new : List ℕ} → roomy (length img) (length old) ≡ true → told_of line ≡ t → x.refusal ≡ 0
      → Said (answer_of y R img t) old x.length new → x.rec ≡ played_record y R img t → img' ≡ played_image y R img t → Plays y R img line old x img' new
  plays_told {t} {x} {img'} {new} h e z s r i =
      let n = sym (accepted h) in
      let u = sym e in
      record {
        answer = z ∙ n;
        long = s.long ∙ (λ k. grant (n k) (length (answer_of y R img (u k))) 0);
        text = s.laid ∙ (λ k. grant (n k) (laid_first (answer_of y R img (u k)) old) (zeros (length old)));
        rec = r ∙ (λ k. grant (n k) (played_record y R img (u k)) R);
        image = i ∙ (λ k. grant (n k) (played_image y R img (u k)) img);
      }

  -- ---- each kind of line

  module _ (h : roomy (length img) (length old) ≡ true) {n : ℕ} {new : List ℕ} where
    pub plays_write : {img' : List ℕ} → kind_of line ≡ 1
        → (img' ≡ write_image y R img (number_at line 3 16) (bytes_of line))
        × Said (printed (range_refusal y R (length img) (number_at line 3 16) (length (bytes_of line))) []) old n new
        → Plays y R img line old (record { refusal = 0; length = n; rec = R }) img' new
    unfolding answer_of played_record played_image
    plays_write e p = plays_told h (told_write_lem line e) refl p.1 refl p.0

    pub plays_read : kind_of line ≡ 4
        → Said (printed (range_refusal y R (length img) (number_at line 3 16) (number_at line 20 16))
        (32 ∷ hex_of (read_out y R img (number_at line 3 16) (number_at line 20 16)))) old n new
        → Plays y R img line old (record { refusal = 0; length = n; rec = R }) img new
    unfolding answer_of played_record played_image
    plays_read e p = plays_told h (told_read_lem line e) refl p refl refl

    pub plays_malformed : told_of line ≡ malformed → Said (printed 13 []) old n new → Plays y R img line old (record { refusal = 0; length = n; rec = R }) img new
    unfolding answer_of played_record played_image
    plays_malformed e p = plays_told h e refl p refl refl

  module _ (h : roomy (length img) (length old) ≡ true) {x : Played} {new : List ℕ} where
    pub plays_fail : kind_of line ≡ 2
        → (x.refusal ≡ 0) × (x.rec ≡ fail_record y R (length img) (number_at line 3 2))
        × Said (printed (fail_refusal y R (length img) (number_at line 3 2)) []) old x.length new
        → Plays y R img line old x img new
    unfolding answer_of played_record played_image
    plays_fail e p = plays_told h (told_fail_lem line e) p.0 p.2 p.1 refl

    pub plays_repair : {img' : List ℕ} → kind_of line ≡ 3
        → (x.refusal ≡ 0) × (x.rec ≡ repair_record y R (length img)) × (img' ≡ repair_image y R img)
        × Said (printed (repair_refusal y R (length img)) (32 ∷ decimal (repair_count y R (length img)))) old x.length new
        → Plays y R img line old x img' new
    unfolding answer_of played_record played_image
    plays_repair e p = plays_told h (told_repair_lem line e) p.0 p.3 p.1 p.2

  -- ---- an answer lies within its buffer, which keeps its length

  pub answer_fits : {x : Played} {img' new : List ℕ} → Plays y R img line old x img' new → length new ≡ length old → x.length ≤ length old
  answer_fits {x} {img'} {new} p same =
      grant_cases (play_refusal (length img) (length old)) p.long p.text
    where
      said : List ℕ
      said = answer_of y R img (told_of line)

      grant_cases : (n : ℕ) → x.length ≡ grant n (length said) 0 → new ≡ grant n (laid_first said old) (zeros (length old)) → x.length ≤ length old
      grant_cases zero e f =
          let g = ap length f in
          let h = length-append said (drop (length said) old) in
          omega (arith, e, g, h, same)
      grant_cases (suc n) e f = omega (arith, e)
