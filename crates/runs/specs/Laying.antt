-- Runs of which no two meet, each as long as a unit: the image has them laid on.
use Rattle.std.specs.Prelude.{◌≡◌, Bool, true, List, ℕ, ◌+◌, ◌-◌, ◌<◌, ◌≤◌, length, get_or}
use Rattle.std.proofs.Common.{ap, ◌∙◌, arith}
use Rattle.lists.specs.Part.{within_cases}
use Rattle.lists.specs.Lays.{Lays}
use Rattle.runs.specs.Run.{paint, paint-length, paint-hit, paint-miss}

pub paint_lays : (on : ℕ → Bool) (at : ℕ → ℕ) (u : ℕ) (v : ℕ → ℕ → ℕ) (m : ℕ) (img img' : List ℕ)
    → ((c : ℕ) → c < m → on c ≡ true → at c + u ≤ length img)
    → ((c d x y : ℕ) → c < m → d < m → on c ≡ true → on d ≡ true → x < u → y < u → at c + x ≡ at d + y → c ≡ d)
    → img' ≡ paint on at u v m img → Lays m u at (λ c o. on c) v img img'
paint_lays on at u v m img img' inside apart e =
    record {
      same = ap length e ∙ paint-length on at u v m img;
      hit = λ c o hc ho t.
          ap (λ (l : List ℕ). get_or l (at c + o) 0) e
          ∙ paint-hit on at u v m img c o hc t ho (inside c hc t)
          (λ j hj tj (ne : j ≡ c → ⊥).
          within_cases (at j) u (at c + o) (λ p q. absurd (ne (apart j c (at c + o - at j) o hj hc tj t (omega arith) ho (omega arith)))) (λ w. w));
      miss = λ x h w.
          ap (λ (l : List ℕ). get_or l x 0) e
          ∙ paint-miss on at u v m img x h
          (λ c hc tc. within_cases (at c) u x (λ p q. absurd (w c (x - at c) hc (omega arith) tc (omega arith))) (λ z. z));
    }
