-- The loop that sets the parity units, one run each: a turn, and that it comes to the whole.
use Rattle.std.specs.Prelude.{◌≡◌, refl, List, [], ◌∷◌, ℕ, ◌+◌, ◌-◌, ◌*◌, ◌/◌, ◌%◌, ◌<◌, ◌≤◌, length}
use Rattle.std.proofs.Math.Path.{sym, ap, ap₂, subst⁻¹}
use Rattle.std.proofs.Common.{◌∙◌, div-add-mod', div-lt_iff_lt-mul, arith}
use Rattle.std.proofs.Math.Arith.{digits_lt, digits_div, digits_mod}
use Rattle.std.proofs.Math.ListN.{get_or}
use Rattle.lists.specs.Pick.{below_or_not}
use Rattle.lists.specs.Search.{all, all-eq}
use Rattle.lists.specs.Tabulate.{tabulated}
use Rattle.lists.specs.Span.{Span, span_join}
use Rattle.field.specs.Byte.{mul}
use Rattle.field.specs.Sum.{sum_cong}
use Rattle.kernel.specs.Combine.{sum_at}
use Rattle.kernel.specs.InPlace.{Apart}
use Rattle.systems.specs.Coef.{coef}
use Rattle.parity.specs.Group.{parity_of, content}
use Rattle.parity.specs.Content.{content_data, content_parity}
use Rattle.coding.specs.Buffer.{column, content_byte, encoded_of}
use Rattle.coding.specs.Units.{units_apart}

-- the data units' numbers as the code holds them
abbrev pub data_units : List ℕ
data_units = 0 ∷ 1 ∷ 2 ∷ 3 ∷ 4 ∷ 5 ∷ 6 ∷ 7 ∷ 8 ∷ 9 ∷ 10 ∷ 11 ∷ 12 ∷ 13 ∷ 14 ∷ 15 ∷ []

pub data_unit_at : (j : ℕ) → j < 16 → get_or data_units j 0 ≡ j
unfolding all
data_unit_at = all-eq (λ j. get_or data_units j 0) (λ j. j) 16 refl

-- `starts` are where the data units start, `coefs` the coefficients of parity i
pub record DataRun (n unit i : ℕ) (starts coefs : List ℕ) : Type 0 where
  pub starts_at : (j : ℕ) → j < n → get_or starts j 0 ≡ j * unit
  pub coefs_are : (j : ℕ) → j < n → get_or coefs j 0 ≡ coef i j

module _ (n unit : ℕ) (pos : 0 < unit) (old : List ℕ) where
  -- the data units stay
  stays : (y : ℕ) → y < n * unit → content_byte n unit old y ≡ get_or old y 0
  unfolding content_byte
  stays y h =
      content_data n (column old unit (y % unit)) (y / unit) ((div-lt_iff_lt-mul pos).1 h) ∙ ap (λ (z : ℕ). get_or old z 0) (div-add-mod' y unit)

  module _ (i : ℕ) (starts coefs : List ℕ) (r : DataRun n unit i starts coefs) where
    -- a byte of parity i, from a list whose data units are those of `old`
    parity_byte : (mid : List ℕ) (x : ℕ) → x < unit → ((y : ℕ) → y < n * unit → get_or mid y 0 ≡ get_or old y 0)
        → sum_at n coefs starts mid x ≡ content_byte n unit old ((n + i) * unit + x)
    unfolding content_byte sum_at parity_of
    parity_byte mid x h m =
        sum_cong n _ _ (λ j k. ap₂ mul (r.coefs_are j k) (ap (λ (z : ℕ). get_or mid (z + x) 0) (r.starts_at j k) ∙ m (j * unit + x) (digits_lt k h)))
        ∙ sym (content_parity n (column old unit x) i)
        ∙ ap₂ (λ (a b : ℕ). content n (column old unit a) b) (sym (digits_mod (n + i) h)) (sym (digits_div (n + i) h))

    -- a parity unit more
    pub encode_turn : (at e : ℕ) {mid new : List ℕ} → at ≡ (n + i) * unit → e ≡ at + unit → n * unit ≤ at
        → Span (content_byte n unit old) (n * unit) at old mid → Span (λ y. sum_at n coefs starts mid (y - at)) at (at + unit) mid new
        → Span (content_byte n unit old) (n * unit) e old new
    encode_turn at e {mid} {new} q p h a b =
        span_join (content_byte n unit old) (λ y. sum_at n coefs starts mid (y - at)) (content_byte n unit old) (n * unit) at e h (omega arith) a
        (subst⁻¹ (λ (z : ℕ). Span (λ y. sum_at n coefs starts mid (y - at)) at z mid new) p b) (λ y k l. refl)
        (λ y k l. parity_byte mid (y - at) (omega arith) a.before
        ∙ ap (content_byte n unit old) (ap (◌+ (y - at)) (sym q) ∙ (let w : at + (y - at) ≡ y = omega arith in w)))

    -- the data units lie before the parity unit
    pub data_apart : (k at size : ℕ) → i < k → at ≡ (n + i) * unit → size ≡ (n + k) * unit → (j : ℕ) → j < n → Apart (get_or starts j 0) at unit size
    data_apart k at size h q p j l = units_apart j (n + i) (n + k) unit (r.starts_at j l) q (omega arith) (omega arith) (λ (e : j ≡ n + i). omega arith)

  pub encode_all : (at : ℕ) (new : List ℕ) → at ≡ length old → Span (content_byte n unit old) (n * unit) at old new → new ≡ encoded_of n unit old
  unfolding encoded_of
  encode_all at new e s =
      tabulated (length old) (content_byte n unit old) new 0 s.len
      (λ y h. below_or_not y (n * unit) (λ (l : y < n * unit). s.before y l ∙ sym (stays y l)) (λ (l : n * unit ≤ y). s.done y l (omega arith)))
