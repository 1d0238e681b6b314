-- Demand 2, parity: "of a group encoded by those rules any N of its N+K content units give back the rest". The byte field, the code, and what the calls
-- encode and rebuild promise, for every N up to 16 and every K up to 3.
use Rattle.std.specs.Prelude.{◌≡◌, refl, Bool, true, false, not, List, [], ◌∷◌, ℕ, zero, suc, ◌+◌, ◌-◌, ◌*◌, ◌<◌, ◌≤◌, eqb, leb, length, get_or}
use Rattle.std.proofs.Common.{sym, ◌∙◌, ⊎_elim, arith, lit<}
use Rattle.std.proofs.Math.Path.{ap, subst⁻¹}
use Rattle.lists.specs.Pick.{either_way, below_or_not}
use Rattle.lists.specs.Count.{count, count-not}
use Rattle.lists.specs.Refusal.{LowestThatApplies, refusal_lowest, grant_yes, grant_no}
use Rattle.numbers.specs.declared.Layout.{Layout}
use Rattle.numbers.specs.Layouts.{Valid, contents}
use Rattle.numbers.specs.Refused.{validb}
use Rattle.field.specs.Byte.{◌⊕◌, mul, inv, div}
use Rattle.field.specs.Laws as F
use Rattle.field.proofs.Laws as FProofs
use Rattle.field.specs.Ring as R
use Rattle.field.specs.Sum.{sum_to}
use Rattle.systems.specs.Coef.{coef}
use Rattle.systems.proofs.CoefLaws.{coef-column}
use Rattle.systems.specs.Cramer.{det, row, sol, sol_solves, sol_unique}
use Rattle.systems.specs.System.{sys, Rising}
use Rattle.systems.proofs.SystemLaws.{regular}
use Rattle.parity.specs.Group.{parity_of, content, Solvable, rebuilt}
use Rattle.parity.specs.Content.{content_beyond, content_data}
use Rattle.parity.specs.Restores.{restores}
use Rattle.parity.specs.Closing.{parity_plain}
use Rattle.parity.specs.Lowest.{Rebuilds, rebuilds, rebuilds_once}
use Rattle.coding.specs.Buffer.{column, encoded_of, rebuilt_of}
use Rattle.coding.specs.Whole.{same_columns, rebuilt-length, encoded-at, rebuilt-at, gives_back, twice}
use Rattle.group.specs.Encode.{encode_refusal, encoded, Encodes}
use Rattle.group.specs.Rebuild.{named, each_below, rebuild_refusal, rebuilt_group, Rebuilding}
use Rattle.group.specs.Accepted.{encode_accepted, Accepted, rebuild_accepted, accepted_solvable}

abbrev Byte : ℕ → Type 0
Byte x = x < 256

-- ---- "Bytes are elements of the field of 256 .. + is exclusive or."

pub record Field : Type 0 where
  pub sum_comm : (a b : ℕ) → a ⊕ b ≡ b ⊕ a
  pub sum_assoc : (a b c : ℕ) → (a ⊕ b) ⊕ c ≡ a ⊕ (b ⊕ c)
  pub sum-zero : (a : ℕ) → a ⊕ 0 ≡ a
  pub sum_self : (a : ℕ) → a ⊕ a ≡ 0
  pub mul_comm : (a b : ℕ) → mul a b ≡ mul b a
  pub mul_assoc : (a b c : ℕ) → mul (mul a b) c ≡ mul a (mul b c)
  pub mul-sum : (a b c : ℕ) → mul a (b ⊕ c) ≡ mul a b ⊕ mul a c
  pub one : (a : ℕ) → Byte a → mul a 1 ≡ a
  pub none : (a : ℕ) → mul a 0 ≡ 0
  pub sum_byte : (a b : ℕ) → Byte a → Byte b → Byte (a ⊕ b)
  pub mul_byte : (a b : ℕ) → Byte (mul a b)
  pub inverse_byte : (a : ℕ) → Byte (inv a)
  pub quotient_byte : (a b : ℕ) → Byte (div a b)
  pub inverse : (a : ℕ) → Byte a → 0 < a → mul a (inv a) ≡ 1
  pub no_divisors_of_zero : (a b : ℕ) → Byte a → Byte b → 0 < a → mul a b ≡ 0 → b ≡ 0
  pub quotient : (a b : ℕ) → Byte a → Byte b → 0 < b → mul (div a b) b ≡ a
  pub quotient_only : (a b q : ℕ) → Byte a → Byte b → Byte q → 0 < b → mul q b ≡ a → q ≡ div a b

pub field_laws : Field
field_laws =
    record {
      sum_comm = R.⊕-comm;
      sum_assoc = R.⊕-assoc;
      sum-zero = R.⊕-zero;
      sum_self = R.⊕-self;
      mul_comm = FProofs.mul_comm;
      mul_assoc = FProofs.mul_assoc;
      mul-sum = R.mul_⊕;
      one = F.mul-one;
      none = F.mul-zero;
      sum_byte = R.⊕-lt;
      mul_byte = FProofs.mul-lt;
      inverse_byte = FProofs.inv-lt;
      quotient_byte = FProofs.div-lt;
      inverse = F.mul-inv;
      no_divisors_of_zero = FProofs.no_zero_divisors;
      quotient = FProofs.div-mul;
      quotient_only = FProofs.div_unique;
    }

-- ---- the code

-- every square part of the 3 by 16 matrix is nonsingular: as many rows `is` as columns `ks`, up to three, padded with the identity to three
pub square_parts : (is ks : List ℕ) → Rising is 3 → Rising ks 16 → length ks ≤ length is → 0 < det (sys is ks)
square_parts = regular

-- a system whose determinant is not 0 has a solution, and no other
pub solvable_once : (m : ℕ → ℕ → ℕ) (y : ℕ → ℕ) → 0 < det m → ((r : ℕ) → r < 3 → Byte (y r))
    → ((r : ℕ) → r < 3 → row m (sol m y) r ≡ y r) × ((x : ℕ → ℕ) → ((r : ℕ) → r < 3 → Byte (x r)) → ((r : ℕ) → r < 3 → row m x r ≡ y r) → (r : ℕ) → r < 3 → x r ≡ sol m y r)
solvable_once m y h b = (λ r l. sol_solves m y h r l (b r l), λ x c e r l. sym (sol_unique m x y h e r l (c r l)))

module _ (n k : ℕ) (n16 : n ≤ 16) (k3 : k ≤ 3) where
  -- any N of the N+K units determine the encoding
  pub any_units_determine : (here : ℕ → Bool) → n ≤ count here (n + k) → (d e : ℕ → ℕ) → ((j : ℕ) → j < n → Byte (d j)) → ((j : ℕ) → j < n → Byte (e j))
      → ((u : ℕ) → u < n + k → here u ≡ true → content n d u ≡ content n e u) → (u : ℕ) → u < n + k → content n d u ≡ content n e u
  any_units_determine here enough d e bd be same u h =
      sym (restores n k miss s (content n d) d bd (λ v i t. refl) u h)
      ∙ restores n k miss s (content n d) e be (λ v i t. same v i (there v t)) u h
    where
      miss : ℕ → Bool
      miss v = not (here v)

      s : Solvable n k miss
      s = record { data_max = n16; parity_max = k3; few = omega (arith, count-not here (n + k)) }

      there : (v : ℕ) → miss v ≡ false → here v ≡ true
      there v t = ⊎_elim (λ (x : here v ≡ true). x) (λ (x : here v ≡ false). absurd (clash_not (here v) x t)) (either_way (here v))
        where
          clash_not : (b : Bool) → b ≡ false → not b ≡ false → ⊥
          clash_not b p q = let z : ◌≡◌ {A = ℕ} 0 1 = cc in omega arith

-- "one parity is the plain exclusive or"
pub one_parity : (n : ℕ) → n ≤ 16 → (d : ℕ → ℕ) → ((j : ℕ) → j < n → Byte (d j)) → parity_of n d 0 ≡ sum_to n d
one_parity = parity_plain

-- "N = 1 gives replication"
pub replication : (k : ℕ) → k ≤ 3 → (d : ℕ → ℕ) → Byte (d 0) → (u : ℕ) → u < 1 + k → content 1 d u ≡ d 0
replication k k3 d b zero h = content_data 1 d 0 (lit< tt)
replication k k3 d b (suc i) h = content_beyond 1 d (suc i) (omega arith) ∙ copy (suc i - 1) (omega arith)
  where
    copy : (i : ℕ) → i < 3 → parity_of 1 d i ≡ d 0
    copy i l = unfold parity_of sum_to in (R.zero_⊕ (mul (coef i 0) (d 0)) ∙ ap (λ (c : ℕ). mul c (d 0)) (coef-column i l) ∙ FProofs.one-mul (d 0) b)

-- ---- encode

module _ (y : Layout) where
  -- the number that it answers is the lowest that applies
  pub encode_lowest : (before : List ℕ) (r : ℕ) (after : List ℕ) → Encodes y before r after
      → LowestThatApplies ((validb y, 1) ∷ (eqb (length before) (contents y * y.u), 5) ∷ []) r
  unfolding encode_refusal
  encode_lowest before r after p =
      subst⁻¹ (LowestThatApplies ((validb y, 1) ∷ (eqb (length before) (contents y * y.u), 5) ∷ [])) p.answers
      (refusal_lowest 1 ((validb y, 1) ∷ (eqb (length before) (contents y * y.u), 5) ∷ []) (omega arith) refl)

  -- any two outcomes that the promise of encode allows are the same
  pub encode_tight : (before : List ℕ) (r r' : ℕ) (after after' : List ℕ) → Encodes y before r after → Encodes y before r' after' → (r ≡ r') × (after ≡ after')
  encode_tight before r r' after after' a b = (a.answers ∙ sym b.answers, a.bytes ∙ sym b.bytes)

  -- a refused encoding changes no byte
  pub encode_refused : (before : List ℕ) (r : ℕ) (after : List ℕ) → Encodes y before r after → (r ≡ 0 → ⊥) → after ≡ before
  unfolding encoded
  encode_refused before r after p never = p.bytes ∙ grant_no (encode_refusal y (length before)) _ before (λ (z : _ ≡ 0). never (p.answers ∙ z))

  module _ (buf : List ℕ) (ok : encode_refusal y (length buf) ≡ 0) where
    v : Valid y
    v = (encode_accepted y (length buf) ok).0

    whole : encoded y buf ≡ encoded_of y.n y.u buf
    unfolding encoded
    whole = grant_yes (encode_refusal y (length buf)) _ buf ok

    -- every unit is what the data units give: data units stay, parity units are set
    pub encode_gives : (u at : ℕ) → u < contents y → at < y.u → column (encoded y buf) y.u at u ≡ content y.n (column buf y.u at) u
    encode_gives u at h l =
        ap (λ (b : List ℕ). column b y.u at u) whole
        ∙ encoded-at y.n y.k y.u (omega (arith, v.some_bytes)) buf (encode_accepted y (length buf) ok).1 u at h l

-- ---- rebuild

module _ (y : Layout) (missing : List ℕ) where
  abbrev rebuild_table : ℕ → List (Bool × ℕ)
  rebuild_table len = (validb y, 1) ∷ (each_below (contents y) missing, 4) ∷ (eqb len (contents y * y.u), 5) ∷ (leb (count (named missing) (contents y)) y.k, 8) ∷ []

  -- the number that it answers is the lowest that applies
  pub rebuild_lowest : (before : List ℕ) (r : ℕ) (after : List ℕ) → Rebuilding y missing before r after → LowestThatApplies (rebuild_table (length before)) r
  unfolding rebuild_refusal
  rebuild_lowest before r after p =
      subst⁻¹ (LowestThatApplies (rebuild_table (length before))) p.answers (refusal_lowest 1 (rebuild_table (length before)) (omega arith) refl)

  -- any two outcomes that the promise of rebuild allows are the same
  pub rebuild_tight : (before : List ℕ) (r r' : ℕ) (after after' : List ℕ) → Rebuilding y missing before r after → Rebuilding y missing before r' after'
      → (r ≡ r') × (after ≡ after')
  rebuild_tight before r r' after after' a b = (a.answers ∙ sym b.answers, a.bytes ∙ sym b.bytes)

  kept : (buf : List ℕ) → (rebuild_refusal y missing (length buf) ≡ 0 → ⊥) → rebuilt_group y missing buf ≡ buf
  unfolding rebuilt_group
  kept buf f = grant_no (rebuild_refusal y missing (length buf)) _ buf f

  -- a refused rebuild changes no byte
  pub rebuild_refused : (before : List ℕ) (r : ℕ) (after : List ℕ) → Rebuilding y missing before r after → (r ≡ 0 → ⊥) → after ≡ before
  rebuild_refused before r after p never = p.bytes ∙ kept before (λ z. never (p.answers ∙ z))

  granted : (buf : List ℕ) → rebuild_refusal y missing (length buf) ≡ 0 → rebuilt_group y missing buf ≡ rebuilt_of y.n y.k y.u (named missing) buf
  unfolding rebuilt_group
  granted buf ok = grant_yes (rebuild_refusal y missing (length buf)) _ buf ok

  module _ (buf : List ℕ) (ok : rebuild_refusal y missing (length buf) ≡ 0) where
    a : Accepted y missing (length buf)
    a = rebuild_accepted y missing (length buf) ok

    s : Solvable y.n y.k (named missing)
    s = accepted_solvable y missing (length buf) a

    pos : 0 < y.u
    pos = omega (arith, a.valid.some_bytes)

    at_unit : (u at : ℕ) → u < contents y → at < y.u
        → column (rebuilt_group y missing buf) y.u at u ≡ rebuilt y.n y.k (named missing) (column buf y.u at) u
    at_unit u at h l =
        ap (λ (b : List ℕ). column b y.u at u) (granted buf ok)
        ∙ rebuilt-at y.n y.k y.u pos buf a.size (named missing) u at h l

    -- "It uses the N lowest present units, fills the missing ones and changes nothing else, also where the present ones disagree": at each byte
    -- position some data agree with the N lowest units that are not named, the named ones are filled from them, and the others stay
    pub rebuild_agrees : ((x : ℕ) → Byte (get_or buf x 0)) → (at : ℕ) → at < y.u
        → Rebuilds y.n y.k (named missing) (column buf y.u at) (column (rebuilt_group y missing buf) y.u at)
    rebuild_agrees b at l =
        let r = rebuilds y.n y.k (named missing) s (column buf y.u at) (λ u h. b (u * y.u + at)) in
        record {
          from = r.from;
          bytes = r.bytes;
          agrees = r.agrees;
          filled = λ u h t. at_unit u at h l ∙ r.filled u h t;
          kept = λ u h t. at_unit u at h l ∙ r.kept u h t;
        }

    -- and that determines every byte
    pub rebuild_determined : (after after' : List ℕ) → length after ≡ length buf → length after' ≡ length buf
        → ((at : ℕ) → at < y.u → Rebuilds y.n y.k (named missing) (column buf y.u at) (column after y.u at))
        → ((at : ℕ) → at < y.u → Rebuilds y.n y.k (named missing) (column buf y.u at) (column after' y.u at)) → after ≡ after'
    rebuild_determined after after' p q r r' =
        same_columns y.n y.k y.u pos after after' (p ∙ a.size) (q ∙ a.size)
        (λ u at h l. rebuilds_once y.n y.k (named missing) s (column buf y.u at) (column after y.u at) (column after' y.u at) (r at l) (r' at l) u h)

  -- rebuild after encode gives back exactly the encoded group, whatever became of the missing units
  pub rebuild_after_encode : (buf damaged : List ℕ) → encode_refusal y (length buf) ≡ 0 → rebuild_refusal y missing (length damaged) ≡ 0 → ((x : ℕ) → Byte (get_or buf x 0))
      → ((u at : ℕ) → u < contents y → at < y.u → named missing u ≡ false → column damaged y.u at u ≡ column (encoded y buf) y.u at u)
      → rebuilt_group y missing damaged ≡ encoded y buf
  rebuild_after_encode buf damaged ok ok' b e =
      granted damaged ok'
      ∙ gives_back y.n y.k y.u (pos damaged ok') (named missing) (s damaged ok') buf damaged (encode_accepted y (length buf) ok).1 (a damaged ok').size b
      (λ u at h l t. e u at h l t ∙ ap (λ (z : List ℕ). column z y.u at u) (whole y buf ok))
      ∙ sym (whole y buf ok)

  -- rebuilding twice changes nothing more, on any buffer
  pub rebuild_twice : (buf : List ℕ) → rebuilt_group y missing (rebuilt_group y missing buf) ≡ rebuilt_group y missing buf
  rebuild_twice buf = below_or_not 0 (rebuild_refusal y missing (length buf)) refused accepted
    where
      refused : 0 < rebuild_refusal y missing (length buf) → rebuilt_group y missing (rebuilt_group y missing buf) ≡ rebuilt_group y missing buf
      refused h = ap (rebuilt_group y missing) (kept buf (λ (z : rebuild_refusal y missing (length buf) ≡ 0). absurd (omega arith)))

      accepted : rebuild_refusal y missing (length buf) ≤ 0 → rebuilt_group y missing (rebuilt_group y missing buf) ≡ rebuilt_group y missing buf
      accepted h =
          let ok : rebuild_refusal y missing (length buf) ≡ 0 = omega arith in
          let same : length (rebuilt_of y.n y.k y.u (named missing) buf) ≡ length buf = rebuilt-length y.n y.k y.u (named missing) buf in
          ap (rebuilt_group y missing) (granted buf ok)
          ∙ granted (rebuilt_of y.n y.k y.u (named missing) buf) (ap (rebuild_refusal y missing) same ∙ ok)
          ∙ twice y.n y.k y.u (pos buf ok) (named missing) (s buf ok) buf (a buf ok).size
          ∙ sym (granted buf ok)
