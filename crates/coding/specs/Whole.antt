-- Encoded and rebuilt buffers, position by position: what is there of an encoded group gives back the whole, and rebuilding twice changes
-- nothing more.
use Rattle.std.specs.Prelude.{◌≡◌, Bool, false, List, ℕ, ◌+◌, ◌*◌, ◌/◌, ◌%◌, ◌<◌, length, get_or}
use Rattle.std.proofs.Common.{sym, ◌∙◌, subst, mod-lt, div-add-mod', div-lt_iff_lt-mul, ext_get_or}
use Rattle.std.proofs.Math.Path.{ap₂, subst⁻¹}
use Rattle.std.proofs.Math.Arith.{digits_lt, digits_div, digits_mod}
use Rattle.lists.specs.Tabulate.{length-tabulate, get_d_tabulate}
use Rattle.parity.specs.Group.{Solvable, content, rebuilt}
use Rattle.parity.specs.Restores.{restores}
use Rattle.parity.specs.Local.{rebuilt_cong, rebuilt-there}
use Rattle.coding.specs.Buffer.{column, content_byte, encoded_of, rebuilt_byte, rebuilt_of}

pub encoded-length : (n unit : ℕ) (buf : List ℕ) → length (encoded_of n unit buf) ≡ length buf
unfolding encoded_of
encoded-length n unit buf = length-tabulate (length buf) (content_byte n unit buf)

pub rebuilt-length : (n k unit : ℕ) (miss : ℕ → Bool) (buf : List ℕ) → length (rebuilt_of n k unit miss buf) ≡ length buf
unfolding rebuilt_of
rebuilt-length n k unit miss buf = length-tabulate (length buf) (rebuilt_byte n k unit miss buf)

module _ (n k unit : ℕ) (pos : 0 < unit) where
  -- two buffers of a group are equal where their units are, position by position
  pub same_columns : (a b : List ℕ) → length a ≡ (n + k) * unit → length b ≡ (n + k) * unit
      → ((u at : ℕ) → u < n + k → at < unit → column a unit at u ≡ column b unit at u) → a ≡ b
  same_columns a b p q e =
      ext_get_or 0 a b (p ∙ sym q)
      (λ x h. subst (λ (z : ℕ). get_or a z 0 ≡ get_or b z 0) (div-add-mod' x unit)
      (e (x / unit) (x % unit) ((div-lt_iff_lt-mul pos).1 (subst (λ (z : ℕ). x < z) p h)) (mod-lt x pos)))

  module _ (buf : List ℕ) (size : length buf ≡ (n + k) * unit) where
    inside : (u at : ℕ) → u < n + k → at < unit → u * unit + at < length buf
    inside u at h l = subst⁻¹ (λ (z : ℕ). u * unit + at < z) size (digits_lt h l)

    pub encoded-at : (u at : ℕ) → u < n + k → at < unit → column (encoded_of n unit buf) unit at u ≡ content n (column buf unit at) u
    unfolding encoded_of content_byte
    encoded-at u at h l =
        get_d_tabulate (length buf) (content_byte n unit buf) (u * unit + at) 0 (inside u at h l)
        ∙ ap₂ (λ (p q : ℕ). content n (column buf unit p) q) (digits_mod u l) (digits_div u l)

    pub rebuilt-at : (miss : ℕ → Bool) (u at : ℕ) → u < n + k → at < unit
        → column (rebuilt_of n k unit miss buf) unit at u ≡ rebuilt n k miss (column buf unit at) u
    unfolding rebuilt_of rebuilt_byte
    rebuilt-at miss u at h l =
        get_d_tabulate (length buf) (rebuilt_byte n k unit miss buf) (u * unit + at) 0 (inside u at h l)
        ∙ ap₂ (λ (p q : ℕ). rebuilt n k miss (column buf unit p) q) (digits_mod u l) (digits_div u l)

  module _ (miss : ℕ → Bool) (s : Solvable n k miss) where
    -- what is there of an encoded group gives back the whole
    pub gives_back : (buf damaged : List ℕ) → length buf ≡ (n + k) * unit → length damaged ≡ (n + k) * unit → ((x : ℕ) → get_or buf x 0 < 256)
        → ((u at : ℕ) → u < n + k → at < unit → miss u ≡ false → column damaged unit at u ≡ column (encoded_of n unit buf) unit at u)
        → rebuilt_of n k unit miss damaged ≡ encoded_of n unit buf
    gives_back buf damaged p q b e =
        same_columns _ _ (rebuilt-length n k unit miss damaged ∙ q) (encoded-length n unit buf ∙ p)
        (λ u at h l. rebuilt-at damaged q miss u at h l
        ∙ restores n k miss s (column damaged unit at) (column buf unit at) (λ j i. b (j * unit + at))
        (λ v i t. e v at i l t ∙ encoded-at buf p v at i l) u h
        ∙ sym (encoded-at buf p u at h l))

    -- rebuilding twice changes nothing more
    pub twice : (buf : List ℕ) → length buf ≡ (n + k) * unit → rebuilt_of n k unit miss (rebuilt_of n k unit miss buf) ≡ rebuilt_of n k unit miss buf
    twice buf p =
        let q = rebuilt-length n k unit miss buf ∙ p in
        same_columns _ _ (rebuilt-length n k unit miss (rebuilt_of n k unit miss buf) ∙ q) q
        (λ u at h l. rebuilt-at (rebuilt_of n k unit miss buf) q miss u at h l
        ∙ rebuilt_cong n k miss s (column (rebuilt_of n k unit miss buf) unit at) (column buf unit at)
        (λ v i t. rebuilt-at buf p miss v at i l ∙ rebuilt-there n k miss s (column buf unit at) v t) u h
        ∙ sym (rebuilt-at buf p miss u at h l))
