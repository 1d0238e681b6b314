-- Content c of group g as one number, group after group: the missing pairs, lowest first.
use Rattle.std.specs.Prelude.{◌≡◌, Bool, List, ℕ, ◌+◌, ◌*◌, ◌/◌, ◌%◌, ◌<◌, ◌≤◌}
use Rattle.std.proofs.Common.{sym, ap, ap₂, ◌∙◌, subst, zero-mul, not-suc-le-zero, arith}
use Rattle.lists.specs.Pick.{below_or_not}
use Rattle.lists.specs.Count.{count, count_same, sum_same, count_blocks}
use Rattle.lists.specs.Digits.{div_of, mod_of}
use Rattle.lists.specs.Those.{those}
use Rattle.numbers.specs.declared.Layout.{Layout}
use Rattle.numbers.specs.Layouts.{all_groups, contents}
use Rattle.homes.specs.declared.Record.{Record}
use Rattle.homes.specs.Missing.{missing}
use Rattle.pool.specs.Counting.{missing_units}

abbrev pub pair_number : Layout → ℕ → ℕ → ℕ
pair_number y g c = contents y * g + c

-- the pair of number x is missing
unfoldable pub missing_pair : Layout → Record → ℕ → Bool
missing_pair y R x = missing y R (x / contents y) (x % contents y)

-- the numbers of the missing pairs, lowest first
abbrev pub missing_numbers : Layout → Record → List ℕ
missing_numbers y R = those (missing_pair y R) (contents y * all_groups y)

-- ---- laws

pub missing_pair_lem : (y : Layout) (R : Record) (g c : ℕ) → c < contents y → missing_pair y R (pair_number y g c) ≡ missing y R g c
unfolding missing_pair
missing_pair_lem y R g c h = ap₂ (missing y R) (div_of (contents y) g h) (mod_of (contents y) g h)

-- there are as many as units await repair
pub pairs_counted : (y : Layout) (R : Record) → missing_units y R ≡ count (missing_pair y R) (contents y * all_groups y)
unfolding missing_units
pairs_counted y R =
    sum_same _ _ (all_groups y) (λ g h. count_same _ _ (contents y) (λ c b. sym (missing_pair_lem y R g c b)))
    ∙ count_blocks (missing_pair y R) (contents y) (all_groups y)

-- contents in range have different numbers
pub pair_apart : (y : Layout) (g h c d : ℕ) → c < contents y → d < contents y → pair_number y g c ≡ pair_number y h d → (g ≡ h) × (c ≡ d)
pair_apart y g h c d hc hd e = (
  sym (div_of (contents y) g hc) ∙ ap (λ (x : ℕ). x / contents y) e ∙ div_of (contents y) h hd,
  sym (mod_of (contents y) g hc) ∙ ap (λ (x : ℕ). x % contents y) e ∙ mod_of (contents y) h hd,
)

pub some_factor : (x m g : ℕ) → x < m * g → 0 < m
some_factor x m g h =
    below_or_not 0 m (λ (l : 0 < m). l)
    (λ (l : m ≤ 0). let z : m ≡ 0 = omega arith in absurd (not-suc-le-zero (subst (λ (k : ℕ). x < k) (ap (λ (k : ℕ). k * g) z ∙ zero-mul g) h)))
