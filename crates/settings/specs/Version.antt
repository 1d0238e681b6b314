-- A version by its number, and what an add finds of the version that it is given.
use Rattle.std.specs.Prelude.{◌≡◌, ℕ, Result, MatchResult, true, false}
use Rattle.std.proofs.Common.{refl, subst}
use Rattle.lists.specs.declared.Refusal.{Refusal}
use Rattle.lists.specs.Numbered.{refusal_number}
use Rattle.numbers.specs.declared.Layout.{Layout}
use Rattle.settings.specs.declared.Version.{Version}
use Rattle.settings.specs.declared.Version.TheVariants.{First, Second}
use Rattle.settings.specs.Settings.{is_version}
use Rattle.settings.specs.Calls.{add_refusal}

abbrev pub number_of : Version → ℕ
number_of First = 1
number_of Second = 2

abbrev pub NamesVersion : ℕ → Result Version Refusal → Type 0
NamesVersion number r = MatchResult r (λ version. number_of version ≡ number) (λ e. (refusal_number e ≡ 1) × (is_version number ≡ false))

-- the version of an accepted add, or why it is refused
abbrev pub Accepts : ℕ → Layout → ℕ → ℕ → Result Version Refusal → Type 0
Accepts version y room used r =
    MatchResult r (λ known. (number_of known ≡ version) × (0 ≡ add_refusal version y room used)) (λ e. refusal_number e ≡ add_refusal version y room used)

-- a version's number is one
known_number : (known : Version) → is_version (number_of known) ≡ true
known_number First = refl
known_number Second = refl

pub version_known : (known : Version) {version : ℕ} → number_of known ≡ version → is_version version ≡ true
version_known known e = subst (λ (n : ℕ). is_version n ≡ true) e (known_number known)
