-- The second step of a look for callers who take no reference back: the place is promised, and that the part there is what document 01 shows.
use Rattle.std.specs.Prelude.{◌≡◌, List, ℕ, length}
use Rattle.std.proofs.Common.{sym, ap, ◌∙◌}
use Rattle.numbers.specs.declared.Layout.{Layout}
use Rattle.homes.specs.declared.Record.{Record}
use Rattle.pool.specs.Refusals.{look_refusal}
use Rattle.pool.specs.Looking.{look_shown}
use Rattle.pool_look.specs.declared.Shown.{Shown}
use Rattle.pool_look.specs.Shown.{shown_at, part_at}
use Rattle.pool_look.specs.Looks.{shown-part, shown_refusal}

pub record ShowsAt (y : Layout) (R : Record) (img scratch : List ℕ) (group content : ℕ) (x : Shown) : Type 0 where
  pub place : x ≡ shown_at y R (length img) (length scratch) group content
  pub bytes : part_at x img scratch ≡ look_shown y R img scratch group content

pub shows_at : (y : Layout) (R : Record) (img scratch : List ℕ) (group content : ℕ) (x : Shown)
    → x ≡ shown_at y R (length img) (length scratch) group content → ShowsAt y R img scratch group content x
shows_at y R img scratch group content x e =
    record { place = e; bytes = ap (λ (z : Shown). part_at z img scratch) e ∙ shown-part y R img scratch group content }

pub shows_at_tight : (y : Layout) (R : Record) (img scratch : List ℕ) (group content : ℕ) (x x' : Shown) → ShowsAt y R img scratch group content x
    → ShowsAt y R img scratch group content x' → x ≡ x'
shows_at_tight y R img scratch group content x x' a b = a.place ∙ sym b.place

-- "Where several apply, the lowest is given": the number is that of both steps of a look (`prepare-and-show-lowest`)
pub shows_at_refusal : (y : Layout) (R : Record) (img scratch : List ℕ) (group content : ℕ) (x : Shown) → ShowsAt y R img scratch group content x
    → x.refusal ≡ look_refusal y R (length img) (length scratch) group content
shows_at_refusal y R img scratch group content x a =
    ap (λ (z : Shown). z.refusal) a.place ∙ shown_refusal y R (length img) (length scratch) group content
