-- `entries::look_at` meets its contract: each field is what the function that works it out ensures.
use Rattle.std.specs.Prelude.{◌≡◌, ℕ, Bool, true, false, ltb, Option, Some, None}
use Rattle.std.proofs.Common.{◌∙◌, sym, ap, lt-ltb, le-ltb}
use Rattle.lists.specs.Pick.{pick, both}
use Rattle.entries.specs.declared.Wide.{Wide}
use Rattle.entries.specs.declared.Entry.{Entry}
use Rattle.entries.specs.declared.Key.{Key}
use Rattle.entries.specs.declared.Look.{Look}
use Rattle.entries.specs.Key.{key_of, key_eq}
use Rattle.entries.specs.Look.{trusted_of, look_of}
use Rattle.entries.proofs.look_at.Goals as goal
use Rattle.entries.proofs.look_at.Goals.{then-at-upto, else-at-upto}

seen : (n len : ℕ) (s : Bool) (key : Key) (at : ℕ) (there : Entry) {upto : ℕ} {held : Bool} {found : Option Wide}
    → upto ≡ trusted_of n s → held ≡ both (ltb at upto) (key_eq (key_of there) key) → found ≡ pick held (Some there.cob) None
    → ◌≡◌ {A = Look} (record { n = n; len = len; sound = s; upto = upto; at = at; found = found }) (look_of n len s key at there)
unfolding look_of
seen n len s key at there e₁ e₂ e₃ = cc

taken : {held : Bool} (c : Wide) → held ≡ true → Some c ≡ pick held (Some c) None
taken c e = sym (ap (λ (t : Bool). pick t (Some c) None) e)

left : {held : Bool} (c : Wide) → held ≡ false → ◌≡◌ {A = Option Wide} None (pick held (Some c) None)
left c e = sym (ap (λ (t : Bool). pick t (Some c) None) e)

pub returns-then-held : goal.returns-then-held
returns-then-held c =
    seen c.args.n c.args.len c.args.sound c.args.key c.args.at c.args.there c.trusted-upto.ensures
    (elim c.if-at-upto.branch [
      | then-at-upto w ↦
          w.held-is ∙ w.same-held.ensures ∙ ap (λ (k : Key). key_eq k c.args.key) w.key_of.ensures
          ∙ sym (ap (λ (t : Bool). both t (key_eq (key_of c.args.there) c.args.key)) (lt-ltb c.args.at c.trusted-upto.result w.if-at-upto.true))
      | else-at-upto w ↦
          w.held-is ∙ le-ltb c.args.at c.trusted-upto.result w.if-at-upto.false
          ∙ sym (ap (λ (t : Bool). both t (key_eq (key_of c.args.there) c.args.key)) (le-ltb c.args.at c.trusted-upto.result w.if-at-upto.false))
    ])
    (taken c.args.there.cob c.if-held.true)

pub returns-else-held : goal.returns-else-held
returns-else-held c =
    seen c.args.n c.args.len c.args.sound c.args.key c.args.at c.args.there c.trusted-upto.ensures
    (elim c.if-at-upto.branch [
      | then-at-upto w ↦
          w.held-is ∙ w.same-held.ensures ∙ ap (λ (k : Key). key_eq k c.args.key) w.key_of.ensures
          ∙ sym (ap (λ (t : Bool). both t (key_eq (key_of c.args.there) c.args.key)) (lt-ltb c.args.at c.trusted-upto.result w.if-at-upto.true))
      | else-at-upto w ↦
          w.held-is ∙ le-ltb c.args.at c.trusted-upto.result w.if-at-upto.false
          ∙ sym (ap (λ (t : Bool). both t (key_eq (key_of c.args.there) c.args.key)) (le-ltb c.args.at c.trusted-upto.result w.if-at-upto.false))
    ])
    (left c.args.there.cob c.if-held.false)
