-- `entries::deletion` meets its contract: each return is the arm that its tests pick.
use Rattle.std.specs.Prelude.{◌≡◌, true, false, ◌-◌, Result, Ok, Err}
use Rattle.std.proofs.Common.{◌∙◌, sym, ap, rules}
use Rattle.lists.specs.declared.Refusal.{Refusal}
use Rattle.lists.specs.declared.Refusal.TheVariants.{NotThere}
use Rattle.entries.specs.declared.Entry.{Entry}
use Rattle.entries.specs.declared.Look.{Look}
use Rattle.entries.specs.declared.Plan.{Plan}
use Rattle.entries.specs.declared.Way.TheVariants.{Down}
use Rattle.entries.specs.Blank.{blank}
use Rattle.entries.specs.Plans.{has_cob, deletion_of}
use Rattle.entries.proofs.Derived.{found_equality, off, on}
use Rattle.entries.proofs.deletion.Goals as goal

module _ (x : Look) (r : Entry) (s : x.sound ≡ true) where
  other : has_cob x.found r.cob ≡ false → ◌≡◌ {A = Result Plan Refusal} (Err NotThere) (deletion_of x r)
  unfolding deletion_of
  other m = simp (s, m)

  there : {freed : Entry} → has_cob x.found r.cob ≡ true → freed ≡ blank
      → ◌≡◌ {A = Result Plan Refusal} (Ok (record { from = x.at; end = x.n; way = Down; first = freed; total = x.n - 1 })) (deletion_of x r)
  unfolding deletion_of
  there m b =
      ap {B = Result Plan Refusal} (λ (e : Entry). Ok (record { from = x.at; end = x.n; way = Down; first = e; total = x.n - 1 })) b ∙ simp (s, m)

pub returns-then-not-x : goal.returns-then-not-x
unfolding deletion_of
returns-then-not-x c = simp (off c.args.x.sound c.if-not-x.true)

pub returns-then-not-is_some_and : goal.returns-then-not-is_some_and
returns-then-not-is_some_and c =
    other c.args.x c.args.r (on c.args.x.sound c.if-not-x.false)
    (sym (found_equality c.args.x.found c.args.r.cob c.is_some_and.ensures (λ w e. search rules)) ∙ c.if-not-is_some_and.true)

pub returns : goal.returns
returns c =
    there c.args.x c.args.r (on c.args.x.sound c.if-not-x.false)
    (sym (found_equality c.args.x.found c.args.r.cob c.is_some_and.ensures (λ w e. search rules)) ∙ c.if-not-is_some_and.false) c.blank_entry-freed.ensures
