-- One cob more is listed by each turn.
use Rattle.std.proofs.Common.{◌≡◌, sym, ap, arith, add-one, ◌∙◌, ℕ, List, ◌++◌, length, take, drop}
use Rattle.std.specs.Prelude.{map}
use Rattle.entries.specs.declared.Entry.{Entry}
use Rattle.entries.specs.declared.Wide.{Wide}
use Rattle.entries.specs.Listings.{listed_turn, listed_all}
use Rattle.catalogue.proofs.list.Goals as goal

abbrev listed_to : ℕ → List Entry → List Wide → List Wide
listed_to i rs os = take i (map (λ (r : Entry). r.cob) rs) ++ drop i os

pub loop-i-preserved : goal.loop-i-preserved
loop-i-preserved c =
    listed_turn c.loop-i.i c.args.records.now c.args.out.now c.loop-i.out (omega arith) (omega arith) c.loop-i.invariant
    ∙ ap (λ (j : ℕ). listed_to j c.args.records.now c.args.out.now) (sym (add-one c.loop-i.i))

pub returns : goal.returns
returns c =
    let e : c.loop-i.i ≡ length c.args.records.now = omega arith in
    c.loop-i.invariant ∙ ap (λ (j : ℕ). listed_to j c.args.records.now c.args.out.now) e ∙ listed_all c.args.records.now c.args.out.now
