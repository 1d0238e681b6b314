-- The plan is that of the key, and its run lies within the slice.
use Rattle.std.proofs.Common.{◌≡◌, sym, ap, subst, ◌∙◌, ℕ, List}
use Rattle.std.specs.Prelude.{Result}
use Rattle.lists.specs.declared.Refusal.{Refusal}
use Rattle.entries.specs.declared.Entry.{Entry}
use Rattle.entries.specs.declared.Key.{Key}
use Rattle.entries.specs.declared.Look.{Look}
use Rattle.entries.specs.declared.Plan.{Plan}
use Rattle.entries.specs.Key.{key_of}
use Rattle.entries.specs.Look.{scan_of}
use Rattle.entries.specs.Looks.{scan_placed}
use Rattle.entries.specs.Catalogue.{insert_of, inserted_list}
use Rattle.entries.specs.Plans.{IsPlaced, insertion_of}
use Rattle.entries.specs.Changes.{insertion_inside, insertion_outcome, insertion_list}
use Rattle.catalogue.proofs.Planned.{refused_answer, refused_slots, run_inside, run_answer, run_slots}
use Rattle.catalogue.proofs.insert.Goals as goal

the_plan : (r : Entry) (n : ℕ) (ys : List Entry) {k : Key} {x : Look} {w : Result Plan Refusal} → k ≡ key_of r → x ≡ scan_of k n ys
    → w ≡ insertion_of x r → w ≡ insertion_of (scan_of (key_of r) n ys) r
the_plan r n ys e₁ e₂ e₃ = e₃ ∙ ap (λ (x : Look). insertion_of x r) (e₂ ∙ ap (λ (k : Key). scan_of k n ys) e₁)

pub insertion-requires : goal.insertion-requires
insertion-requires c = subst IsPlaced (sym c.scan-x.ensures) (scan_placed c.key_of.result c.args.n c.args.s.now)

pub returns-in_err-plan : goal.returns-in_err-plan
returns-in_err-plan c =
    let e = the_plan c.args.r c.args.n c.args.s.now c.key_of.ensures c.scan-x.ensures c.insertion.ensures in
    record {
      answer =
          refused_answer c.args.n c.args.s.now (inserted_list c.args.r c.args.n c.args.s.now) (insert_of c.args.r c.args.n c.args.s.now) e c.from_residual.result
          (insertion_outcome c.args.r c.args.n c.args.s.now) c.in_err-plan.was c.from_residual.ensures.1;
      slots =
          refused_slots c.args.n c.args.s.now (inserted_list c.args.r c.args.n c.args.s.now) (insert_of c.args.r c.args.n c.args.s.now) e
          (insertion_list c.args.r c.args.n c.args.s.now) c.in_err-plan.was;
    }

pub roll-requires : goal.roll-requires
roll-requires c =
    let e = the_plan c.args.r c.args.n c.args.s.now c.key_of.ensures c.scan-x.ensures c.insertion.ensures in
    run_inside c.args.n c.args.s.now (inserted_list c.args.r c.args.n c.args.s.now) (insert_of c.args.r c.args.n c.args.s.now) e
    (insertion_inside c.args.r c.args.n c.args.s.now) c.in_ok-plan.was

pub returns : goal.returns
returns c =
    let e = the_plan c.args.r c.args.n c.args.s.now c.key_of.ensures c.scan-x.ensures c.insertion.ensures in
    record {
      answer =
          run_answer c.args.n c.args.s.now (inserted_list c.args.r c.args.n c.args.s.now) (insert_of c.args.r c.args.n c.args.s.now) e
          (insertion_outcome c.args.r c.args.n c.args.s.now) c.in_ok-plan.was;
      slots =
          run_slots c.args.n c.args.s.now (inserted_list c.args.r c.args.n c.args.s.now) (insert_of c.args.r c.args.n c.args.s.now) e
          (insertion_list c.args.r c.args.n c.args.s.now) c.in_ok-plan.was c.roll.ensures;
    }
