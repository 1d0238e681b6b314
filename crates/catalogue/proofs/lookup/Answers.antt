-- What a lookup makes of what was found is what the documents say.
use Rattle.std.proofs.Common.{ap, ◌∙◌}
use Rattle.entries.specs.declared.Look.{Look}
use Rattle.entries.specs.Answered.{found_of}
use Rattle.entries.specs.Plans.{answer_of}
use Rattle.entries.specs.Looks.{looked_up}
use Rattle.catalogue.proofs.lookup.Goals as goal

pub returns : goal.returns
returns c = record {
  answer =
      ap found_of c.answer.ensures ∙ ap (λ (x : Look). found_of (answer_of x)) c.scan.ensures ∙ looked_up c.args.key c.args.n c.args.s.now;
}
