-- `trace::layout_at` meets its contract: number by number.
use Rattle.trace.specs.Forms.{layout_at}
use Rattle.trace.proofs.layout_at.Goals as goal

pub returns : goal.returns
unfolding layout_at
returns c = λ i.
    record {
      n = c.number_at.ensures i;
      k = c.number_at-2.ensures i;
      p = c.number_at-3.ensures i;
      u = c.number_at-4.ensures i;
      t = c.number_at-5.ensures i;
      cookie = c.number_at-6.ensures i;
      edition = 1;
    }
