-- `systems::cofactor`. From the contracts of its calls, joined in `cofactor_made`.
use Rattle.systems.specs.Entry.{cofactor_made}
use Rattle.systems.proofs.cofactor.Goals as goal

pub returns : goal.returns
returns c = let a = c.args in
    cofactor_made a.m a.r a.c c.low-i.ensures.1 c.high-k.ensures.1 c.low-j.ensures.1 c.high-l.ensures.1
    c.mul.ensures c.mul-2.ensures
