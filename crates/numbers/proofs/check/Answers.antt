-- `numbers::check` meets its contract: each early return contradicts one bound, and the last has them all.
use mathlib.Core.Path.{sym}
use native.Mathlib.Omega.{arith}
use Rattle.numbers.specs.Refused.{accepts, refuses}
use Rattle.numbers.proofs.check.Goals as goal

pub returns-then-y-lt1 : goal.returns-then-y-lt1
returns-then-y-lt1 c = sym (refuses _ (λ v. omega arith))

pub returns-then-y-gt16 : goal.returns-then-y-gt16
returns-then-y-gt16 c = sym (refuses _ (λ v. omega arith))

pub returns-then-y-gt3 : goal.returns-then-y-gt3
returns-then-y-gt3 c = sym (refuses _ (λ v. omega arith))

pub returns-then-y : goal.returns-then-y
returns-then-y c = sym (refuses _ (λ v. omega arith))

pub returns-then-y-gt64 : goal.returns-then-y-gt64
returns-then-y-gt64 c = sym (refuses _ (λ v. omega arith))

pub returns-then-y-lt1-2 : goal.returns-then-y-lt1-2
returns-then-y-lt1-2 c = sym (refuses _ (λ v. omega arith))

pub returns-then-y-gt4096 : goal.returns-then-y-gt4096
returns-then-y-gt4096 c = sym (refuses _ (λ v. omega arith))

pub returns-then-y-lt1-3 : goal.returns-then-y-lt1-3
returns-then-y-lt1-3 c = sym (refuses _ (λ v. omega arith))

pub returns-then-y-gt65536 : goal.returns-then-y-gt65536
returns-then-y-gt65536 c = sym (refuses _ (λ v. omega arith))

pub returns-then-y-lt1-4 : goal.returns-then-y-lt1-4
returns-then-y-lt1-4 c = sym (refuses _ (λ v. omega arith))

pub returns-then-y-gt2 : goal.returns-then-y-gt2
returns-then-y-gt2 c = sym (refuses _ (λ v. omega arith))

-- the first tests lie too far back for `omega` to find
pub returns : goal.returns
returns c = sym
    (accepts _
    (omega (
      arith,
      c.if-y-lt1.false,
      c.if-y-gt16.false,
      c.if-y-gt3.false,
      c.if-y.false,
    )))
