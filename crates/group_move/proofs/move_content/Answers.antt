-- `group_move::move_content`. A data unit is copied or rebuilt (`data_made`), a parity unit worked out (`parity_made`).
use mathlib.Core.Path.{refl}
use mathlib.Core.Logic.{inl}
use native.Mathlib.Omega.{arith}
use Rattle.group_move.specs.MovedLaws.{unit_in_lem, data_made, parity_made}
use Rattle.group_move.proofs.move_content.Goals as goal

pub read_run-requires : goal.read_run-requires
read_run-requires c = let a = c.requires in
    (a.0, a.5, omega arith, unit_in_lem _ _ _ a.1 a.3 _ a.5)

pub returns-then-c-p : goal.returns-then-c-p
returns-then-c-p c = let a = c.requires in data_made _ _ _ a.1 a.3 _ c.args.new.now _ refl _ a.5 c.if-c-p.true c.read_run.ensures

pub put_parity-requires : goal.put_parity-requires
put_parity-requires c = let a = c.requires in
    (a.1, a.2, omega arith, omega (arith, a.5, c.if-c-p.false, a.3.k_is), a.4, inl a.3.whole)

pub returns : goal.returns
returns c = let a = c.requires in parity_made _ _ _ a.1 a.3 _ c.args.new.now _ refl _ a.5 _ c.if-c-p.false c.put_parity.ensures
