-- `field::Tables::of`. The rule of each table, as it was asked.
use Rattle.field.proofs.Tables.of.Goals as goal

pub invariant_of-result-clause-powers_right : goal.invariant_of-result-clause-powers_right
invariant_of-result-clause-powers_right c = c.requires.0

pub invariant_of-result-clause-logs_right : goal.invariant_of-result-clause-logs_right
invariant_of-result-clause-logs_right c = c.requires.1
