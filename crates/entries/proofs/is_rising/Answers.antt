-- `entries::is_rising` meets its contract: each call of the test compares two keys.
use Rattle.std.proofs.Common.{rules}
use Rattle.std.proofs.lemmas.Fn.{always_returns_same}
use Rattle.entries.specs.declared.Entry.{Entry}
use Rattle.entries.specs.Key.{key_of, key_lt}
use Rattle.entries.proofs.Adjacent.{sorted_rises}
use Rattle.entries.proofs.is_rising.Goals as goal

pub returns : goal.returns
returns c =
    sorted_rises _ c.is_sorted_by.result
    (c.is_sorted_by.ensures.cases (λ (x y : Entry). key_lt (key_of x) (key_of y)) (always_returns_same _ _ _ (λ a r q k. search rules)))
