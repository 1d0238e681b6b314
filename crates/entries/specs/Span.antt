-- A search among keys that rise: what it goes past.
use Rattle.std.specs.Prelude.{ℕ, Bool, List, leb, length}
use Rattle.lists.specs.Pick.{pick}
use Rattle.lists.specs.Passing.{passing}
use Rattle.entries.specs.declared.Entry.{Entry}
use Rattle.entries.specs.declared.Key.{Key}
use Rattle.entries.specs.Key.{key_of, key_lt}

-- a key below k or, of the whole device, one on the device of k or one before it
abbrev pub past_of : Key → Bool → Key → Bool
past_of k whole a = pick whole (leb a.device k.device) (key_lt a k)

-- how many records of a list a search goes past
abbrev pub past_count : Key → Bool → List Entry → ℕ
past_count k whole xs = length (passing (λ (r : Entry). past_of k whole (key_of r)) xs)
