-- The order of the records. "the first n strictly rising by device and then file"
use Rattle.std.specs.Prelude.{Bool, true, false, not, List, [], ◌∷◌, ltb, eqb}
use Rattle.lists.specs.Pick.{pick, both}
use Rattle.entries.specs.declared.Entry.{Entry}
use Rattle.entries.specs.declared.Key.{Key}
use Rattle.entries.specs.Wide.{wide_lt, wide_eq}

abbrev pub key_of : Entry → Key
key_of r = record { device = r.device; file = r.file }

-- by device and then file
unfoldable pub key_lt : Key → Key → Bool
key_lt a b = pick (ltb a.device b.device) true (pick (ltb b.device a.device) false (wide_lt a.file b.file))

unfoldable pub key_eq : Key → Key → Bool
key_eq a b = both (eqb a.device b.device) (wide_eq a.file b.file)

-- "of that device with file ≥ first", where k holds the device and the first file number
unfoldable pub listable : Key → Key → Bool
listable k a = both (eqb a.device k.device) (not (wide_lt a.file k.file))

-- each key is above the one before it, the first one above k
abbrev pub rising_from : Key → List Entry → Bool
rising_from k [] = true
rising_from k (r ∷ rs) = both (key_lt k (key_of r)) (rising_from (key_of r) rs)

abbrev pub rising : List Entry → Bool
rising [] = true
rising (r ∷ rs) = rising_from (key_of r) rs
