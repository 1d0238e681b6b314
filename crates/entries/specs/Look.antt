-- What a call finds of its key: whether the catalogue is sound, how many keys are below, and what stands there.
use Rattle.std.specs.Prelude.{ℕ, Bool, false, List, ltb, length, get_or, take, Some, None}
use Rattle.lists.specs.Pick.{pick, both}
use Rattle.entries.specs.declared.Entry.{Entry}
use Rattle.entries.specs.declared.Key.{Key}
use Rattle.entries.specs.declared.Look.{Look}
use Rattle.entries.specs.Blank.{blank}
use Rattle.entries.specs.Key.{key_of, key_eq}
use Rattle.entries.specs.Catalogue.{sound}
use Rattle.entries.specs.Span.{past_count}

-- how many records may be searched: the count, or none where the catalogue is bad
abbrev pub trusted_of : ℕ → Bool → ℕ
trusted_of n s = pick s n 0

unfoldable pub look_of : ℕ → ℕ → Bool → Key → ℕ → Entry → Look
look_of n len s key at there = record {
  n = n;
  len = len;
  sound = s;
  upto = trusted_of n s;
  at = at;
  found = pick (both (ltb at (trusted_of n s)) (key_eq (key_of there) key)) (Some there.cob) None;
}

-- the records that are searched, and the place of a key among them
abbrev pub searched : ℕ → List Entry → List Entry
searched n ys = take (trusted_of n (sound n ys)) ys

abbrev pub place_of : Key → ℕ → List Entry → ℕ
place_of key n ys = past_count key false (searched n ys)

abbrev pub scan_of : Key → ℕ → List Entry → Look
scan_of key n ys = look_of n (length ys) (sound n ys) key (place_of key n ys) (get_or ys (place_of key n ys) blank)
