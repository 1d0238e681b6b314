-- Numbers of 128 bits. "two 64-bit words, the first the more significant, and order files by the pair"
use Rattle.std.specs.Prelude.{ℕ, ◌+◌, ◌*◌, ◌^◌, Bool, true, false, ltb, eqb}
use Rattle.lists.specs.Pick.{pick, both}
use Rattle.entries.specs.declared.Wide.{Wide}

-- (0,0)
abbrev pub nought : Wide
nought = record { first = 0; second = 0 }

-- by the first word and then the second
unfoldable pub wide_lt : Wide → Wide → Bool
wide_lt a b = pick (ltb a.first b.first) true (pick (ltb b.first a.first) false (ltb a.second b.second))

unfoldable pub wide_eq : Wide → Wide → Bool
wide_eq a b = both (eqb a.first b.first) (eqb a.second b.second)

-- the number that the two words write
abbrev pub number_of : Wide → ℕ
number_of w = w.first * 2 ^ 64 + w.second
