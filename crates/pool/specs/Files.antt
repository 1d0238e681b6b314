-- The file: a part of it, bytes laid on it, and what encoding it afresh puts into the contents of the groups.
use Rattle.std.specs.Prelude.{List, ℕ, ◌+◌, ◌-◌, length}
use Rattle.lists.specs.Pick.{pick}
use Rattle.lists.specs.Part.{within}
use Rattle.lists.specs.Tabulate.{at, tabulate}
use Rattle.numbers.specs.declared.Layout.{Layout}
use Rattle.place.specs.Bytes.{offset_of}
use Rattle.parity.specs.Group.{content}

-- the file's bytes from offset on
abbrev pub part : List ℕ → ℕ → ℕ → List ℕ
part file offset size = tabulate size (λ i. at file (offset + i))

-- the file with bytes laid on from offset on
unfoldable pub written : List ℕ → ℕ → List ℕ → List ℕ
written file offset bytes = tabulate (length file) (λ x. pick (within offset (length bytes) x) (at bytes (x - offset)) (at file x))

-- "what encoding the current file afresh would put there": byte o of content c of group g
unfoldable pub encoded : Layout → List ℕ → ℕ → ℕ → ℕ → ℕ
encoded y file g o c = content y.n (λ j. at file (offset_of y g j o)) c
