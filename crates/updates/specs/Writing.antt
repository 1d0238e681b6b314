-- What a write makes of a group, one column at a time. Byte o of data unit j is byte s + (u j + o) of the file, and the bytes to write begin at
-- the file's byte a. `named j`: data unit j is named at this unit offset.
use Rattle.std.specs.Prelude.{Bool, true, not, List, ◌≡◌, ℕ, ◌+◌, ◌-◌, ◌*◌, ◌<◌, ◌≤◌, ltb, get_or}
use Rattle.lists.specs.Pick.{pick, both}
use Rattle.lists.specs.Part.{within}
use Rattle.parity.specs.Group.{content}
use Rattle.plan.specs.declared.Plan.{Plan}
use Rattle.plan.specs.Plans.{at_of, miss_of, held}
use Rattle.runs.specs.Run.{paint}

-- "takes the N old data bytes (missing ones rebuilt), lays its own on them"
unfoldable pub laid : Plan → List ℕ → List ℕ → ℕ → ℕ → (ℕ → Bool) → ℕ → ℕ → ℕ
laid P img bytes s a named o j = pick (named j) (get_or bytes (s + (P.u * j + o) - a) 0) (held P img o j)

-- "the named data bytes and all K parity bytes worked out from those N"
unfoldable pub new_content : Plan → List ℕ → List ℕ → ℕ → ℕ → (ℕ → Bool) → ℕ → ℕ → ℕ
new_content P img bytes s a named o c = content P.n (laid P img bytes s a named o) c

-- "each where its content is present"
unfoldable pub stores_in : Plan → (ℕ → Bool) → ℕ → Bool
stores_in P named c = both (not (miss_of P c)) (pick (ltb c P.n) (named c) true)

-- the same by runs, from unit offset lo on
unfoldable pub new_run : Plan → List ℕ → List ℕ → ℕ → ℕ → (ℕ → Bool) → ℕ → ℕ → ℕ → ℕ
new_run P img bytes s a named lo c o = new_content P img bytes s a named (lo + o) c

-- the image once the unit offsets lo .. lo + len are written, the data units from .. from + units being named
unfoldable pub run_written : Plan → List ℕ → List ℕ → ℕ → ℕ → ℕ → ℕ → ℕ → ℕ → List ℕ
run_written P img bytes s a from units lo len =
    paint (stores_in P (within from units)) (λ c. at_of P c + lo) len (new_run P img bytes s a (within from units) lo) (P.n + P.k) img

-- what is asked of a run: it lies in the units, it names some, and the bytes that it names are there
pub record RunFits (P : Plan) (s a from units lo len count : ℕ) : Type 0 where
  pub s-max : s ≤ 17592186044416
  pub some : 0 < units
  pub inside : from + units ≤ P.n
  pub room : lo + len ≤ P.u
  pub first : (j : ℕ) → within from units j ≡ true → a ≤ s + (P.u * j + lo)
  pub last : (j : ℕ) → within from units j ≡ true → s + (P.u * j + lo) - a + len ≤ count
