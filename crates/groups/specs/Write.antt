-- A write to one group: the definitions that its contract cites, column by column. `count` file bytes from a on are written; the group's data
-- begin at file byte s.
use Rattle.std.specs.Prelude.{◌≡◌, ◌⊎◌, Bool, not, List, ℕ, ◌+◌, ◌*◌, ◌<◌, ◌≤◌, ltb, length}
use Rattle.lists.specs.Pick.{pick, both}
use Rattle.lists.specs.Part.{within}
use Rattle.lists.specs.Search.{any}
use Rattle.plan.specs.declared.Plan.{Plan}
use Rattle.plan.specs.Plans.{miss_of}
use Rattle.updates.specs.Writing.{new_content}
use Rattle.lists.specs.Between.{between}

-- data unit j is named at unit offset o
unfoldable pub name_at : Plan → ℕ → ℕ → ℕ → ℕ → ℕ → Bool
name_at P s a count o j = within a count (s + (P.u * j + o))

-- "stores the named data bytes and all K parity bytes .., each where its content is present", at each unit offset that is touched
unfoldable pub on_at : Plan → ℕ → ℕ → ℕ → ℕ → ℕ → Bool
on_at P s a count c o = both (not (miss_of P c)) (pick (ltb c P.n) (name_at P s a count o c) (any (name_at P s a count o) P.n))

-- what is stored there
unfoldable pub val_at : Plan → List ℕ → List ℕ → ℕ → ℕ → ℕ → ℕ → ℕ
val_at P img bytes s a c o = new_content P img bytes s a (name_at P s a (length bytes) o) o c

-- the same at the unit offsets lo .. hi only
unfoldable pub on_in : ℕ → ℕ → Plan → ℕ → ℕ → ℕ → ℕ → ℕ → Bool
on_in lo hi P s a count c o = both (between lo hi o) (on_at P s a count c o)

-- a group in which some byte is named
pub record Named (n u s a count : ℕ) : Type 0 where
  pub n_pos : 0 < n
  pub u_pos : 0 < u
  pub s-max : s ≤ 17592186044416
  pub e_max : a + count ≤ 17592186044416
  pub before : a < s + n * u
  pub after : s < a + count

-- byte u v1 + o1 of the group's data is the first that is named, and u v2 + o2 the first after them; e is the first file byte after them
pub record Cut (n u s a e v1 o1 v2 o2 : ℕ) : Type 0 where
  pub o1_lt : o1 < u
  pub o2_le : o2 ≤ u
  pub v1_lt : v1 < n
  pub v2_lt : v2 < n
  pub low : (a ≤ s × u * v1 + o1 ≡ 0) ⊎ (a ≡ s + (u * v1 + o1))
  pub high : (s + u * n ≤ e × u * v2 + o2 ≡ u * n) ⊎ (e ≡ s + (u * v2 + o2))

-- unit offsets that neither end of the named bytes cuts
pub record Uncut (u o1 o2 lo hi : ℕ) : Type 0 where
  pub hi-le : hi ≤ u
  pub by_1 : (hi ≤ o1) ⊎ (o1 ≤ lo)
  pub by_2 : (hi ≤ o2) ⊎ (o2 ≤ lo)
