-- Order 7, repair by a proposed plan: the plan. "The row controller wants to choose what repair reads. It sends, for each missing content, the N units
-- to use, and its own order of groups." A plan is a list of numbers, one entry after another: a group, one of its contents, and N sources, which are
-- contents of that group. The entries stand in the controller's own order.
use Rattle.std.specs.Prelude.{◌≡◌, Bool, true, false, not, List, ℕ, ◌+◌, ◌*◌, ◌/◌, ◌<◌, eqb, ltb, length}
use Rattle.lists.specs.Pick.{pick, both}
use Rattle.lists.specs.Count.{count}
use Rattle.lists.specs.Search.{all}
use Rattle.lists.specs.Tabulate.{at}
use Rattle.numbers.specs.declared.Layout.{Layout}
use Rattle.numbers.specs.Layouts.{all_groups, contents}
use Rattle.homes.specs.declared.Record.{Record}
use Rattle.homes.specs.Listed.{listed}
use Rattle.homes.specs.Missing.{missing}

-- the numbers of one entry
abbrev pub entry_size : Layout → ℕ
entry_size y = y.n + 2

-- how many entries a plan has
unfoldable pub entries : Layout → List ℕ → ℕ
entries y plan = length plan / entry_size y

-- number f of entry i: its group, its content, its sources
unfoldable pub number_of : Layout → List ℕ → ℕ → ℕ → ℕ
number_of y plan i f = at plan (entry_size y * i + f)

abbrev pub group_named : Layout → List ℕ → ℕ → ℕ
group_named y plan i = number_of y plan i 0

abbrev pub content_named : Layout → List ℕ → ℕ → ℕ
content_named y plan i = number_of y plan i 1

abbrev pub source : Layout → List ℕ → ℕ → ℕ → ℕ
source y plan i j = number_of y plan i (2 + j)

-- entry i names content c of group g
unfoldable pub names : Layout → List ℕ → ℕ → ℕ → ℕ → Bool
names y plan i g c = both (eqb (group_named y plan i) g) (eqb (content_named y plan i) c)

-- "each missing content is named once": content c of group g is, where it is missing
unfoldable pub named_once : Layout → Record → List ℕ → ℕ → ℕ → Bool
named_once y R plan g c = pick (missing y R g c) (eqb (count (λ i. names y plan i g c) (entries y plan)) 1) true

unfoldable pub each_once : Layout → Record → List ℕ → Bool
each_once y R plan = all (λ g. all (named_once y R plan g) (contents y)) (all_groups y)

-- "each of its N sources is a different present content of the same group": source j of entry i, beside those before it
unfoldable pub source_good : Layout → Record → List ℕ → ℕ → ℕ → Bool
source_good y R plan i j =
    both (ltb (source y plan i j) (contents y))
    (both (not (missing y R (group_named y plan i) (source y plan i j))) (not (listed (source y plan i) j (source y plan i j))))

unfoldable pub sources_good : Layout → Record → List ℕ → ℕ → Bool
sources_good y R plan i = all (source_good y R plan i) y.n

-- "and nothing else is named": what entry i names is a missing content
unfoldable pub names_missing : Layout → Record → List ℕ → ℕ → Bool
names_missing y R plan i =
    both (ltb (group_named y plan i) (all_groups y))
    (both (ltb (content_named y plan i) (contents y)) (missing y R (group_named y plan i) (content_named y plan i)))

-- "A small checker accepts a plan exactly if each missing content is named once, each of its N sources is a different present content of the same
-- group, and nothing else is named". A list that is not made of whole entries is no plan
unfoldable pub plan_good : Layout → Record → List ℕ → Bool
plan_good y R plan =
    both (eqb (entry_size y * entries y plan) (length plan))
    (both (each_once y R plan)
    (both (all (sources_good y R plan) (entries y plan)) (all (names_missing y R plan) (entries y plan))))

-- the entry that names content c of group g
pub record Named (y : Layout) (plan : List ℕ) (g c : ℕ) : Type 0 where
  pub by : ℕ
  pub by_lt : by < entries y plan
  pub group_is : group_named y plan by ≡ g
  pub content_is : content_named y plan by ≡ c

-- the same as facts
pub record Accepts (y : Layout) (R : Record) (plan : List ℕ) : Type 0 where
  pub whole : entry_size y * entries y plan ≡ length plan
  -- "each missing content is named
  pub named : (g c : ℕ) → g < all_groups y → c < contents y → missing y R g c ≡ true → Named y plan g c
  -- once,
  pub once : (i l : ℕ) → i < entries y plan → l < entries y plan → group_named y plan i ≡ group_named y plan l → content_named y plan i ≡ content_named y plan l → i ≡ l
  -- each of its N sources is a different
  pub source_differs : (i j l : ℕ) → i < entries y plan → j < y.n → l < y.n → source y plan i j ≡ source y plan i l → j ≡ l
  -- present content of the same group,
  pub source-lt : (i j : ℕ) → i < entries y plan → j < y.n → source y plan i j < contents y
  pub source-present : (i j : ℕ) → i < entries y plan → j < y.n → missing y R (group_named y plan i) (source y plan i j) ≡ false
  -- and nothing else is named"
  pub group_lt : (i : ℕ) → i < entries y plan → group_named y plan i < all_groups y
  pub content-lt : (i : ℕ) → i < entries y plan → content_named y plan i < contents y
  pub is_missing : (i : ℕ) → i < entries y plan → missing y R (group_named y plan i) (content_named y plan i) ≡ true
