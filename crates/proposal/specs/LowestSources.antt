-- A plan whose sources are the N lowest present contents is plain repair, on any image at all.
use Rattle.std.specs.Prelude.{◌≡◌, refl, Bool, List, ℕ, ◌+◌, ◌%◌, ◌<◌, ◌≤◌, length}
use Rattle.std.proofs.Common.{sym, ◌∙◌, mod-lt, lt-ltb, ltb-true, lit<}
use Rattle.std.proofs.Math.Path.{ap}
use Rattle.std.proofs.Math.Bool.{true, not}
use Rattle.std.proofs.Math.Nat.{mod-mod}
use native.Mathlib.Omega.{arith}
use Rattle.lists.specs.Pick.{bit, both_true, both_hold, same_truth}
use Rattle.lists.specs.Count.{count, count_next, count_mono, count-not}
use Rattle.lists.specs.Those.{length-those, those_hold, those-place, those_rank}
use Rattle.lists.specs.Tabulate.{at}
use Rattle.field.specs.Byte.{mul}
use Rattle.field.specs.Laws.{mul_low}
use Rattle.field.specs.Sum.{sum_cong}
use Rattle.numbers.specs.declared.Layout.{Layout}
use Rattle.numbers.specs.Layouts.{Valid, all_groups, contents, image_length}
use Rattle.parity.specs.Group.{Solvable, rebuilt}
use Rattle.parity.specs.Content.{content_cong}
use Rattle.parity.specs.Restores.{lost_most}
use Rattle.parity.specs.Rows.{slot, row_of, row_gives}
use Rattle.parity.specs.Lowest.{used, Rebuilds, rebuilds, determined}
use Rattle.homes.specs.declared.Record.{Record}
use Rattle.homes.specs.Listed.{listed, listed_at}
use Rattle.homes.specs.Once.{place_in, listed_where}
use Rattle.homes.specs.Records.{Good}
use Rattle.homes.specs.Missing.{missing}
use Rattle.homes.proofs.MissingLaws.{few-missing}
use Rattle.pool.specs.Contents.{stored, content_byte}
use Rattle.pool.specs.Repairing.{mends, mended_image}
use Rattle.pool.specs.StoringLaws.{storing_alike}
use Rattle.pool.specs.Holds.{solvable}
use Rattle.proposal.specs.Plans.{entries, group_named, source, Accepts}
use Rattle.proposal.specs.Drawing.{present_in}
use Rattle.proposal.specs.Running.{named_by, unused, planned_byte, planned_image}
use Rattle.proposal.specs.RunningLaws.{named_by_lem, sources_count, plan_solvable, missing-unused}

-- ---- one group: the units counted as missing may be all but the n lowest that are there

-- a missing unit hangs on the eight low digits of the others
rebuilt-low : (n k : ℕ) (miss : ℕ → Bool) → Solvable n k miss → (old : ℕ → ℕ) (u : ℕ) → miss u ≡ true
    → rebuilt n k miss old u ≡ rebuilt n k miss (λ v. old v % 256) u
rebuilt-low n k miss s old u t =
    row_gives n k miss (lost_most n k miss s) old u t
    ∙ sum_cong n _ _ (λ j h. low (row_of n k miss u j) (old (slot n k miss j)))
    ∙ sym (row_gives n k miss (lost_most n k miss s) (λ v. old v % 256) u t)
  where
    low : (a b : ℕ) → mul a b ≡ mul a (b % 256)
    low a b = mul_low a b ∙ ap (mul (a % 256)) (sym (mod-mod b 256)) ∙ sym (mul_low a (b % 256))

module _ (n k : ℕ) (miss miss' : ℕ → Bool) (s : Solvable n k miss) (s' : Solvable n k miss')
    (lowest : (u : ℕ) → u < n + k → miss' u ≡ not (used n miss u)) (enough : count (λ u. not (miss' u)) (n + k) ≡ n) where
  -- each of the n lowest is there for the other choice too, and it has no more than n
  used_too : (u : ℕ) → u < n + k → used n miss u ≡ true → used n miss' u ≡ true
  used_too u h t =
      let there : not (miss' u) ≡ true = ap not (lowest u h ∙ ap not t) in
      let one : bit (not (miss' u)) ≡ 1 = ap bit there in
      both_hold (not (miss' u)) _ there
      (lt-ltb _ n (omega (arith, one, enough, count_next (λ u. not (miss' u)) u, count_mono (λ u. not (miss' u)) (u + 1) (n + k) (omega arith))))

  lowest_bytes : (old : ℕ → ℕ) → ((u : ℕ) → u < n + k → old u < 256) → (u : ℕ) → u < n + k → miss u ≡ true → miss' u ≡ true
      → rebuilt n k miss' old u ≡ rebuilt n k miss old u
  lowest_bytes old b u h t t' =
      a'.filled u h t' ∙ content_cong n a'.from a.from one u ∙ sym (a.filled u h t)
    where
      a : Rebuilds n k miss old (rebuilt n k miss old)
      a = rebuilds n k miss s old b

      a' : Rebuilds n k miss' old (rebuilt n k miss' old)
      a' = rebuilds n k miss' s' old b

      one : (j : ℕ) → j < n → a'.from j ≡ a.from j
      one j l =
          sym (determined n k miss s old a'.from a'.bytes (λ w c e. a'.agrees w c (used_too w c e)) j l)
          ∙ determined n k miss s old a.from a.bytes a.agrees j l

  pub lowest-rebuilt : (old : ℕ → ℕ) (u : ℕ) → u < n + k → miss u ≡ true → miss' u ≡ true → rebuilt n k miss' old u ≡ rebuilt n k miss old u
  lowest-rebuilt old u h t t' =
      rebuilt-low n k miss' s' old u t'
      ∙ lowest_bytes (λ v. old v % 256) (λ v b. mod-lt (old v) (lit< tt)) u h t t'
      ∙ sym (rebuilt-low n k miss s old u t)

-- ---- the plan

-- "the N lowest present units"
abbrev pub LowestSources : Layout → Record → List ℕ → Type 0
LowestSources y R plan = (i j : ℕ) → i < entries y plan → j < y.n → source y plan i j ≡ at (present_in y R (group_named y plan i)) j

-- there are so many
pub enough_present : (y : Layout) (R : Record) → Valid y → Good y R → (g : ℕ) → y.n ≤ length (present_in y R g)
enough_present y R v r g =
    omega (arith, length-those (λ u. not (missing y R g u)) (contents y), count-not (missing y R g) (contents y), few-missing y v R g r)
