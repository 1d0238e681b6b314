-- "Failures and homes": where the contents of a group are after failures, that a free spare always exists, and what a missing content's bytes are on ANY
-- image, so that nobody has to believe the formula for small systems. Each theorem for every layout within the bounds.
use Rattle.std.specs.Prelude.{◌≡◌, true, false, List, ℕ, suc, ◌+◌, ◌≤◌, ◌<◌, length}
use Rattle.std.proofs.Common.{sym, ap, ◌∙◌}
use Rattle.lists.specs.Count.{count}
use Rattle.lists.specs.Refusal.{grant_yes}
use Rattle.lists.specs.Tabulate.{at, get_d_tabulate}
use Rattle.numbers.specs.declared.Layout.{Layout}
use Rattle.numbers.specs.Layouts.{Valid, contents}
use Rattle.place.specs.Bytes.{group_of, unit_in, byte_in}
use Rattle.parity.specs.Lowest.{Rebuilds, rebuilds_once}
use Rattle.homes.specs.declared.Record.{Record}
use Rattle.homes.specs.Listed.{listed}
use Rattle.homes.specs.Records.{entry, failed, record_good}
use Rattle.homes.specs.RecordLaws.{record_good_lem}
use Rattle.homes.specs.Missing.{target_at, home, missing}
use Rattle.homes.proofs.MissingLaws as H
use Rattle.pool.specs.Contents.{stored, content_byte, file_byte}
use Rattle.pool.specs.Refusals.{range_refusal, fail_refusal}
use Rattle.pool.specs.Reading.{read_out}
use Rattle.pool.specs.Failing.{grown, fail_record}
use Rattle.pool.specs.Calls.{Reads, Fails}
use Rattle.pool.specs.FailHolds.{entry_same, fail_listed}
use Rattle.pool.specs.Holds.{solvable, content_rebuilds}

module _ (y : Layout) (valid : Valid y) (R : Record) (g : ℕ) where
  -- "One always exists for at most K failures": with j below K, a content whose home under the first j entries is on the target of the next entry moves
  -- to a spare of its group that "is no content's home and lies on none of the targets listed up to and including this one"
  pub spare_exists : (j c : ℕ) → j < y.k → c < contents y → target_at y g (home y R j g c) ≡ entry R j
      → (i : ℕ) × (i < y.k) × (home y R (suc j) g c ≡ contents y + i) × ((d : ℕ) → d < contents y → home y R j g d ≡ contents y + i → ⊥)
      × (listed (entry R) (suc j) (target_at y g (contents y + i)) ≡ false)
  spare_exists = H.home_moves_lem y valid R g

  module _ (j : ℕ) (few : j ≤ y.k) where
    -- under at most K entries no two contents of a group share a drive, and none lies on a listed one
    pub homes_apart : (c c' : ℕ) → c < contents y → c' < contents y → target_at y g (home y R j g c) ≡ target_at y g (home y R j g c') → c ≡ c'
    homes_apart = H.home_targets y valid R g j few

    pub homes_alive : (c : ℕ) → c < contents y → listed (entry R) j (target_at y g (home y R j g c)) ≡ false
    homes_alive = H.home_alive y valid R g j few

  -- with a record that is not refused with 3
  module _ (good : record_good y R ≡ true) where
    -- at most K contents of a group are missing
    pub few-missing : count (missing y R g) (contents y) ≤ y.k
    few-missing = H.few-missing y valid R g (record_good_lem y R good)

    module _ (img : List ℕ) (o : ℕ) (bytes : (c : ℕ) → c < contents y → stored y R img g o c < 256) where
      -- at each unit offset o some data bytes agree with the N lowest present contents; a missing content's byte is what they encode to, and a
      -- present one's is the stored one, also where the present ones disagree
      pub content_agrees : Rebuilds y.n y.k (missing y R g) (stored y R img g o) (content_byte y R img g o)
      content_agrees = content_rebuilds y R img valid (record_good_lem y R good) g o bytes

      -- and no other bytes do
      pub content_determined : (new : ℕ → ℕ) → Rebuilds y.n y.k (missing y R g) (stored y R img g o) new → (c : ℕ) → c < contents y → new c ≡ content_byte y R img g o c
      content_determined new r = rebuilds_once y.n y.k (missing y R g) (solvable y R valid (record_good_lem y R good) g) (stored y R img g o) new (content_byte y R img g o) r content_agrees

-- an accepted read shows these bytes, on any image
pub read_shows_contents : (y : Layout) (R : Record) (img : List ℕ) (offset size n : ℕ) (out : List ℕ) → Reads y R img offset size n out → n ≡ 0 → (i : ℕ) → i < size
    → at out i ≡ content_byte y R img (group_of y (offset + i)) (byte_in y (offset + i)) (unit_in y (offset + i))
unfolding read_out file_byte
read_shows_contents y R img offset size n out p z i h =
    ap (λ (l : List ℕ). at l i) (p.bytes ∙ grant_yes (range_refusal y R (length img) offset size) _ _ (sym p.answer ∙ z))
    ∙ get_d_tabulate size _ i 0 h

-- "Failing a target writes entry k and raises k by one": so it counts as failed, as the targets before it do
pub fail_lists : (y : Layout) (R : Record) (img : List ℕ) (target n : ℕ) (R' : Record) → length R.failed ≡ 3 → Fails y R img target n R' → n ≡ 0
    → (R'.k ≡ suc R.k) × (failed R' target ≡ true) × ((i : ℕ) → i < R.k → entry R' i ≡ entry R i)
unfolding fail_record
fail_lists y R img target n R' three p z =
    let ok : fail_refusal y R (length img) target ≡ 0 = sym p.answer ∙ z in
    let grows : R' ≡ grown y R target = p.rec ∙ grant_yes (fail_refusal y R (length img) target) (grown y R target) R ok in (
      ap (λ (S : Record). S.k) grows,
      ap (λ (S : Record). failed S target) p.rec ∙ fail_listed y R (length img) target three ok,
      (λ i h. ap (λ (S : Record). entry S i) grows ∙ entry_same y R target i h),
    )
