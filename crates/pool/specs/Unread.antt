-- "entries from k on are never read": two records that agree on k, q, the count and the first k entries make every call of the pool answer the same and leave the
-- same image, and the records that come back agree likewise. Past the tests a call sees of the record which contents are missing, and their homes.
use Rattle.std.specs.Prelude.{◌≡◌, refl, Bool, not, leb, ltb, length, take, drop}
use Rattle.std.proofs.Math.Path.{sym, ap, fun_ext}
use Rattle.std.proofs.Common.{◌∙◌, subst, le_refl, le_of_suc-le-suc, eq-or-lt_of_le, arith}
use Rattle.std.proofs.Math.Logic.{⊎_elim}
use mathlib.Core.List.{List, [], ◌∷◌}
use Prim.Native.Nat.{ℕ, zero, suc, ◌+◌, ◌-◌, ◌≤◌, ◌<◌}
use Rattle.std.proofs.Math.Dec.{eqb}
use Rattle.std.proofs.Math.Seq.{get_or-set_same}
use Rattle.lists.specs.Pick.{pick, both, equal_or_not}
use Rattle.lists.specs.Count.{count, sum}
use Rattle.lists.specs.Search.{lowest}
use Rattle.lists.specs.Tabulate.{at, tabulate}
use Rattle.lists.specs.Refusal.{unless, ◌or_else◌, refusal_by, grant, or_else_left}
use Rattle.numbers.specs.declared.Layout.{Layout}
use Rattle.numbers.specs.Layouts.{all_groups, contents, all_contents, image_length}
use Rattle.numbers.specs.Refused.{validb}
use Rattle.place.specs.Bytes.{group_of, unit_in, byte_in, offset_of, spot, unit_here, offset_here}
use Rattle.parity.specs.Group.{content, rebuilt}
use Rattle.homes.specs.declared.Record.{Record}
use Rattle.homes.specs.Listed.{listed_same}
use Rattle.homes.specs.Records.{entry, failed, record_good}
use Rattle.homes.specs.RecordLaws.{good_unread}
use Rattle.homes.specs.Missing.{target_at, home, missing}
use Rattle.homes.proofs.MissingLaws.{home_unread, missing_unread}
use Rattle.pool.specs.Counting.{missing_units, on_target}
use Rattle.pool.specs.Contents.{stored, content_byte, file_byte}
use Rattle.pool.specs.Refusals.{pool_tests, range_tests, range_refusal, otherwise, raised, fail_refusal, repair_refusal, look_tests, look_refusal}
use Rattle.pool.specs.Reading.{read_out}
use Rattle.pool.specs.Storing.{owner, cell_after, storing}
use Rattle.pool.specs.Writing.{named, writes, laid, write_image}
use Rattle.pool.specs.Failing.{grown, fail_record}
use Rattle.pool.specs.Repairing.{mended, repair_image, repair_record, repair_count}
use Rattle.pool.specs.Looking.{look_scratch, look_shown}
use Rattle.pool.specs.Auditing.{panel_shows, audit_refusal}
use Rattle.pool.specs.Asked.{pool_first, range_asked, otherwise-asked, fail_asked, repair_asked, look_asked}
use Rattle.pool.specs.FailHolds.{entry_same}

pub record Alike (R R' : Record) : Type 0 where
  pub same_k : R.k ≡ R'.k
  pub same_q : R.q ≡ R'.q
  pub same_waiting : R.waiting ≡ R'.waiting
  pub same_entries : (i : ℕ) → i < R.k → entry R i ≡ entry R' i

-- two answers of one kind: the same number, and where it is 0 the same accepted answer
pub grant_same : {A : Type 0} (n n' : ℕ) (a a' b : A) → n ≡ n' → (n ≡ 0 → a ≡ a') → grant n a b ≡ grant n' a' b
grant_same zero n' a a' b e f = f refl ∙ ap (λ (m : ℕ). grant m a' b) e
grant_same (suc n) n' a a' b e f = ap (λ (m : ℕ). grant m a' b) e
