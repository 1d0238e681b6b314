-- "entries from k on are never read": two records that agree on k, q, the count and the first k entries make every call of the pool answer the same and leave the
-- same image, and the records that come back agree likewise. Past the tests a call sees of the record which contents are missing, and their homes.
use Rattle.std.specs.Prelude.{◌≡◌, refl, Bool, not, leb, ltb, length, take, drop}
use Rattle.std.proofs.Math.Path.{sym, ap, fun_ext}
use Rattle.std.proofs.Common.{◌∙◌, subst, le_refl, le_of_suc-le-suc, eq-or-lt_of_le, arith}
use Rattle.std.proofs.Math.Logic.{⊎_elim}
use mathlib.Core.List.{List, [], ◌∷◌}
use Prim.Native.Nat.{ℕ, zero, suc, ◌+◌, ◌-◌, ◌≤◌, ◌<◌}
use Rattle.std.proofs.Math.Dec.{eqb}
use Rattle.std.proofs.Math.Seq.{get_or-set_same}
use Rattle.lists.specs.Pick.{pick, both, equal_or_not}
use Rattle.lists.specs.Count.{count, sum}
use Rattle.lists.specs.Search.{lowest}
use Rattle.lists.specs.Tabulate.{at, tabulate}
use Rattle.lists.specs.Refusal.{unless, ◌or_else◌, refusal_by, grant, or_else_left}
use Rattle.numbers.specs.declared.Layout.{Layout}
use Rattle.numbers.specs.Layouts.{all_groups, contents, all_contents, image_length}
use Rattle.numbers.specs.Refused.{validb}
use Rattle.place.specs.Bytes.{group_of, unit_in, byte_in, offset_of, spot, unit_here, offset_here}
use Rattle.parity.specs.Group.{content, rebuilt}
use Rattle.homes.specs.declared.Record.{Record}
use Rattle.homes.specs.Listed.{listed_same}
use Rattle.homes.specs.Records.{entry, failed, record_good}
use Rattle.homes.specs.RecordLaws.{good_unread}
use Rattle.homes.specs.Missing.{target_at, home, missing}
use Rattle.homes.proofs.MissingLaws.{home_unread, missing_unread}
use Rattle.pool.specs.Counting.{missing_units, on_target}
use Rattle.pool.specs.Contents.{stored, content_byte, file_byte}
use Rattle.pool.specs.Refusals.{pool_tests, range_tests, range_refusal, otherwise, raised, fail_refusal, repair_refusal, look_tests, look_refusal}
use Rattle.pool.specs.Reading.{read_out}
use Rattle.pool.specs.Storing.{owner, cell_after, storing}
use Rattle.pool.specs.Writing.{named, writes, laid, write_image}
use Rattle.pool.specs.Failing.{grown, fail_record}
use Rattle.pool.specs.Repairing.{mended, repair_image, repair_record, repair_count}
use Rattle.pool.specs.Looking.{look_scratch, look_shown}
use Rattle.pool.specs.Auditing.{panel_shows, audit_refusal}
use Rattle.pool.specs.Asked.{pool_first, range_asked, otherwise-asked, fail_asked, repair_asked, look_asked}
use Rattle.pool.proofs.OtherwiseLaws.{fail_by_steps}
use Rattle.pool.specs.FailHolds.{entry_same}
use Rattle.pool.specs.Unread.{Alike, grant_same}

module _ (y : Layout) (R R' : Record) (alike : Alike R R') where
  -- R' with the k and q of R, which it has
  abbrev twin : Record
  twin = record { failed = R'.failed; k = R.k; q = R.q; waiting = R.waiting }

  is_twin : twin ≡ R'
  is_twin = λ i. record { failed = R'.failed; k = alike.same_k i; q = alike.same_q i; waiting = alike.same_waiting i }

  -- ---- the numbers

  pub good_same : record_good y R ≡ record_good y R'
  good_same = good_unread y R.failed R'.failed R.k R.q R.waiting alike.same_entries ∙ ap (record_good y) is_twin

  pub tests_same : (len : ℕ) (rest : List (Bool × ℕ)) → refusal_by (pool_tests y R len rest) ≡ refusal_by (pool_tests y R' len rest)
  tests_same len rest =
      λ i. refusal_by ((validb y, 1) ∷ (eqb len (image_length y), 2) ∷ (good_same i, 3) ∷ (leb (alike.same_waiting i) (all_contents y), 3) ∷ rest)

  pub range_unread : (len offset size : ℕ) → range_refusal y R len offset size ≡ range_refusal y R' len offset size
  unfolding range_refusal
  range_unread len offset size = tests_same len (range_tests y offset size)

  pub repair_number_unread : (len : ℕ) → repair_refusal y R len ≡ repair_refusal y R' len
  unfolding repair_refusal
  repair_number_unread len = tests_same len []

  pub look_unread : (len room group content : ℕ) → look_refusal y R len room group content ≡ look_refusal y R' len room group content
  unfolding look_refusal
  look_unread len room group content = tests_same len (look_tests y room group content)

  -- ---- what an accepted call sees: homes and missing contents are the same, and so is every content's byte

  module _ (le : R.q ≤ R.k) where
    pub homes_unread : home y R R.q ≡ home y R' R'.q
    homes_unread =
        fun_ext (λ (g : ℕ). fun_ext (λ (c : ℕ). home_unread y R.failed R'.failed R.k R.q R.waiting alike.same_entries R.q g c le))
        ∙ ap (λ (S : Record). home y S S.q) is_twin

    pub new-homes_unread : home y R R.k ≡ home y R' R'.k
    new-homes_unread =
        fun_ext (λ (g : ℕ). fun_ext (λ (c : ℕ). home_unread y R.failed R'.failed R.k R.q R.waiting alike.same_entries R.k g c (le_refl R.k)))
        ∙ ap (λ (S : Record). home y S S.k) is_twin

    pub lost_unread : missing y R ≡ missing y R'
    lost_unread =
        fun_ext (λ (g : ℕ). fun_ext (λ (c : ℕ). missing_unread y R.failed R'.failed R.k R.q R.waiting alike.same_entries le g c)) ∙ ap (missing y) is_twin

    pub units_unread : missing_units y R ≡ missing_units y R'
    unfolding missing_units
    units_unread = λ i. sum (λ g. count (lost_unread i g) (contents y)) (all_groups y)

    pub stored_unread : (img : List ℕ) → stored y R img ≡ stored y R' img
    unfolding stored
    stored_unread img = λ i g o c. at img (spot y g (homes_unread i g c) o)

    pub bytes_unread : (img : List ℕ) → content_byte y R img ≡ content_byte y R' img
    unfolding content_byte
    bytes_unread img = λ i g o c. rebuilt y.n y.k (lost_unread i g) (stored_unread img i g o) c

  pub storing_unread : (j j' : ℕ) → home y R j ≡ home y R' j' → (on on' : ℕ → ℕ → ℕ → Bool) → on ≡ on' → (val val' : ℕ → ℕ → ℕ → ℕ) → val ≡ val' → (img : List ℕ)
      → storing y R j on val img ≡ storing y R' j' on' val' img
  unfolding storing owner
  storing_unread j j' eh on on' eo val val' ev img =
      λ i. tabulate (length img)
      (λ x. cell_after (contents y) (eo i) (ev i) (unit_here y x).group (offset_here y x)
      (lowest (λ c. eqb (eh i (unit_here y x).group c) (unit_here y x).unit) (contents y)) (at img x))

  -- ---- the calls

  -- a call's own tests that see no more of the record
  pub own_unread : (len : ℕ) (rest rest' : List (Bool × ℕ)) → (R.q ≤ R.k → rest ≡ rest') → refusal_by (pool_tests y R len rest) ≡ refusal_by (pool_tests y R' len rest')
  own_unread len rest rest' same =
      equal_or_not (repair_refusal y R len) 0
      (λ (z : repair_refusal y R len ≡ 0).
      tests_same len rest ∙ ap (λ (t : List (Bool × ℕ)). refusal_by (pool_tests y R' len t)) (same (repair_asked y R len z).good.mended))
      (λ (ne : repair_refusal y R len ≡ 0 → ⊥).
      pool_first y R len rest ∙ or_else_left _ _ ne ∙ repair_number_unread len
      ∙ sym (pool_first y R' len rest' ∙ or_else_left _ _ (λ (z : repair_refusal y R' len ≡ 0). ne (repair_number_unread len ∙ z))))

  otherwise_unread : (len target : ℕ) → otherwise y R len target ≡ otherwise y R' len target
  unfolding otherwise
  otherwise_unread len target =
      (λ i. refusal_by ((validb y, 1) ∷ (eqb len (image_length y), 2) ∷ (good_same i, 3) ∷ (leb (alike.same_waiting i) (all_contents y), 3)
      ∷ (ltb target y.p, 4) ∷ (not (lists i), 6) ∷ (not (eqb (alike.same_k i) y.k), 7) ∷ []))
    where
      lists : failed R target ≡ failed R' target
      lists = listed_same (entry R) (entry R') R.k target alike.same_entries ∙ ap (λ (S : Record). failed S target) is_twin

  raised_unread : R.q ≤ R.k → (target : ℕ) → raised y R target ≡ raised y R' target
  unfolding on_target
  raised_unread le target =
      λ i. alike.same_waiting i + sum (λ g. count (λ c. eqb (target_at y g (homes_unread le i g c)) target) (contents y)) (all_groups y)

  pub fail_number_unread : (len target : ℕ) → fail_refusal y R len target ≡ fail_refusal y R' len target
  fail_number_unread len target =
      equal_or_not (otherwise y R len target) 0
      (λ (z : otherwise y R len target ≡ 0).
      let up = raised_unread (otherwise-asked y R len target z).sound.good.mended target in
      fail_by_steps y R len target
      ∙ (λ i. otherwise_unread len target i or_else unless (leb (up i) (all_contents y)) 3)
      ∙ sym (fail_by_steps y R' len target))
      (λ (ne : otherwise y R len target ≡ 0 → ⊥).
      fail_by_steps y R len target ∙ or_else_left _ _ ne ∙ otherwise_unread len target
      ∙ sym (fail_by_steps y R' len target ∙ or_else_left _ _ (λ (z : otherwise y R' len target ≡ 0). ne (otherwise_unread len target ∙ z))))

  pub read_unread : (img : List ℕ) (offset size : ℕ) → read_out y R img offset size ≡ read_out y R' img offset size
  unfolding read_out file_byte
  read_unread img offset size =
      grant_same (range_refusal y R (length img) offset size) (range_refusal y R' (length img) offset size) _ _ _ (range_unread (length img) offset size)
      (λ z. let same = bytes_unread (range_asked y R (length img) offset size z).0.good.mended img in
      λ i. tabulate size (λ x. same i (group_of y (offset + x)) (byte_in y (offset + x)) (unit_in y (offset + x))))

  pub write_unread : (img : List ℕ) (offset : ℕ) (bytes : List ℕ) → write_image y R img offset bytes ≡ write_image y R' img offset bytes
  unfolding write_image laid
  write_unread img offset bytes =
      grant_same (range_refusal y R (length img) offset (length bytes)) (range_refusal y R' (length img) offset (length bytes)) _ _ _
      (range_unread (length img) offset (length bytes))
      (λ z. let le = (range_asked y R (length img) offset (length bytes) z).0.good.mended in
      storing_unread R.q R'.q (homes_unread le)
      _ _ (λ i g o c. both (not (lost_unread le i g c)) (writes y offset (length bytes) g o c))
      _ _ (λ i g o c. content y.n
      (λ d. pick (named y offset (length bytes) g o d) (at bytes (offset_of y g d o - offset)) (bytes_unread le img i g o d)) c) img)

  pub repair_unread : (img : List ℕ) → repair_image y R img ≡ repair_image y R' img
  unfolding repair_image
  repair_unread img =
      grant_same (repair_refusal y R (length img)) (repair_refusal y R' (length img)) _ _ _ (repair_number_unread (length img))
      (λ z. let le = (repair_asked y R (length img) z).good.mended in
      storing_unread R.k R'.k (new-homes_unread le) _ _ (λ i g o c. lost_unread le i g c) _ _ (bytes_unread le img) img)

  pub count_unread : (len : ℕ) → repair_count y R len ≡ repair_count y R' len
  unfolding repair_count
  count_unread len =
      grant_same (repair_refusal y R len) (repair_refusal y R' len) _ _ 0 (repair_number_unread len) (λ z. units_unread (repair_asked y R len z).good.mended)

  pub panel_unread : (len n n' : ℕ) → n ≡ n' → panel_shows y R len n ≡ panel_shows y R' len n'
  unfolding panel_shows
  panel_unread len n n' e = λ i. grant (repair_number_unread len i) (e i) 0

  pub audit_unread : (len : ℕ) → audit_refusal y R len ≡ audit_refusal y R' len
  unfolding audit_refusal
  audit_unread len = own_unread len _ _ (λ le. λ i. (eqb (alike.same_waiting i) (units_unread le i), 14) ∷ [])

  pub prepare_unread : (img : List ℕ) (room group content : ℕ) → look_scratch y R img room group content ≡ look_scratch y R' img room group content
  unfolding look_scratch
  prepare_unread img room group content =
      grant_same (look_refusal y R (length img) room group content) (look_refusal y R' (length img) room group content) _ _ _ (look_unread (length img) room group content)
      (λ z. let le = (look_asked y R (length img) room group content z).sound.good.mended in
      λ i. tabulate room (λ o. pick (lost_unread le i group content) (bytes_unread le img i group o content) 0))

  pub show_unread : (img scratch : List ℕ) (group content : ℕ) → look_shown y R img scratch group content ≡ look_shown y R' img scratch group content
  unfolding look_shown
  show_unread img scratch group content =
      grant_same (look_refusal y R (length img) (length scratch) group content) (look_refusal y R' (length img) (length scratch) group content) _ _ _
      (look_unread (length img) (length scratch) group content)
      (λ z. let le = (look_asked y R (length img) (length scratch) group content z).sound.good.mended in
      λ i. pick (lost_unread le i group content) scratch (take y.u (drop (spot y group (homes_unread le i group content) 0) img)))

  -- ---- the records that come back

  -- after one more failure, or unchanged where it is refused
  pub alike_after : (S S' : Record) (n n' : ℕ) → n ≡ n' → (n ≡ 0 → Alike S S') → Alike (grant n S R) (grant n' S' R')
  alike_after S S' n n' e f = subst (λ (m : ℕ). Alike (grant n S R) (grant m S' R')) e (same n f)
    where
      same : (n : ℕ) → (n ≡ 0 → Alike S S') → Alike (grant n S R) (grant n S' R')
      same zero f = f refl
      same (suc n) f = alike

  pub fail_unread : length R.failed ≡ 3 → length R'.failed ≡ 3 → (len target : ℕ) → Alike (fail_record y R len target) (fail_record y R' len target)
  unfolding fail_record
  fail_unread three three' len target =
      alike_after (grown y R target) (grown y R' target) (fail_refusal y R len target) (fail_refusal y R' len target) (fail_number_unread len target)
      (λ z. let a = fail_asked y R len target z in
      let room : R.k < 3 = omega (arith, a.room, a.sound.valid.few_parity) in
      record {
        same_k = ap suc alike.same_k;
        same_q = alike.same_q;
        same_waiting = raised_unread a.sound.good.mended target;
        same_entries = λ i b. ⊎_elim
            (λ (e : i ≡ R.k).
            ap (entry (grown y R target)) e ∙ get_or-set_same R.failed R.k target 0 (omega (arith, room, three))
            ∙ sym (ap (entry (grown y R' target)) (e ∙ alike.same_k) ∙ get_or-set_same R'.failed R'.k target 0 (omega (arith, room, three', alike.same_k))))
            (λ (l : i < R.k).
            entry_same y R target i l ∙ alike.same_entries i l ∙ sym (entry_same y R' target i (omega (arith, l, alike.same_k))))
            (eq-or-lt_of_le (le_of_suc-le-suc b));
      })

  pub mended_unread : (len : ℕ) → Alike (repair_record y R len) (repair_record y R' len)
  unfolding repair_record
  mended_unread len =
      alike_after (mended R) (mended R') (repair_refusal y R len) (repair_refusal y R' len) (repair_number_unread len)
      (λ z. record { same_k = alike.same_k; same_q = alike.same_k; same_waiting = refl; same_entries = alike.same_entries })
