-- "But for the hex line, no answer and no other byte depends on a failed target's bytes or an unused spare's, and no call changes them, except that
-- repair stores at the spares that become homes." For each call, on any layout, record and image: two images that agree elsewhere give the same
-- answers and agree elsewhere afterwards. A refusal number, a record, a repair's count and what the panel shows depend on no byte: they take the image's
-- length alone. A list of writes, a proposed plan, a swap and a move have their statements in `WriteList`, `RepairPlan`, `SwapDrive` and
-- `MoveEditions`.
use Rattle.std.specs.Prelude.{◌≡◌, true, List, ℕ, ◌<◌, length}
use Rattle.std.proofs.Common.{sym, ap, ◌∙◌, ⊎_elim}
use Rattle.lists.specs.Tabulate.{at}
use Rattle.numbers.specs.declared.Layout.{Layout}
use Rattle.numbers.specs.Layouts.{Valid}
use Rattle.place.specs.Bytes.{target_here}
use Rattle.homes.specs.declared.Record.{Record}
use Rattle.homes.specs.Records.{failed}
use Rattle.pool.specs.Refusals.{range_refusal, fail_refusal, repair_refusal, look_refusal}
use Rattle.pool.specs.Reading.{read_out}
use Rattle.pool.specs.Writing.{write_image}
use Rattle.pool.specs.Failing.{fail_record}
use Rattle.pool.specs.Repairing.{repair_image, repair_record, repair_count}
use Rattle.pool.specs.Looking.{look_scratch, look_shown}
use Rattle.pool.specs.Auditing.{panel_shows, audit_refusal}
use Rattle.pool.specs.Changes.{Mended}
use Rattle.pool.proofs.ChangesLaws.{repair_changes, repair_spares_failed}
use Rattle.pool.proofs.BlindLaws.{read_blind, prepare_blind, show_blind}
use Rattle.pool.specs.Elsewhere.{unseen, AgreeElsewhere, agree_of}
use Rattle.pool.proofs.ElsewhereKeptLaws.{write_elsewhere, fail_elsewhere, repair_elsewhere, write_spares_unseen}
use Rattle.pool.proofs.UnreadLaws as U
use Rattle.pool.specs.Unread.{Alike}
use Rattle.pool_look.specs.Shown.{shown_at}
use Rattle.pool_look.specs.Looks as L
use Rattle.promises.specs.Runs.{Event, start, run, reink}
use Rattle.promises.specs.RunLaws.{Twins, started, twins, twins_start}

-- ---- what nothing depends on

module _ (y : Layout) (R : Record) (img img' : List ℕ) (agree : AgreeElsewhere y R img img') where
  pub read_independent : (offset size : ℕ)
      → (range_refusal y R (length img) offset size ≡ range_refusal y R (length img') offset size) × (read_out y R img offset size ≡ read_out y R img' offset size)
  read_independent offset size =
      (ap (λ (n : ℕ). range_refusal y R n offset size) (sym agree.same_length), read_blind y R img img' (agree_of y R img img' agree) offset size)

  pub write_independent : (offset : ℕ) (bytes : List ℕ)
      → (range_refusal y R (length img) offset (length bytes) ≡ range_refusal y R (length img') offset (length bytes))
      × AgreeElsewhere y R (write_image y R img offset bytes) (write_image y R img' offset bytes)
  write_independent offset bytes =
      (ap (λ (n : ℕ). range_refusal y R n offset (length bytes)) (sym agree.same_length), write_elsewhere y R img img' agree offset bytes)

  pub fail_independent : (target : ℕ)
      → (fail_refusal y R (length img) target ≡ fail_refusal y R (length img') target)
      × (fail_record y R (length img) target ≡ fail_record y R (length img') target)
      × AgreeElsewhere y (fail_record y R (length img) target) img img'
  fail_independent target = (
    ap (λ (n : ℕ). fail_refusal y R n target) (sym agree.same_length),
    ap (λ (n : ℕ). fail_record y R n target) (sym agree.same_length),
    fail_elsewhere y R img img' agree target,
  )

  -- they agree afterwards also at the spares that have become homes
  pub repair_independent :
      (repair_refusal y R (length img) ≡ repair_refusal y R (length img'))
      × (repair_count y R (length img) ≡ repair_count y R (length img'))
      × (repair_record y R (length img) ≡ repair_record y R (length img'))
      × AgreeElsewhere y (repair_record y R (length img)) (repair_image y R img) (repair_image y R img')
  repair_independent = (
    ap (repair_refusal y R) (sym agree.same_length),
    ap (repair_count y R) (sym agree.same_length),
    ap (repair_record y R) (sym agree.same_length),
    repair_elsewhere y R img img' agree,
  )

  pub panel_independent :
      (repair_refusal y R (length img) ≡ repair_refusal y R (length img')) × ((n : ℕ) → panel_shows y R (length img) n ≡ panel_shows y R (length img') n)
  panel_independent = (ap (repair_refusal y R) (sym agree.same_length), λ n. ap (λ (len : ℕ). panel_shows y R len n) (sym agree.same_length))

  pub audit_independent : audit_refusal y R (length img) ≡ audit_refusal y R (length img')
  audit_independent = ap (audit_refusal y R) (sym agree.same_length)

  pub prepare_independent : (room group content : ℕ)
      → (look_refusal y R (length img) room group content ≡ look_refusal y R (length img') room group content)
      × (look_scratch y R img room group content ≡ look_scratch y R img' room group content)
  prepare_independent room group content =
      (ap (λ (n : ℕ). look_refusal y R n room group content) (sym agree.same_length), prepare_blind y R img img' (agree_of y R img img' agree) room group content)

  pub show_independent : (scratch : List ℕ) (group content : ℕ)
      → (look_refusal y R (length img) (length scratch) group content ≡ look_refusal y R (length img') (length scratch) group content)
      × (look_shown y R img scratch group content ≡ look_shown y R img' scratch group content)
  show_independent scratch group content =
      (ap (λ (n : ℕ). look_refusal y R n (length scratch) group content) (sym agree.same_length), show_blind y R img img' (agree_of y R img img' agree) scratch group content)

-- ---- what no call changes: fail, read, panel, audit, prepare and show change no byte of the image at all

module _ (y : Layout) (R : Record) (img : List ℕ) (x : ℕ) (in_image : x < length img) where
  -- a write, neither a failed target's byte nor an unused spare's
  pub write_leaves : (offset : ℕ) (bytes : List ℕ) → unseen y R x ≡ true → at (write_image y R img offset bytes) x ≡ at img x
  write_leaves offset bytes = write_spares_unseen y R img offset bytes x in_image

  -- a repair, no failed target's byte, and of the others only those of the spares that become homes
  pub repair_leaves : failed R (target_here y x) ≡ true → at (repair_image y R img) x ≡ at img x
  repair_leaves = repair_spares_failed y R img x in_image

  pub repair_leaves_others : (Mended y R x → ⊥) → at (repair_image y R img) x ≡ at img x
  repair_leaves_others no-home = ⊎_elim (λ e. e) (λ w. absurd (no-home w)) (repair_changes y R img x in_image)

-- ---- "entries from k on are never read": two records that agree on k, q, the count and the first k entries give the same answers and images, and
-- records that agree likewise

module _ (y : Layout) (R R' : Record) (alike : Alike R R') (img : List ℕ) where
  pub read_unread : (offset size : ℕ)
      → (range_refusal y R (length img) offset size ≡ range_refusal y R' (length img) offset size) × (read_out y R img offset size ≡ read_out y R' img offset size)
  read_unread offset size = (U.range_unread y R R' alike (length img) offset size, U.read_unread y R R' alike img offset size)

  pub write_unread : (offset : ℕ) (bytes : List ℕ)
      → (range_refusal y R (length img) offset (length bytes) ≡ range_refusal y R' (length img) offset (length bytes))
      × (write_image y R img offset bytes ≡ write_image y R' img offset bytes)
  write_unread offset bytes = (U.range_unread y R R' alike (length img) offset (length bytes), U.write_unread y R R' alike img offset bytes)

  -- a record has room for three entries
  pub fail_unread : length R.failed ≡ 3 → length R'.failed ≡ 3 → (target : ℕ)
      → (fail_refusal y R (length img) target ≡ fail_refusal y R' (length img) target) × Alike (fail_record y R (length img) target) (fail_record y R' (length img) target)
  fail_unread three three' target = (U.fail_number_unread y R R' alike (length img) target, U.fail_unread y R R' alike three three' (length img) target)

  pub repair_unread :
      (repair_refusal y R (length img) ≡ repair_refusal y R' (length img))
      × (repair_count y R (length img) ≡ repair_count y R' (length img))
      × Alike (repair_record y R (length img)) (repair_record y R' (length img))
      × (repair_image y R img ≡ repair_image y R' img)
  repair_unread = (
    U.repair_number_unread y R R' alike (length img),
    U.count_unread y R R' alike (length img),
    U.mended_unread y R R' alike (length img),
    U.repair_unread y R R' alike img,
  )

  pub panel_unread :
      (repair_refusal y R (length img) ≡ repair_refusal y R' (length img))
      × (panel_shows y R (length img) R.waiting ≡ panel_shows y R' (length img) R'.waiting)
      × (panel_shows y R (length img) R.k ≡ panel_shows y R' (length img) R'.k)
      × (panel_shows y R (length img) R.q ≡ panel_shows y R' (length img) R'.q)
  panel_unread = (
    U.repair_number_unread y R R' alike (length img),
    U.panel_unread y R R' alike (length img) R.waiting R'.waiting alike.same_waiting,
    U.panel_unread y R R' alike (length img) R.k R'.k alike.same_k,
    U.panel_unread y R R' alike (length img) R.q R'.q alike.same_q,
  )

  pub audit_unread : audit_refusal y R (length img) ≡ audit_refusal y R' (length img)
  audit_unread = U.audit_unread y R R' alike (length img)

  pub prepare_unread : (room group content : ℕ)
      → (look_refusal y R (length img) room group content ≡ look_refusal y R' (length img) room group content)
      × (look_scratch y R img room group content ≡ look_scratch y R' img room group content)
  prepare_unread room group content = (U.look_unread y R R' alike (length img) room group content, U.prepare_unread y R R' alike img room group content)

  pub show_unread : (scratch : List ℕ) (group content : ℕ)
      → (look_refusal y R (length img) (length scratch) group content ≡ look_refusal y R' (length img) (length scratch) group content)
      × (look_shown y R img scratch group content ≡ look_shown y R' img scratch group content)
  show_unread scratch group content = (U.look_unread y R R' alike (length img) (length scratch) group content, U.show_unread y R R' alike img scratch group content)

  pub locate_unread : (room group content : ℕ) → shown_at y R (length img) room group content ≡ shown_at y R' (length img) room group content
  locate_unread = L.locate_unread y R R' alike (length img)

-- ---- runs: no record, no read and no look depends on what others scribble

module _ (y : Layout) (valid : Valid y) (room : List ℕ) (three : length room ≡ 3) (es : List Event) (inks : ℕ → ℕ → ℕ) where
  together : Twins y (run y (start y room) es) (run y (start y room) (reink inks es))
  together = twins y valid es inks (start y room) (start y room) (started y valid room three) (twins_start y (start y room))

  pub scribbles_unrecorded : (run y (start y room) (reink inks es)).rec ≡ (run y (start y room) es).rec
  scribbles_unrecorded = together.rec

  pub scribbles_unread : (offset size : ℕ)
      → read_out y (run y (start y room) es).rec (run y (start y room) es).img offset size
      ≡ read_out y (run y (start y room) es).rec (run y (start y room) (reink inks es)).img offset size
  scribbles_unread = read_blind y (run y (start y room) es).rec (run y (start y room) es).img (run y (start y room) (reink inks es)).img together.agree

  pub scribbles_unlooked : (size group content : ℕ)
      → look_shown y (run y (start y room) es).rec (run y (start y room) es).img (look_scratch y (run y (start y room) es).rec (run y (start y room) es).img size group content) group content
      ≡ look_shown y (run y (start y room) es).rec (run y (start y room) (reink inks es)).img
      (look_scratch y (run y (start y room) es).rec (run y (start y room) (reink inks es)).img size group content) group content
  scribbles_unlooked size group content =
      let s = run y (start y room) es in
      let img' = (run y (start y room) (reink inks es)).img in
      show_blind y s.rec s.img img' together.agree (look_scratch y s.rec s.img size group content) group content
      ∙ ap (λ (scratch : List ℕ). look_shown y s.rec img' scratch group content) (prepare_blind y s.rec s.img img' together.agree size group content)
