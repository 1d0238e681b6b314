-- "entries from k on are never read", of the calls of order 7: two records that agree on k, q, the count and the first k entries make them answer the
-- same and leave the same image and buffer.
use Rattle.std.specs.Prelude.{◌≡◌, Bool, true, eqb, leb, ltb, length}
use Rattle.std.proofs.Math.Path.{ap}
use Rattle.std.proofs.Math.Bool.{not}
use mathlib.Core.List.{List, [], ◌∷◌}
use Prim.Native.Nat.{ℕ, ◌*◌, ◌-◌, ◌/◌, ◌%◌, ◌≤◌}
use Rattle.lists.specs.Pick.{pick, both}
use Rattle.lists.specs.Count.{count}
use Rattle.lists.specs.Search.{all}
use Rattle.lists.specs.Those.{those}
use Rattle.lists.specs.Passing.{over}
use Rattle.lists.specs.Tabulate.{at, tabulate}
use Rattle.numbers.specs.declared.Layout.{Layout}
use Rattle.numbers.specs.Layouts.{all_groups, contents}
use Rattle.parity.specs.Group.{rebuilt}
use Rattle.homes.specs.declared.Record.{Record}
use Rattle.homes.specs.Listed.{listed}
use Rattle.pool.specs.Repairing.{mended}
use Rattle.pool.specs.Unread.{Alike, grant_same}
use Rattle.pool.proofs.UnreadLaws.{alike_after, new-homes_unread, lost_unread, units_unread, stored_unread, storing_unread, own_unread}
use Rattle.proposal.specs.Plans.{entry_size, entries, group_named, content_named, source, names, named_once, each_once, source_good, sources_good, names_missing, plan_good}
use Rattle.proposal.specs.Pairs.{missing_pair}
use Rattle.proposal.specs.Running.{plan_refusal, named_by, unused, planned_byte, plan_image, plan_record, plan_count}
use Rattle.proposal.proofs.RunningLaws.{plan_asked}
use Rattle.proposal.specs.Drawing.{group_drawn, content_drawn, entry_number, drawn_plan, draw_refusal, draw_count, draw_out}
use Rattle.proposal.proofs.DrawingLaws.{draw_asked}

module _ (y : Layout) (R R' : Record) (alike : Alike R R') where
  -- the test sees of the record which contents are missing
  good_unread : R.q ≤ R.k → (plan : List ℕ) → plan_good y R plan ≡ plan_good y R' plan
  unfolding plan_good each_once named_once sources_good source_good names_missing
  good_unread le plan =
      let lost = lost_unread y R R' alike le in
      λ i. both (eqb (entry_size y * entries y plan) (length plan))
      (both (all (λ g. all (λ c. pick (lost i g c) (eqb (count (λ e. names y plan e g c) (entries y plan)) 1) true) (contents y)) (all_groups y))
      (both (all (λ e. all (λ j. both (ltb (source y plan e j) (contents y))
      (both (not (lost i (group_named y plan e) (source y plan e j))) (not (listed (source y plan e) j (source y plan e j))))) y.n) (entries y plan))
      (all (λ e. both (ltb (group_named y plan e) (all_groups y)) (both (ltb (content_named y plan e) (contents y)) (lost i (group_named y plan e) (content_named y plan e))))
      (entries y plan))))

  pub plan_number_unread : (len : ℕ) (plan : List ℕ) → plan_refusal y R len plan ≡ plan_refusal y R' len plan
  unfolding plan_refusal
  plan_number_unread len plan = own_unread y R R' alike len _ _ (λ le. λ i. (good_unread le plan i, 15) ∷ [])

  pub plan_image_unread : (plan img : List ℕ) → plan_image y R plan img ≡ plan_image y R' plan img
  unfolding plan_image planned_byte
  plan_image_unread plan img =
      grant_same (plan_refusal y R (length img) plan) (plan_refusal y R' (length img) plan) _ _ _ (plan_number_unread (length img) plan)
      (λ z. let le = (plan_asked y R (length img) plan z).sound.good.mended in
      storing_unread y R R' alike R.k R'.k (new-homes_unread y R R' alike le)
      _ _ (λ i g o c. lost_unread y R R' alike le i g c)
      _ _ (λ i g o c. rebuilt y.n y.k (unused y plan (named_by y plan g c)) (stored_unread y R R' alike le img i g o) c) img)

  pub plan_count_unread : (len : ℕ) (plan : List ℕ) → plan_count y R len plan ≡ plan_count y R' len plan
  unfolding plan_count
  plan_count_unread len plan =
      grant_same (plan_refusal y R len plan) (plan_refusal y R' len plan) _ _ 0 (plan_number_unread len plan)
      (λ z. units_unread y R R' alike (plan_asked y R len plan z).sound.good.mended)

  pub plan_record_unread : (len : ℕ) (plan : List ℕ) → Alike (plan_record y R len plan) (plan_record y R' len plan)
  unfolding plan_record
  plan_record_unread len plan =
      alike_after y R R' alike (mended R) (mended R') (plan_refusal y R len plan) (plan_refusal y R' len plan) (plan_number_unread len plan)
      (λ z. record { same_k = alike.same_k; same_q = alike.same_k; same_waiting = λ i. 0; same_entries = alike.same_entries })

  -- ---- the planner

  pub draw_number_unread : (len room : ℕ) → draw_refusal y R len room ≡ draw_refusal y R' len room
  unfolding draw_refusal
  draw_number_unread len room = own_unread y R R' alike len _ _ (λ le. λ i. (leb (entry_size y * units_unread y R R' alike le i) room, 5) ∷ [])

  drawn_unread : R.q ≤ R.k → drawn_plan y R ≡ drawn_plan y R'
  unfolding drawn_plan entry_number group_drawn content_drawn missing_pair
  drawn_unread le =
      let lost = lost_unread y R R' alike le in
      let number : (ℕ → ℕ → Bool) → ℕ → ℕ = λ (m : ℕ → ℕ → Bool) (e : ℕ). at (those (λ x. m (x / contents y) (x % contents y)) (contents y * all_groups y)) e in
      λ i. tabulate (entry_size y * units_unread y R R' alike le i)
      (λ z. pick (eqb (z % entry_size y) 0) (number (lost i) (z / entry_size y) / contents y)
      (pick (eqb (z % entry_size y) 1) (number (lost i) (z / entry_size y) % contents y)
      (at (those (λ u. not (lost i (number (lost i) (z / entry_size y) / contents y) u)) (contents y)) (z % entry_size y - 2))))

  pub draw_count_unread : (len room : ℕ) → draw_count y R len room ≡ draw_count y R' len room
  unfolding draw_count
  draw_count_unread len room =
      grant_same (draw_refusal y R len room) (draw_refusal y R' len room) _ _ 0 (draw_number_unread len room)
      (λ z. ap (λ (n : ℕ). entry_size y * n) (units_unread y R R' alike (draw_asked y R len room z).0.good.mended))

  pub draw_out_unread : (len : ℕ) (buf : List ℕ) → draw_out y R len buf ≡ draw_out y R' len buf
  unfolding draw_out
  draw_out_unread len buf =
      grant_same (draw_refusal y R len (length buf)) (draw_refusal y R' len (length buf)) _ _ buf (draw_number_unread len (length buf))
      (λ z. ap (λ (p : List ℕ). over p buf) (drawn_unread (draw_asked y R len (length buf) z).0.good.mended))
