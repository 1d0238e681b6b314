-- Calls see present contents alone: on two images that agree there, every call answers the same, and they agree there afterwards.
use Rattle.std.specs.Prelude.{◌≡◌, true, false, ℕ, ◌+◌, ◌-◌, ◌<◌, length}
use Rattle.std.proofs.Math.Path.{sym, ap, subst}
use Rattle.std.proofs.Common.{◌∙◌, arith}
use Rattle.std.proofs.Math.Logic.{⊎_elim}
use mathlib.Core.List.{List, []}
use Rattle.lists.specs.Pick.{pick, pick_true, pick-false, either_way, equal_or_not}
use Rattle.lists.specs.Tabulate.{at, tabulate_ext, zeros}
use Rattle.lists.specs.Refusal.{grant_yes, grant_no, grant-either}
use Rattle.numbers.specs.declared.Layout.{Layout}
use Rattle.numbers.specs.Layouts.{Valid, all_groups, contents}
use Rattle.place.specs.Bytes.{spot, group_of, unit_in, byte_in, offset_of}
use Rattle.place.specs.ByteLaws.{group_lt, unit_lt, byte_lt}
use Rattle.parity.specs.Content.{content_cong}
use Rattle.parity.specs.Local.{rebuilt_cong}
use Rattle.homes.specs.declared.Record.{Record}
use Rattle.homes.specs.Records.{Good}
use Rattle.homes.specs.Missing.{missing}
use Rattle.pool.specs.Contents.{home_spot, stored, content_byte, file_byte}
use Rattle.pool.specs.Refusals.{range_refusal, fail_refusal, repair_refusal, look_refusal}
use Rattle.pool.specs.Reading.{read_out}
use Rattle.pool.specs.Writing.{named, laid, write_image}
use Rattle.pool.specs.Failing.{grown, fail_record}
use Rattle.pool.specs.Repairing.{mended, repair_image, repair_record}
use Rattle.pool.specs.Looking.{look_scratch, look_shown}
use Rattle.pool.specs.Scribbling.{scribbled}
use Rattle.pool.specs.Asked.{Sound, range_asked, fail_asked, repair_asked, look_asked}
use Rattle.pool.specs.StoringLaws.{storing_same}
use Rattle.pool.specs.Holds.{solvable, home-spot-lt}
use Rattle.pool.specs.WriteHolds.{write_refused}
use Rattle.pool.proofs.WriteHoldsLaws.{write_accepted, write_length}
use Rattle.pool.specs.FailHolds.{home-grown, present-grown}
use Rattle.pool.proofs.RepairHolds.{repair_refused, repair_accepted, repair_length, stored-mended, stored_stays}
use Rattle.pool.proofs.ScribbleHoldsLaws.{scribble_stored, scribble_length}
use Rattle.pool.specs.LookHolds.{part-stored}
use Rattle.pool.specs.Blind.{Agree, content_local}

module _ (y : Layout) (R : Record) (img img' : List ℕ) (a : Agree y R img img') where
  -- a refusal that hangs on the image's length is the same for both
  pub also : (refusal : ℕ → ℕ) → (refusal (length img) ≡ 0 → ⊥) → refusal (length img') ≡ 0 → ⊥
  also refusal never z = never (ap refusal (sym a.same_length) ∙ z)

  too : (refusal : ℕ → ℕ) → refusal (length img) ≡ 0 → refusal (length img') ≡ 0
  too refusal z = ap refusal a.same_length ∙ z

  -- they have the same contents, missing ones too
  pub content_blind : Sound y R (length img) → (g o c : ℕ) → g < all_groups y → o < y.u → c < contents y → content_byte y R img g o c ≡ content_byte y R img' g o c
  content_blind s g o c hg ho hc = content_local y R img img' s.valid s.good g o (λ u b m. a.present s g o u hg ho b m) c hc

  -- ---- read

  pub read_blind : (offset size : ℕ) → read_out y R img offset size ≡ read_out y R img' offset size
  unfolding read_out file_byte
  read_blind offset size =
      equal_or_not (range_refusal y R (length img) offset size) 0
      (λ (z : range_refusal y R (length img) offset size ≡ 0).
      let s = range_asked y R (length img) offset size z in
      let room = s.1 in
      grant_yes (range_refusal y R (length img) offset size) _ _ z
      ∙ tabulate_ext 0 size _ _
      (λ i b. let x = offset + i in content_blind s.0 (group_of y x) (byte_in y x) (unit_in y x)
      (group_lt y s.0.valid x (omega arith)) (byte_lt y s.0.valid x) (let h = unit_lt y s.0.valid x in omega arith))
      ∙ sym (grant_yes (range_refusal y R (length img') offset size) _ _ (too (λ n. range_refusal y R n offset size) z)))
      (λ (z : range_refusal y R (length img) offset size ≡ 0 → ⊥).
      grant_no (range_refusal y R (length img) offset size) _ (zeros size) z
      ∙ sym (grant_no (range_refusal y R (length img') offset size) _ (zeros size) (also (λ n. range_refusal y R n offset size) z)))

  -- ---- write: each byte that was the same is the same afterwards

  pub write_blind : (offset : ℕ) (bytes : List ℕ) (x : ℕ) → x < length img → at img x ≡ at img' x
      → at (write_image y R img offset bytes) x ≡ at (write_image y R img' offset bytes) x
  unfolding laid
  write_blind offset bytes x h e =
      equal_or_not (range_refusal y R (length img) offset (length bytes)) 0
      (λ (z : range_refusal y R (length img) offset (length bytes) ≡ 0).
      let s = (range_asked y R (length img) offset (length bytes) z).0 in
      ap (λ (i : List ℕ). at i x) (write_accepted y R img offset bytes z)
      ∙ storing_same y s.valid R R.q _ _ img s.len_is _ img' a.same_length
      (λ g o c hg ho hc. content_cong y.n _ _
      (λ j b. ap (pick (named y offset (length bytes) g o j) (at bytes (offset_of y g j o - offset))) (content_blind s g o j hg ho (omega arith))) c)
      x h e
      ∙ sym (ap (λ (i : List ℕ). at i x) (write_accepted y R img' offset bytes (too (λ n. range_refusal y R n offset (length bytes)) z))))
      (λ (z : range_refusal y R (length img) offset (length bytes) ≡ 0 → ⊥).
      ap (λ (i : List ℕ). at i x) (write_refused y R img offset bytes z) ∙ e
      ∙ sym (ap (λ (i : List ℕ). at i x) (write_refused y R img' offset bytes (also (λ n. range_refusal y R n offset (length bytes)) z))))

  pub write_agree : (offset : ℕ) (bytes : List ℕ) → Agree y R (write_image y R img offset bytes) (write_image y R img' offset bytes)
  write_agree offset bytes =
      equal_or_not (range_refusal y R (length img) offset (length bytes)) 0
      (λ (z : range_refusal y R (length img) offset (length bytes) ≡ 0).
      let s = (range_asked y R (length img) offset (length bytes) z).0 in
      record {
        same_length = write_length y R img' offset bytes ∙ a.same_length ∙ sym (write_length y R img offset bytes);
        present = λ s'. after s;
      })
      (λ (z : range_refusal y R (length img) offset (length bytes) ≡ 0 → ⊥).
      subst (λ (i : List ℕ). Agree y R i (write_image y R img' offset bytes)) (sym (write_refused y R img offset bytes z))
      (subst (λ (i : List ℕ). Agree y R img i) (sym (write_refused y R img' offset bytes (also (λ n. range_refusal y R n offset (length bytes)) z))) a))
    where
      after : Sound y R (length img) → (g o c : ℕ) → g < all_groups y → o < y.u → c < contents y → missing y R g c ≡ false
          → stored y R (write_image y R img offset bytes) g o c ≡ stored y R (write_image y R img' offset bytes) g o c
      after s g o c hg ho hc m =
          unfold stored in
          write_blind offset bytes (home_spot y R g o c)
          (subst (λ (n : ℕ). home_spot y R g o c < n) (sym s.len_is) (home-spot-lt y R s.valid s.good g o c hg ho hc))
          (a.present s g o c hg ho hc m)

  -- ---- repair: the same, and they agree on the spares that become homes

  pub repair_blind : (x : ℕ) → x < length img → at img x ≡ at img' x → at (repair_image y R img) x ≡ at (repair_image y R img') x
  repair_blind x h e =
      equal_or_not (repair_refusal y R (length img)) 0
      (λ (z : repair_refusal y R (length img) ≡ 0).
      let s = repair_asked y R (length img) z in
      ap (λ (i : List ℕ). at i x) (repair_accepted y R img z)
      ∙ storing_same y s.valid R R.k _ _ img s.len_is _ img' a.same_length
      (λ g o c hg ho hc. content_blind s g o c hg ho hc) x h e
      ∙ sym (ap (λ (i : List ℕ). at i x) (repair_accepted y R img' (too (repair_refusal y R) z))))
      (λ (z : repair_refusal y R (length img) ≡ 0 → ⊥).
      ap (λ (i : List ℕ). at i x) (repair_refused y R img z) ∙ e
      ∙ sym (ap (λ (i : List ℕ). at i x) (repair_refused y R img' (also (repair_refusal y R) z))))

  pub mended_agree : repair_refusal y R (length img) ≡ 0 → Agree y (mended R) (repair_image y R img) (repair_image y R img')
  mended_agree z =
      let s = repair_asked y R (length img) z in
      record {
        same_length = repair_length y R img' ∙ a.same_length ∙ sym (repair_length y R img);
        present = λ s' g o c hg ho hc m'.
            stored-mended y R img z g o c hg ho hc
            ∙ ⊎_elim
            (λ (m : missing y R g c ≡ true).
            pick_true (missing y R g c) _ _ m ∙ content_blind s g o c hg ho hc ∙ sym (pick_true (missing y R g c) _ _ m))
            (λ (m : missing y R g c ≡ false).
            pick-false (missing y R g c) _ _ m ∙ stored_stays y R img s g o c m ∙ a.present s g o c hg ho hc m ∙ sym (stored_stays y R img' s g o c m)
            ∙ sym (pick-false (missing y R g c) _ _ m))
            (either_way (missing y R g c))
            ∙ sym (stored-mended y R img' (too (repair_refusal y R) z) g o c hg ho hc);
      }

  pub repair_agree : Agree y (repair_record y R (length img)) (repair_image y R img) (repair_image y R img')
  unfolding repair_record
  repair_agree =
      grant-either (repair_refusal y R (length img)) (mended R) R (λ (S : Record). Agree y S (repair_image y R img) (repair_image y R img')) mended_agree
      (λ z.
      subst (λ (i : List ℕ). Agree y R i (repair_image y R img')) (sym (repair_refused y R img z))
      (subst (λ (i : List ℕ). Agree y R img i) (sym (repair_refused y R img' (also (repair_refusal y R) z))) a))

  -- ---- fail: less is present afterwards

  grown_agree : (t : ℕ) → Sound y R (length img) → Agree y (grown y R t) img img'
  unfolding stored
  grown_agree t s =
      let le = s.good.mended in
      record {
        same_length = a.same_length;
        present = λ s' g o c hg ho hc m.
            ap (λ (u : ℕ). at img (spot y g u o)) (home-grown y R t R.q g c le) ∙ a.present s g o c hg ho hc (present-grown y R t g c le m)
            ∙ sym (ap (λ (u : ℕ). at img' (spot y g u o)) (home-grown y R t R.q g c le));
      }

  pub fail_agree : (t : ℕ) → Agree y (fail_record y R (length img) t) img img'
  unfolding fail_record
  fail_agree t =
      grant-either (fail_refusal y R (length img) t) (grown y R t) R (λ (S : Record). Agree y S img img')
      (λ z. grown_agree t (fail_asked y R (length img) t z).sound) (λ z. a)

  -- ---- a look

  pub prepare_blind : (room g c : ℕ) → look_scratch y R img room g c ≡ look_scratch y R img' room g c
  unfolding look_scratch
  prepare_blind room g c =
      equal_or_not (look_refusal y R (length img) room g c) 0
      (λ (z : look_refusal y R (length img) room g c ≡ 0).
      let s = look_asked y R (length img) room g c z in
      let u = s.room_is in
      grant_yes (look_refusal y R (length img) room g c) _ _ z
      ∙ tabulate_ext 0 room _ _
      (λ o b. ap (λ (x : ℕ). pick (missing y R g c) x 0) (content_blind s.sound g o c s.group_lt (omega arith) s.content-lt))
      ∙ sym (grant_yes (look_refusal y R (length img') room g c) _ _ (too (λ n. look_refusal y R n room g c) z)))
      (λ (z : look_refusal y R (length img) room g c ≡ 0 → ⊥).
      grant_no (look_refusal y R (length img) room g c) _ (zeros room) z
      ∙ sym (grant_no (look_refusal y R (length img') room g c) _ (zeros room) (also (λ n. look_refusal y R n room g c) z)))

  pub show_blind : (scratch : List ℕ) (g c : ℕ) → look_shown y R img scratch g c ≡ look_shown y R img' scratch g c
  unfolding look_shown
  show_blind scratch g c =
      equal_or_not (look_refusal y R (length img) (length scratch) g c) 0
      (λ (z : look_refusal y R (length img) (length scratch) g c ≡ 0).
      let s = look_asked y R (length img) (length scratch) g c z in
      let s' = look_asked y R (length img') (length scratch) g c (too (λ n. look_refusal y R n (length scratch) g c) z) in
      grant_yes (look_refusal y R (length img) (length scratch) g c) _ [] z
      ∙ ⊎_elim
      (λ (m : missing y R g c ≡ true). pick_true (missing y R g c) scratch _ m ∙ sym (pick_true (missing y R g c) scratch _ m))
      (λ (m : missing y R g c ≡ false).
      pick-false (missing y R g c) scratch _ m
      ∙ part-stored y R img s.sound g c s.group_lt s.content-lt
      ∙ tabulate_ext 0 y.u _ _ (λ o h. a.present s.sound g o c s.group_lt h s.content-lt m)
      ∙ sym (part-stored y R img' s'.sound g c s.group_lt s.content-lt)
      ∙ sym (pick-false (missing y R g c) scratch _ m))
      (either_way (missing y R g c))
      ∙ sym (grant_yes (look_refusal y R (length img') (length scratch) g c) _ [] (too (λ n. look_refusal y R n (length scratch) g c) z)))
      (λ (z : look_refusal y R (length img) (length scratch) g c ≡ 0 → ⊥).
      grant_no (look_refusal y R (length img) (length scratch) g c) _ [] z
      ∙ sym (grant_no (look_refusal y R (length img') (length scratch) g c) _ [] (also (λ n. look_refusal y R n (length scratch) g c) z)))

  -- ---- whatever is scribbled on failed targets

  pub scribble_agree : (ink ink' : ℕ → ℕ) → Sound y R (length img) → Agree y R (scribbled y R img ink) (scribbled y R img' ink')
  scribble_agree ink ink' s =
      record {
        same_length = scribble_length y R img' ink' ∙ a.same_length ∙ sym (scribble_length y R img ink);
        present = λ s' g o c hg ho hc m.
            scribble_stored y R s.valid s.good img ink s.len_is g o c hg ho hc m ∙ a.present s g o c hg ho hc m
            ∙ sym (scribble_stored y R s.valid s.good img' ink' (a.same_length ∙ s.len_is) g o c hg ho hc m);
      }
