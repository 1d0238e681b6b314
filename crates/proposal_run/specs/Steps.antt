-- A plan entry by entry, in its own order: what one entry stores, and that one after another they come to the whole. Sources are present contents,
-- and no entry stores at the home of one: so each may be read from the image that is being written.
use Rattle.std.specs.Prelude.{◌≡◌, refl, Bool, true, false, List, ℕ, ◌+◌, ◌<◌, ◌≤◌, ltb, length}
use Rattle.std.proofs.Math.Path.{sym, ap}
use Rattle.std.proofs.Common.{ap₂, ◌∙◌, subst, ⊎_elim, add-one, arith, ltb-true, lt-ltb, ext_get_or}
use Rattle.lists.specs.Pick.{pick, both, both_true, both_hold, pick_true, pick-false, clash, either_way, not-both_ways, same_truth}
use Rattle.lists.specs.Search.{any, any-true, lowest, lowest_is}
use Rattle.lists.specs.Tabulate.{at}
use Rattle.numbers.specs.declared.Layout.{Layout}
use Rattle.numbers.specs.Layouts.{Valid, all_groups, contents, image_length}
use Rattle.place.specs.Bytes.{spot, unit_here, offset_here}
use Rattle.place.specs.ByteLaws.{group_there, unit_there', spot-here, group_here-lt, offset_here-lt}
use Rattle.parity.specs.Group.{rebuilt}
use Rattle.parity.specs.Local.{rebuilt_cong}
use Rattle.homes.specs.declared.Record.{Record}
use Rattle.homes.specs.Records.{Good}
use Rattle.homes.specs.Missing.{home, missing}
use Rattle.homes.proofs.MissingLaws.{home-lt, home_stays}
use Rattle.pool.specs.Contents.{stored}
use Rattle.pool.specs.Storing.{owner, storing}
use Rattle.pool.specs.Repairing.{mends}
use Rattle.pool.specs.StoringLaws.{group_here, owner_here, owner-home, home-owner, storing_cell, storing-at, storing-length, storing-none, storing_alike}
use Rattle.proposal.specs.Plans.{entries, group_named, content_named, names, Accepts}
use Rattle.proposal.specs.Accepted.{named_below, names-true, names_hold}
use Rattle.proposal.specs.Running.{named_by, unused, planned_byte, planned_image}
use Rattle.proposal.specs.RunningLaws.{named_by_entry, plan_solvable, used-present}

-- what entry i stores: the content that it names, at its home under the whole list, rebuilt from the entry's sources
unfoldable pub entry_byte : Layout → Record → List ℕ → ℕ → List ℕ → ℕ → ℕ → ℕ → ℕ
entry_byte y R plan i img g o c = rebuilt y.n y.k (unused y plan i) (stored y R img g o) c

unfoldable pub entry_image : Layout → Record → List ℕ → ℕ → List ℕ → List ℕ
entry_image y R plan i img = storing y R R.k (λ g o c. names y plan i g c) (entry_byte y R plan i img) img

-- the image once the first e entries are run
unfoldable pub ran_to : Layout → Record → List ℕ → List ℕ → ℕ → List ℕ
ran_to y R plan img e = storing y R R.k (λ g o c. named_below y plan e g c) (planned_byte y R plan img) img

pub ran_length : (y : Layout) (R : Record) (plan img : List ℕ) (e : ℕ) → length (ran_to y R plan img e) ≡ length img
unfolding ran_to
ran_length y R plan img e = storing-length y R R.k _ _ img

pub ran_none : (y : Layout) (R : Record) (plan img : List ℕ) → ran_to y R plan img 0 ≡ img
unfolding ran_to named_below any
ran_none y R plan img = storing-none y R R.k _ _ img (λ g o c. refl)

named_next : (y : Layout) (plan : List ℕ) (e g c : ℕ) → named_below y plan (e + 1) g c ≡ pick (names y plan e g c) true (named_below y plan e g c)
unfolding named_below any
named_next y plan e g c = ap (any (λ i. names y plan i g c)) (add-one e)

-- one cell: stored by this entry, or by one before it, or not at all
cell_next : (t a b : Bool) (x w old : ℕ) → (t ≡ true → a ≡ true → x ≡ w) → pick (both t a) x (pick (both t b) w old) ≡ pick (both t (pick a true b)) w old
cell_next true true b x w old h = h refl refl
cell_next true false b x w old h = refl
cell_next false a b x w old h = refl

ran_cell : (y : Layout) (R : Record) (plan img : List ℕ) (e x : ℕ) → x < length img
    → at (ran_to y R plan img e) x
    ≡ pick (both (ltb (owner_here y R R.k x) (contents y)) (named_below y plan e (group_here y x) (owner_here y R R.k x)))
    (planned_byte y R plan img (group_here y x) (offset_here y x) (owner_here y R R.k x)) (at img x)
unfolding ran_to
ran_cell y R plan img e x h = storing_cell y R R.k (λ g o c. named_below y plan e g c) (planned_byte y R plan img) img x h

entry_cell : (y : Layout) (R : Record) (plan : List ℕ) (i : ℕ) (img : List ℕ) (x : ℕ) → x < length img
    → at (entry_image y R plan i img) x
    ≡ pick (both (ltb (owner_here y R R.k x) (contents y)) (names y plan i (group_here y x) (owner_here y R R.k x)))
    (entry_byte y R plan i img (group_here y x) (offset_here y x) (owner_here y R R.k x)) (at img x)
unfolding entry_image
entry_cell y R plan i img x h = storing_cell y R R.k (λ g o c. names y plan i g c) (entry_byte y R plan i img) img x h

pub entry_same : (y : Layout) (R : Record) (plan : List ℕ) (i : ℕ) (img : List ℕ) → length (entry_image y R plan i img) ≡ length img
unfolding entry_image
entry_same y R plan i img = storing-length y R R.k _ _ img

module _ (y : Layout) (R : Record) (plan img : List ℕ) (v : Valid y) (r : Good y R) (k : Accepts y R plan) (len : length img ≡ image_length y) where
  -- only missing contents are named
  named-missing : (e g c : ℕ) → e ≤ entries y plan → named_below y plan e g c ≡ true → missing y R g c ≡ true
  unfolding named_below
  named-missing e g c le t =
      let w = lowest_is (λ i. names y plan i g c) e t in
      let n = names-true y plan _ g c w.1 in
      let h : lowest (λ i. names y plan i g c) e < entries y plan = omega (arith, w.0) in
      sym (ap₂ (missing y R) n.0 n.1) ∙ k.is_missing _ h

  -- so present contents stand as they stood
  pub present_stays : (e g o u : ℕ) → e ≤ entries y plan → g < all_groups y → o < y.u → u < contents y → missing y R g u ≡ false
      → stored y R (ran_to y R plan img e) g o u ≡ stored y R img g o u
  unfolding stored ran_to
  present_stays e g o u le hg ho hu m =
      let here : spot y g (home y R R.q g u) o ≡ spot y g (home y R R.k g u) o = ap (λ (w : ℕ). spot y g w o) (sym (home_stays y v R g r.mended u m)) in
      ap (at (storing y R R.k (λ g o c. named_below y plan e g c) (planned_byte y R plan img) img)) here
      ∙ storing-at y v R R.k _ _ img len r.few g o u hg ho hu
      ∙ pick-false (named_below y plan e g u) _ _ (not-both_ways (named_below y plan e g u) (λ t. clash (missing y R g u) (named-missing e g u le t) m))
      ∙ sym (ap (at img) here)

  -- an entry is the one that names its content
  by_entry : (e g c : ℕ) → e < entries y plan → names y plan e g c ≡ true → named_by y plan g c ≡ e
  by_entry e g c h t = let n = names-true y plan e g c t in sym (ap₂ (named_by y plan) n.0 n.1) ∙ named_by_entry y R plan k e h

  -- what an entry rebuilds from the image that is being written
  entry_byte_lem : (e g o c : ℕ) → e < entries y plan → g < all_groups y → o < y.u → c < contents y → names y plan e g c ≡ true
      → entry_byte y R plan e (ran_to y R plan img e) g o c ≡ planned_byte y R plan img g o c
  unfolding entry_byte planned_byte
  entry_byte_lem e g o c h hg ho hc t =
      rebuilt_cong y.n y.k (unused y plan e) (plan_solvable y R plan k v e h) (stored y R (ran_to y R plan img e) g o) (stored y R img g o)
      (λ u b m. present_stays e g o u (omega arith) hg ho b (ap (λ (q : ℕ). missing y R q u) (sym (names-true y plan e g c t).0) ∙ used-present y R plan k e u h m)) c hc
      ∙ ap (λ (i : ℕ). rebuilt y.n y.k (unused y plan i) (stored y R img g o) c) (sym (by_entry e g c h t))

  -- one entry more
  pub ran_next : (e : ℕ) → e < entries y plan → entry_image y R plan e (ran_to y R plan img e) ≡ ran_to y R plan img (e + 1)
  ran_next e h =
      ext_get_or 0 (entry_image y R plan e (ran_to y R plan img e)) (ran_to y R plan img (e + 1))
      (entry_length ∙ sym (ran_length y R plan img (e + 1)))
      (λ x b. cell x (subst (λ (m : ℕ). x < m) entry_length b))
    where
      entry_length : length (entry_image y R plan e (ran_to y R plan img e)) ≡ length img
      entry_length = entry_same y R plan e (ran_to y R plan img e) ∙ ran_length y R plan img e

      cell : (x : ℕ) → x < length img → at (entry_image y R plan e (ran_to y R plan img e)) x ≡ at (ran_to y R plan img (e + 1)) x
      cell x b =
          let g = group_here y x in
          let o = offset_here y x in
          let c = owner_here y R R.k x in
          let hg : g < all_groups y = group_here-lt y v x (subst (λ (m : ℕ). x < m) len b) in
          let t = ltb c (contents y) in
          entry_cell y R plan e (ran_to y R plan img e) x (subst (λ (m : ℕ). x < m) (sym (ran_length y R plan img e)) b)
          ∙ ap (pick (both t (names y plan e g c)) (entry_byte y R plan e (ran_to y R plan img e) g o c)) (ran_cell y R plan img e x b)
          ∙ cell_next t (names y plan e g c) (named_below y plan e g c) _ (planned_byte y R plan img g o c) (at img x)
          (λ q n. entry_byte_lem e g o c h hg (offset_here-lt y v x) (ltb-true c (contents y) q) n)
          ∙ ap (λ (z : Bool). pick (both t z) (planned_byte y R plan img g o c) (at img x)) (sym (named_next y plan e g c))
          ∙ sym (ran_cell y R plan img (e + 1) x b)

  -- all of them, in whatever order they stand
  pub ran_all : ran_to y R plan img (entries y plan) ≡ planned_image y R plan img
  unfolding ran_to
  ran_all =
      storing_alike y v R R.k _ (mends y R) _ _ img len
      (λ g o c hg ho hc. same_truth _ _ (named-missing (entries y plan) g c (omega arith))
      (λ t. let w = k.named g c hg hc t in unfold named_below in any-true (λ i. names y plan i g c) (entries y plan) w.by w.by_lt (names_hold y plan w.by g c w.group_is w.content_is)))
      (λ g o c hg ho hc t. refl)

-- ---- one entry in the image, byte by byte: what its code leaves

pub record EntryLaid (y : Layout) (R : Record) (plan : List ℕ) (i : ℕ) (img img' : List ℕ) : Type 0 where
  pub same : length img' ≡ length img
  pub hit : (o : ℕ) → o < y.u
      → at img' (spot y (group_named y plan i) (home y R R.k (group_named y plan i) (content_named y plan i)) o)
      ≡ entry_byte y R plan i img (group_named y plan i) o (content_named y plan i)
  pub miss : (x : ℕ) → x < length img
      → ((o : ℕ) → o < y.u → x ≡ spot y (group_named y plan i) (home y R R.k (group_named y plan i) (content_named y plan i)) o → ⊥)
      → at img' x ≡ at img x

module _ (y : Layout) (R : Record) (plan img img' : List ℕ) (i : ℕ) (v : Valid y) (few : R.k ≤ y.k) (hg : group_named y plan i < all_groups y)
    (hc : content_named y plan i < contents y) (len : length img ≡ image_length y) (l : EntryLaid y R plan i img img') where
  pub entry-laid : img' ≡ entry_image y R plan i img
  entry-laid =
      ext_get_or 0 img' (entry_image y R plan i img) (l.same ∙ sym (entry_same y R plan i img))
      (λ x b. cell x (subst (λ (m : ℕ). x < m) l.same b))
    where
      g : ℕ
      g = group_named y plan i

      c : ℕ
      c = content_named y plan i

      test : ℕ → Bool
      test x = both (ltb (owner_here y R R.k x) (contents y)) (names y plan i (group_here y x) (owner_here y R R.k x))

      there : (x o : ℕ) → o < y.u → x ≡ spot y g (home y R R.k g c) o → test x ≡ true
      there x o ho e =
          let hu = home-lt y v R g R.k few c hc in
          let eg : group_here y x ≡ g = ap (group_here y) e ∙ group_there y v g (home y R R.k g c) o hg hu ho in
          let eu : (unit_here y x).unit ≡ home y R R.k g c = ap (λ (z : ℕ). (unit_here y z).unit) e ∙ unit_there' y v g (home y R R.k g c) o hg hu ho in
          let ec : owner_here y R R.k x ≡ c = ap₂ (owner y R R.k) eg eu ∙ owner-home y v R g R.k few c hc in
          both_hold (ltb (owner_here y R R.k x) (contents y)) _ (lt-ltb _ _ (subst (λ (z : ℕ). z < contents y) (sym ec) hc))
          (names_hold y plan i _ _ (sym eg) (sym ec))

      cell : (x : ℕ) → x < length img → at img' x ≡ at (entry_image y R plan i img) x
      cell x h =
          ⊎_elim
          (λ (t : test x ≡ true).
          let b = both_true (ltb (owner_here y R R.k x) (contents y)) _ t in
          let n = names-true y plan i _ _ b.1 in
          let o = offset_here y x in
          let e : x ≡ spot y (group_here y x) (home y R R.k (group_here y x) (owner_here y R R.k x)) o =
          sym (ap (λ (u : ℕ). spot y (group_here y x) u o) (home-owner y R (group_here y x) R.k (unit_here y x).unit (ltb-true _ _ b.0))
          ∙ spot-here y v x (subst (λ (m : ℕ). x < m) len h)) in
          ap (at img') e
          ∙ ap₂ (λ (a d : ℕ). at img' (spot y a (home y R R.k a d) o)) (sym n.0) (sym n.1)
          ∙ l.hit o (offset_here-lt y v x)
          ∙ ap₂ (λ (a d : ℕ). entry_byte y R plan i img a o d) n.0 n.1
          ∙ sym (entry_cell y R plan i img x h ∙ pick_true (test x) _ _ t))
          (λ (t : test x ≡ false).
          l.miss x h (λ o ho e. clash (test x) (there x o ho e) t)
          ∙ sym (entry_cell y R plan i img x h ∙ pick-false (test x) _ _ t))
          (either_way (test x))
