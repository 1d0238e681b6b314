-- Document 02, order 10: a swapped drive is taken back. "Target d, now a new drive, leaves the failure list, the others in order. Allowed only if q = k; else
-- number 16. A target not in the list is 11." A swap is an event of demand 3's runs (`Runs`, `Demand3`, `Calls`); here stands what is its own.
use Rattle.std.specs.Prelude.{◌≡◌, ◌⊎◌, Bool, true, false, eqb, ltb, length}
use Rattle.std.proofs.Math.Path.{refl, ap, subst⁻¹}
use Rattle.std.proofs.Common.{sym, ◌∙◌, subst, arith}
use mathlib.Core.List.{List, [], ◌∷◌}
use Prim.Native.Nat.{ℕ, zero, suc, ◌≤◌, ◌<◌}
use Rattle.lists.specs.Pick.{clash, same_truth}
use Rattle.lists.specs.Tabulate.{at}
use Rattle.lists.specs.Refusal.{LowestThatApplies, refusal_by, grant, grant_yes, grant-either}
use Rattle.numbers.specs.declared.Layout.{Layout}
use Rattle.numbers.specs.Layouts.{Valid, all_groups, contents, all_contents}
use Rattle.place.specs.Bytes.{spot, target_here, unit_here}
use Rattle.homes.specs.declared.Record.{Record}
use Rattle.homes.specs.Listed.{listed}
use Rattle.homes.specs.Records.{entry, failed}
use Rattle.homes.specs.Dropping.{list_place, entry_without, without}
use Rattle.homes.specs.DroppingLaws as D
use Rattle.homes.specs.Missing.{home, missing}
use Rattle.homes.proofs.MissingLaws.{home-own}
use Rattle.pool.specs.Contents.{stored}
use Rattle.pool.specs.Counting.{TrueCount}
use Rattle.pool.specs.Refusals.{fail_refusal, repair_refusal}
use Rattle.pool.specs.Failing.{grown, fail_record}
use Rattle.pool.specs.Repairing.{mended, repair_record, repair_image}
use Rattle.pool.specs.Storing.{owner, storing}
use Rattle.pool.specs.Scribbling.{scribbled}
use Rattle.pool.specs.ScribbleHolds.{scribble_any}
use Rattle.pool.specs.Files.{encoded}
use Rattle.pool.specs.Asked.{sound-passes}
use Rattle.pool.specs.Calls.{Fails, Repairs}
use Rattle.pool.specs.Elsewhere.{AgreeElsewhere, agree_of}
use Rattle.pool.specs.Unread.{Alike}
use Rattle.swapping.specs.Swapping.{swap_refusal, swap_image, swap_record, NewHome, Swaps}
use Rattle.swapping.specs.SwapLaws as S
use Rattle.swapping.proofs.SwapLaws as SProofs
use Rattle.swapping.specs.SwapLaws.{SwapAsked}
use Rattle.swapping.proofs.SwapHolds as H
use Rattle.swapping.specs.SwapBack.{Back}
use Rattle.swapping.proofs.SwapBackLaws.{back_again}
use Rattle.swapping.proofs.SwapUnread as U
use Rattle.promises.specs.Refusals.{pool_table}
use Rattle.promises.specs.Tight.{same}
use Rattle.promises.specs.Counts.{recounted, tests_same}
use Rattle.promises.specs.Runs.{Event, fail, State, start, step}
use Rattle.promises.specs.RunLaws.{Inside, inside-sound, stepped}
use Rattle.promises.specs.Calls.{Reaches, reached_inside}

-- R' is R without target d, "the others in order"; "k and q are both one lower, the freed entry is 0", and the count stays what it is
pub record Shorter (R : Record) (d : ℕ) (R' : Record) : Type 0 where
  pub one_lower : (suc R'.k ≡ R.k) × (suc R'.q ≡ R.q)
  pub place : ℕ
  pub stood_there : (place < R.k) × (entry R place ≡ d)
  pub ahead : (i : ℕ) → i < place → entry R' i ≡ entry R i
  pub behind : (i : ℕ) → place ≤ i → i < R'.k → entry R' i ≡ entry R (suc i)
  pub freed : entry R' R'.k ≡ 0
  pub beyond : (i : ℕ) → R.k ≤ i → i < 3 → entry R' i ≡ entry R i
  pub count_stays : R'.waiting ≡ R.waiting

-- a test that cannot be off is on
still : (a b : Bool) → b ≡ true → (a ≡ false → b ≡ false) → a ≡ true
still true b h f = refl
still false b h f = clash b h (f refl)

-- ---- the call, of any outcome that its promise allows, on any image

module _ (y : Layout) (R : Record) (img : List ℕ) (target n : ℕ) (R' : Record) (img' : List ℕ) (p : Swaps y R img target n R' img') where
  abbrev swap_table : List (Bool × ℕ)
  swap_table = pool_table y R (length img) ((ltb target y.p, 4) ∷ (failed R target, 11) ∷ (eqb R.q R.k, 16) ∷ [])

  pub swap_lowest : LowestThatApplies swap_table n
  swap_lowest = subst⁻¹ (LowestThatApplies swap_table) p.answer (SProofs.swap_lowest y R (length img) target)

  -- "any other refused call changes no byte and no record" (demand 1)
  pub swap_refused_unchanged : (n ≡ 0 → ⊥) → (img' ≡ img) × (R' ≡ R)
  swap_refused_unchanged never =
      let u = SProofs.swap_refused_unchanged y R target img (λ z. never (p.answer ∙ z)) in
      (p.image ∙ u.0, p.rec ∙ u.1)

  -- accepted exactly if layout, length and record are good, the target is in the list, and q = k
  pub swap_given : n ≡ 0 → SwapAsked y R (length img) target
  swap_given z = SProofs.swap_asked y R (length img) target (sym p.answer ∙ z)

  pub swap_accepts : SwapAsked y R (length img) target → n ≡ 0
  swap_accepts a = p.answer ∙ SProofs.swap_granted y R (length img) target a

  -- "only bytes of new homes change",
  pub swap_changes_only : (x : ℕ) → x < length img → (at img' x ≡ at img x) ⊎ NewHome y R target x
  swap_changes_only x h = subst⁻¹ (λ (l : List ℕ). (at l x ≡ at img x) ⊎ NewHome y R target x) p.image (SProofs.swap_changes y R target img x h)

  -- whatever the answer, the count stays what it is, and a true one true
  pub swap_count_stays : R'.waiting ≡ R.waiting
  unfolding swap_record
  swap_count_stays =
      ap (λ (T : Record). T.waiting) p.rec
      ∙ grant-either (swap_refusal y R (length img) target) (without R target) R (λ (T : Record). T.waiting ≡ R.waiting) (λ z. refl) (λ z. refl)

  pub swap_keeps_true : TrueCount y R → TrueCount y R'
  swap_keeps_true e = subst⁻¹ (TrueCount y) p.rec (H.swap_keeps_true y R target (length img) e)

  -- ---- accepted

  module _ (z : n ≡ 0) where
    abbrev asked : SwapAsked y R (length img) target
    asked = swap_given z

    abbrev few : R.k ≤ 3
    few = S.few-entries y R target asked

    rec_is : R' ≡ without R target
    rec_is = p.rec ∙ SProofs.swap_record_lem y R target img (sym p.answer ∙ z)

    shorter : Shorter R target (without R target)
    shorter =
        let lt = D.place-lt R target few asked.is_failed in
        record {
          one_lower = (omega (arith, lt), omega (arith, lt, asked.repaired));
          place = list_place R target;
          stood_there = (lt, D.place_holds R target few asked.is_failed);
          ahead = λ i h. D.entry-without R target few asked.is_failed i (omega (arith, lt)) ∙ ap (entry R) (D.skip-low (list_place R target) i h);
          behind = λ i l h. D.entry-without R target few asked.is_failed i h ∙ ap (entry R) (D.skip_high (list_place R target) i l);
          freed = D.entry_freed R target few asked.is_failed;
          beyond = D.entry_beyond R target few asked.is_failed;
          count_stays = refl;
        }

    -- "Target d .. leaves the failure list, the others in order"
    pub swap_list : Shorter R target R'
    swap_list = subst⁻¹ (Shorter R target) rec_is shorter

    -- it counts as failed no more, and the others as before
    pub swap_takes_back : failed R' target ≡ false
    swap_takes_back = ap (λ (T : Record). failed T target) rec_is ∙ D.taken_back R target few asked.is_failed y asked.sound.good

    pub swap_others_stay : (t : ℕ) → (t ≡ target → ⊥) → failed R' t ≡ failed R t
    swap_others_stay t ne =
        ap (λ (T : Record). failed T t) rec_is
        ∙ same_truth (failed (without R target) t) (failed R t) still_listed was_listed
      where
        was_listed : failed R t ≡ true → failed (without R target) t ≡ true
        was_listed h = still (failed (without R target) t) (failed R t) h (D.others_alive R target few asked.is_failed t ne)

        still_listed : failed (without R target) t ≡ true → failed R t ≡ true
        still_listed h = still (failed R t) (failed (without R target) t) h (D.alive_stays R target few asked.is_failed t)

    -- so another may fail: "the limit K is on drives failed at one time"
    pub swap_makes_room : R'.k < y.k
    swap_makes_room = omega (arith, swap_list.one_lower.0, asked.sound.good.few)

    -- "Every content's bytes go from its old home to its new one"
    pub swap_moves : (g o c : ℕ) → g < all_groups y → o < y.u → c < contents y → stored y R' img' g o c ≡ stored y R img g o c
    swap_moves g o c hg ho hc =
        (λ i. stored y (rec_is i) (p.image i) g o c) ∙ SProofs.stored_swapped y R target img (sym p.answer ∙ z) g o c hg ho hc

    -- nothing is missing
    pub swap_leaves_none : (g c : ℕ) → c < contents y → missing y R' g c ≡ false
    swap_leaves_none g c hc = ap (λ (T : Record). missing y T g c) rec_is ∙ S.none_after y R target asked g c hc

    -- ".. on d and on unused spares too": a new home is on the target, or it is a spare of its group,
    pub swap_where : (x : ℕ) → NewHome y R target x → (target_here y x ≡ target) ⊎ (contents y ≤ (unit_here y x).unit)
    swap_where = SProofs.new-home_where y R target img asked

    -- on the target alone where no other is in the list,
    pub swap_where_alone : R.k ≡ 1 → (x : ℕ) → NewHome y R target x → target_here y x ≡ target
    swap_where_alone = SProofs.new-home-alone y R target img asked

    -- and no byte of a target that is still failed changes
    pub swap_leaves_failed : (x : ℕ) → x < length img → failed R' (target_here y x) ≡ true → at img' x ≡ at img x
    swap_leaves_failed x h f =
        ap (λ (l : List ℕ). at l x) p.image
        ∙ SProofs.swap_spares_failed y R target img x h (ap (λ (T : Record). failed T (target_here y x)) (sym rec_is) ∙ f)

pub swap_tight : (y : Layout) (R : Record) (img : List ℕ) (target n n' : ℕ) (T T' : Record) (i i' : List ℕ) → Swaps y R img target n T i → Swaps y R img target n' T' i'
    → (n ≡ n') × (T ≡ T') × (i ≡ i')
swap_tight y R img target n n' T T' i i' p q = (same p.answer q.answer, same p.rec q.rec, same p.image q.image)

-- ---- on a pool that demand 3 can reach: after any run of calls that keep their promises, from zeros and an empty list

module _ (y : Layout) (valid : Valid y) (room : List ℕ) (three : length room ≡ 3) (es : List Event) (s : State) (reached : Reaches y (start y room) es s) where
  inside : Inside y s
  inside = reached_inside y valid room three es s reached

  -- ".. which on a pool that demand 3 can reach is what encoding afresh would put there": every content, since none is missing. "the new drive's bytes may be
  -- anything before the call": `img` is any image that differs from the pool's on failed drives alone
  pub swapped_encodes : (img : List ℕ) → length img ≡ length s.img → ((x : ℕ) → x < length s.img → failed s.rec (target_here y x) ≡ false → at img x ≡ at s.img x)
      → (target n : ℕ) (R' : Record) (img' : List ℕ) → Swaps y s.rec img target n R' img' → n ≡ 0
      → (g o c : ℕ) → g < all_groups y → o < y.u → c < contents y → stored y R' img' g o c ≡ encoded y s.file g o c
  swapped_encodes img len same-there target n R' img' p z g o c hg ho hc =
      (λ i. stored y (p.rec i) (p.image i) g o c)
      ∙ (H.swap_any_drive y s.rec target s.img img s.file valid inside.kept.good inside.holds len same-there).present g o c hg ho hc
      (ap (λ (T : Record). missing y T g c) (sym p.rec) ∙ swap_leaves_none y s.rec img target n R' img' p z g c hc)

  -- a drive fails where all were repaired, the pool is repaired, others put any bytes on the new drive, and it is taken back: accepted each time, and every
  -- content is back at the home that it had, with the bytes that stood there; reads are as before
  module _ (repaired : s.rec.q ≡ s.rec.k) (target : ℕ) (R₁ : Record) (fails : Fails y s.rec s.img target 0 R₁) (n₂ count : ℕ) (R₂ : Record) (img₂ : List ℕ)
      (repairs : Repairs y R₁ s.img n₂ count R₂ img₂) (img₃ : List ℕ) (long : length img₃ ≡ length img₂)
      (same-there : (x : ℕ) → x < length img₂ → failed R₂ (target_here y x) ≡ false → at img₃ x ≡ at img₂ x)
      (n₄ : ℕ) (R₄ : Record) (img₄ : List ℕ) (swaps : Swaps y R₂ img₃ target n₄ R₄ img₄) where
    fails_is : fail_refusal y s.rec (length s.img) target ≡ 0
    fails_is = sym fails.answer

    lost_is : R₁ ≡ grown y s.rec target
    unfolding fail_record
    lost_is = fails.rec ∙ grant_yes (fail_refusal y s.rec (length s.img) target) (grown y s.rec target) s.rec fails_is

    repairs_is : repair_refusal y (grown y s.rec target) (length s.img) ≡ 0
    unfolding repair_refusal refusal_by step
    repairs_is =
        ap (λ (T : Record). repair_refusal y T (length s.img)) (sym lost_is ∙ fails.rec)
        ∙ sound-passes y (fail_record y s.rec (length s.img) target) (length s.img) (inside-sound y valid (step y s (fail target)) (stepped y valid s inside (fail target))) []

    whole_is : R₂ ≡ mended (grown y s.rec target)
    unfolding repair_record
    whole_is = repairs.rec ∙ ap (λ (T : Record). repair_record y T (length s.img)) lost_is ∙ grant_yes _ (mended (grown y s.rec target)) (grown y s.rec target) repairs_is

    drive_is : img₃ ≡ scribbled y (mended (grown y s.rec target)) (repair_image y (grown y s.rec target) s.img) (at img₃)
    drive_is =
        scribble_any y R₂ img₂ img₃ long same-there
        ∙ (λ i. scribbled y (whole_is i) ((repairs.image ∙ ap (λ (T : Record). repair_image y T s.img) lost_is) i) (at img₃))

    again : (swap_refusal y R₂ (length img₃) target ≡ 0) × Back y s.rec (without R₂ target) s.img (swap_image y R₂ img₃ target)
    again =
        subst⁻¹ (λ (T : Record). (swap_refusal y T (length img₃) target ≡ 0) × Back y s.rec (without T target) s.img (swap_image y T img₃ target)) whole_is
        (subst⁻¹ (λ (l : List ℕ).
        (swap_refusal y (mended (grown y s.rec target)) (length l) target ≡ 0)
        × Back y s.rec (without (mended (grown y s.rec target)) target) s.img (swap_image y (mended (grown y s.rec target)) l target)) drive_is
        (back_again y s.rec target s.img inside.kept repaired fails_is repairs_is s.file inside.holds (at img₃)))

    pub back_at-home : (n₂ ≡ 0) × (n₄ ≡ 0) × Back y s.rec R₄ s.img img₄
    back_at-home = (
      repairs.answer ∙ ap (λ (T : Record). repair_refusal y T (length s.img)) lost_is ∙ repairs_is,
      swaps.answer ∙ again.0,
      subst⁻¹ (λ (T : Record). Back y s.rec T s.img img₄) (swaps.rec ∙ SProofs.swap_record_lem y R₂ target img₃ again.0)
          (subst⁻¹ (Back y s.rec (without R₂ target) s.img) swaps.image again.1),
    )

    -- where nothing had failed, at its own place
    pub back_in_place : s.rec.q ≡ 0 → (g o c : ℕ) → g < all_groups y → o < y.u → c < contents y → at img₄ (spot y g c o) ≡ at s.img (spot y g c o)
    back_in_place none g o c hg ho hc =
        subst (λ (u : ℕ). at img₄ (spot y g u o) ≡ at s.img (spot y g u o)) (home-own y s.rec g s.rec.q c none) (back_at-home.2.bytes_back g o c hg ho hc)

-- ---- what a swap does not depend on: a failed target's bytes, the new drive's among them, and an unused spare's; it depends on no byte but those of contents,

pub swap_independent : (y : Layout) (R : Record) (img img' : List ℕ) → AgreeElsewhere y R img img' → (target : ℕ)
    → (swap_refusal y R (length img) target ≡ swap_refusal y R (length img') target)
    × (swap_record y R (length img) target ≡ swap_record y R (length img') target)
    × AgreeElsewhere y (swap_record y R (length img) target) (swap_image y R img target) (swap_image y R img' target)
swap_independent y R img img' agree target = (
  H.swap_number_agrees y R target img img' (agree_of y R img img' agree),
  ap (λ (n : ℕ). swap_record y R n target) (sym agree.same_length),
  H.swap_elsewhere y R target img img' agree,
)

-- nor a record's entries from k on,
pub swap_unread : (y : Layout) (R R' : Record) → Alike R R' → (img : List ℕ) (target : ℕ)
    → (swap_refusal y R (length img) target ≡ swap_refusal y R' (length img) target)
    × Alike (swap_record y R (length img) target) (swap_record y R' (length img) target)
    × (swap_image y R img target ≡ swap_image y R' img target)
swap_unread y R R' alike img target =
    (U.swap_number_unread y R R' alike target (length img), U.swap_record_unread y R R' alike target (length img), U.swap_image_unread y R R' alike target img)

-- nor, but for number 3 and the record handed back, its count (order 6); both counts are within the bound
module _ (y : Layout) (R : Record) (n : ℕ) (fits : R.waiting ≤ all_contents y) (fits' : n ≤ all_contents y) (img : List ℕ) (target : ℕ) where
  number_same : swap_refusal y R (length img) target ≡ swap_refusal y (recounted R n) (length img) target
  unfolding swap_refusal listed
  number_same = tests_same y R n fits fits' (length img) _

  pub swap_uncounted : (swap_refusal y R (length img) target ≡ swap_refusal y (recounted R n) (length img) target)
      × (swap_image y R img target ≡ swap_image y (recounted R n) img target)
      × (recounted (swap_record y R (length img) target) 0 ≡ recounted (swap_record y (recounted R n) (length img) target) 0)
  unfolding swap_image swap_record storing owner stored home entry_without
  swap_uncounted = (number_same, rw number_same, by (swap_refusal y R (length img) target) ∙ rw number_same (sym (by' (swap_refusal y (recounted R n) (length img) target))))
    where
      by : (m : ℕ) → recounted (grant m (without R target) R) 0 ≡ grant m (recounted (without R target) 0) (recounted R 0)
      by zero = refl
      by (suc m) = refl

      by' : (m : ℕ) → recounted (grant m (without (recounted R n) target) (recounted R n)) 0 ≡ grant m (recounted (without R target) 0) (recounted R 0)
      by' zero = refl
      by' (suc m) = refl
