-- The contents with their home on a target, counted by the frames of that target alone: L·T frames, where the pool has T·C·(N+K) contents.
use Rattle.std.specs.Prelude.{◌≡◌, refl, Bool, false, ℕ, ◌+◌, ◌*◌, ◌/◌, ◌%◌, ◌≤◌, ◌<◌, ltb}
use Rattle.std.proofs.Math.Path.{sym, ap}
use Rattle.std.proofs.Common.{◌∙◌, subst, mod-lt, zero-add, arith, eqb-true, eq-eqb, ne_eqb, lt-ltb, le-ltb}
use Rattle.std.proofs.Math.Bool.{true}
use Rattle.std.proofs.Math.Nat.{div-add-mod}
use Rattle.std.proofs.Math.Dec.{eqb}
use Rattle.lists.specs.Pick.{pick, pick_true, pick-false, below_or_not}
use Rattle.lists.specs.Search.{any-true, any_false, lowest_is}
use Rattle.lists.specs.Digits.{div_of, mod_of, digits_below, div_below}
use Rattle.lists.specs.Count.{count, count_same, sum_same, count_blocks, count-le}
use Rattle.lists.specs.Matched.{count_across}
use Rattle.numbers.specs.declared.Layout.{Layout}
use Rattle.numbers.specs.Layouts.{Valid, width, frames, all_groups, contents}
use Rattle.place.specs.declared.Place.{Place}
use Rattle.place.specs.declared.Unit.{Unit}
use Rattle.place.specs.Places.{place_of, unit_of}
use Rattle.place.specs.PlaceLaws.{place_in, unit_in_lem, there_and_back, back_and_there}
use Rattle.homes.specs.declared.Record.{Record}
use Rattle.homes.specs.Listed.{listed}
use Rattle.homes.specs.Homes.{homes}
use Rattle.homes.proofs.HomesLaws.{homes_stay}
use Rattle.homes.specs.Records.{entry, Good}
use Rattle.homes.specs.Missing.{target_at, home}
use Rattle.homes.proofs.MissingLaws.{home-own, home-lt}
use Rattle.pool.specs.Storing.{owner}
use Rattle.pool.specs.StoringLaws.{owner-home}
use Rattle.pool.specs.Elsewhere.{is_home}
use Rattle.pool.specs.Counting.{home_on, on_target}
use Rattle.pool.specs.FrameCount.{home_in, homes_in}

-- a unit that is a home is its owner's
pub home_owned : (y : Layout) (R : Record) (g u : ℕ) → is_home y R g u ≡ true
    → (owner y R R.q g u < contents y) × (home y R R.q g (owner y R R.q g u) ≡ u)
unfolding is_home owner
home_owned y R g u t = let r = lowest_is (λ c. eqb (home y R R.q g c) u) (contents y) t in (r.0, eqb-true _ _ r.1)

module _ (y : Layout) (v : Valid y) (R : Record) (good : Good y R) (t : ℕ) (target : t < y.p) where
  some : 0 < contents y
  some = omega arith

  few : R.q ≤ y.k
  few = omega (arith, good.few, good.mended)

  -- all contents in one row: number x is content x mod (N+K) of group x div (N+K)
  abbrev on_pair : ℕ → Bool
  on_pair x = home_on y R t (x / contents y) (x % contents y)

  -- the frame of a content's home, and the content whose home lies in a frame
  abbrev frame_for : ℕ → ℕ
  frame_for x = (place_of y (x / contents y) (home y R R.q (x / contents y) (x % contents y))).frame

  abbrev pair_in : ℕ → ℕ
  pair_in r = contents y * (unit_of y r t).group + owner y R R.q (unit_of y r t).group (unit_of y r t).unit

  pairs_are : on_target y R t ≡ count on_pair (contents y * all_groups y)
  unfolding on_target
  pairs_are =
      sum_same _ (λ g. count (λ c. on_pair (contents y * g + c)) (contents y)) (all_groups y)
      (λ g l. count_same _ _ (contents y) (λ c b. sym (λ i. home_on y R t (div_of (contents y) g b i) (mod_of (contents y) g b i))))
      ∙ count_blocks on_pair (contents y) (all_groups y)

  -- from a content to the frame of its home
  module _ (x : ℕ) (b : x < contents y * all_groups y) (on : on_pair x ≡ true) where
    abbrev g : ℕ
    g = x / contents y

    abbrev c : ℕ
    c = x % contents y

    abbrev u : ℕ
    u = home y R R.q g c

    c_lt : c < contents y
    c_lt = mod-lt x some

    g-lt : g < all_groups y
    g-lt = div_below x (contents y) (all_groups y) some b

    u-lt : u < width y
    u-lt = home-lt y v R g R.q few c c_lt

    lies_there : unit_of y (frame_for x) t ≡ record { group = g; unit = u }
    lies_there = ap (unit_of y (place_of y g u).frame) (sym (eqb-true _ _ on)) ∙ there_and_back y v g u u-lt

    to_frame : frame_for x < frames y
    to_frame = (place_in y v g u u-lt g-lt).0

    to-home : home_in y R t (frame_for x) ≡ true
    unfolding is_home
    to-home =
        ap (λ (a : Unit). is_home y R a.group a.unit) lies_there
        ∙ any-true (λ d. eqb (home y R R.q g d) u) (contents y) c c_lt (eq-eqb u u refl)

    to_and_back : pair_in (frame_for x) ≡ x
    to_and_back =
        ap (λ (a : Unit). contents y * a.group + owner y R R.q a.group a.unit) lies_there
        ∙ ap (λ (d : ℕ). contents y * g + d) (owner-home y v R g R.q few c c_lt)
        ∙ div-add-mod x (contents y)

  -- from a frame to the content whose home lies there
  module _ (r : ℕ) (b : r < frames y) (on : home_in y R t r ≡ true) where
    abbrev h : ℕ
    h = (unit_of y r t).group

    abbrev w : ℕ
    w = (unit_of y r t).unit

    abbrev d : ℕ
    d = owner y R R.q h w

    d-lt : d < contents y
    d-lt = (home_owned y R h w on).0

    d-home : home y R R.q h d ≡ w
    d-home = (home_owned y R h w on).1

    its_place : place_of y h (home y R R.q h d) ≡ record { frame = r; target = t }
    its_place = ap (place_of y h) d-home ∙ back_and_there y v r t target

    from_frame : pair_in r < contents y * all_groups y
    from_frame = digits_below (unit_in_lem y v r t target b).0 d-lt

    from_home : on_pair (pair_in r) ≡ true
    from_home =
        (λ i. home_on y R t (div_of (contents y) h d-lt i) (mod_of (contents y) h d-lt i))
        ∙ eq-eqb _ t (ap (λ (a : Place). a.target) its_place)

    from_and_back : frame_for (pair_in r) ≡ r
    from_and_back =
        (λ i. (place_of y (div_of (contents y) h d-lt i) (home y R R.q (div_of (contents y) h d-lt i) (mod_of (contents y) h d-lt i))).frame)
        ∙ ap (λ (a : Place). a.frame) its_place

  -- the law of the walk: the frames of the target give the count
  pub on_target_by_frames : on_target y R t ≡ homes_in y R t (frames y)
  on_target_by_frames =
      pairs_are
      ∙ count_across {from = pair_in} (record { lands = to_frame; passes = to-home; back = to_and_back })
      (record { lands = from_frame; passes = from_home; back = from_and_back })

  -- so a failure raises the count by at most L·T
  pub on_target_few : on_target y R t ≤ frames y
  on_target_few = subst (λ (n : ℕ). n ≤ frames y) (sym on_target_by_frames) (count-le (home_in y R t) (frames y))

module _ (y : Layout) (R : Record) (g u : ℕ) (unrepaired : listed (entry R) R.q (target_at y g u) ≡ false) where
  -- a content's own place there is its home
  pub own_home : u < contents y → is_home y R g u ≡ true
  unfolding is_home home homes
  own_home h =
      any-true (λ c. eqb (home y R R.q g c) u) (contents y) u h
      (eq-eqb _ u
      (ap (λ (j : ℕ). homes (target_at y g) (contents y) y.k (entry R) j u) (sym (zero-add R.q))
      ∙ homes_stay (target_at y g) (contents y) y.k (entry R) 0 R.q R.q u (omega arith) unrepaired))

  -- so a group's homes are worked out for a spare alone
  pub home_test : is_home y R g u ≡ pick (ltb u (contents y)) true (listed (home y R R.q g) (contents y) u)
  unfolding is_home listed
  home_test =
      below_or_not u (contents y) (λ (h : u < contents y). own_home h ∙ sym (pick_true (ltb u (contents y)) true _ (lt-ltb u (contents y) h)))
      (λ (h : contents y ≤ u). sym (pick-false (ltb u (contents y)) true _ (le-ltb u (contents y) h)))

-- and while nothing is repaired no spare is a home
pub unrepaired_home : (y : Layout) (R : Record) → R.q ≡ 0 → (g u : ℕ) → contents y ≤ u → is_home y R g u ≡ false
unfolding is_home
unrepaired_home y R z g u h =
    any_false (λ c. eqb (home y R R.q g c) u) (contents y)
    (λ c b. ne_eqb _ u (λ (e : home y R R.q g c ≡ u).
    let own : home y R R.q g c ≡ c = home-own y R g R.q c z in
    omega arith))
