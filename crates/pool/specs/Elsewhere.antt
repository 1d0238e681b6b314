-- "But for the hex line, no answer and no other byte depends on a failed target's bytes or an unused spare's": the bytes that nothing depends on,
-- and that two images agree elsewhere just where they agree on the homes of present contents.
use Rattle.std.specs.Prelude.{◌≡◌, refl, Bool, not, List, leb, length}
use Rattle.std.proofs.Math.Path.{sym, ap}
use Rattle.std.proofs.Common.{◌∙◌, subst, zero-add, arith}
use Rattle.std.proofs.Math.Logic.{⊎_elim}
use Rattle.std.proofs.Math.Bool.{true, false}
use Prim.Native.Nat.{ℕ, ◌≤◌, ◌<◌}
use borrow.Author.Tests.{eqb-true, eq-eqb, le-leb}
use Rattle.std.proofs.Math.Dec.{eqb}
use Rattle.lists.specs.Pick.{pick, both, both_off, pick_true, pick-false, either_way, clash, below_or_not}
use Rattle.lists.specs.Search.{any, lowest, any-true, lowest_is}
use Rattle.lists.specs.Tabulate.{at}
use Rattle.numbers.specs.declared.Layout.{Layout}
use Rattle.numbers.specs.Layouts.{Valid, all_groups, contents, image_length}
use Rattle.place.specs.declared.Place.{Place}
use Rattle.place.specs.Bytes.{spot, target_here, unit_here, offset_here}
use Rattle.place.specs.ByteLaws.{group_there, unit_there', target_there, place_here, spot-here, group_here-lt, offset_here-lt}
use Rattle.homes.specs.declared.Record.{Record}
use Rattle.homes.specs.Homes.{homes}
use Rattle.homes.proofs.HomesLaws.{homes_stay}
use Rattle.homes.specs.Records.{entry, failed, Good}
use Rattle.homes.specs.Missing.{target_at, home, missing}
use Rattle.homes.proofs.MissingLaws.{home-lt}
use Rattle.pool.specs.Contents.{home_spot, stored}
use Rattle.pool.specs.Asked.{Sound}
use Rattle.pool.specs.Holds.{home-spot-lt}
use Rattle.pool.specs.Blind.{Agree}

-- unit u of group g is the home of a content, under the first q entries
unfoldable pub is_home : Layout → Record → ℕ → ℕ → Bool
is_home y R g u = any (λ c. eqb (home y R R.q g c) u) (contents y)

-- an unused spare: unit u of group g is a spare and no content's home
unfoldable pub unused_spare : Layout → Record → ℕ → ℕ → Bool
unused_spare y R g u = both (leb (contents y) u) (not (is_home y R g u))

-- image byte x is a failed target's or an unused spare's
unfoldable pub unseen : Layout → Record → ℕ → Bool
unseen y R x = pick (failed R (target_here y x)) true (unused_spare y R (unit_here y x).group (unit_here y x).unit)

pub record AgreeElsewhere (y : Layout) (R : Record) (img img' : List ℕ) : Type 0 where
  pub same_length : length img' ≡ length img
  pub elsewhere : (x : ℕ) → x < length img → unseen y R x ≡ false → at img x ≡ at img' x

module _ (y : Layout) (R : Record) (v : Valid y) (r : Good y R) where
  -- a present content's home is none of those bytes
  pub home_seen : (g o c : ℕ) → g < all_groups y → o < y.u → c < contents y → missing y R g c ≡ false → unseen y R (home_spot y R g o c) ≡ false
  unfolding unseen unused_spare is_home missing
  home_seen g o c hg ho hc m =
      let f = r.few in
      let q = r.mended in
      let hu = home-lt y v R g R.q (omega arith) c hc in
      simp (
        target_there y v g (home y R R.q g c) o hg hu ho,
        group_there y v g (home y R R.q g c) o hg hu ho,
        unit_there' y v g (home y R R.q g c) o hg hu ho,
        m,
        any-true (λ i. eqb (home y R R.q g i) (home y R R.q g c)) (contents y) c hc (eq-eqb (home y R R.q g c) (home y R R.q g c) refl),
        both_off (leb (contents y) (home y R R.q g c)),
      )

  -- a content whose own place is on no failed target has its home there
  home-own : (g u : ℕ) → failed R (target_at y g u) ≡ false → home y R R.q g u ≡ u
  unfolding home homes
  home-own g u f =
      let q = r.mended in
      ap (λ (j : ℕ). homes (target_at y g) (contents y) y.k (entry R) j u) (sym (zero-add R.q))
      ∙ homes_stay (target_at y g) (contents y) y.k (entry R) 0 R.q R.k u (omega arith) f

  -- each other byte is at a present content's home
  pub seen_home : (x : ℕ) → x < image_length y → unseen y R x ≡ false
      → (c : ℕ) × (c < contents y) × (missing y R (unit_here y x).group c ≡ false) × (x ≡ home_spot y R (unit_here y x).group (offset_here y x) c)
  unfolding unseen unused_spare is_home missing
  seen_home x h e =
      ⊎_elim (λ (f : failed R (target_here y x) ≡ true). clash (pick (failed R (target_here y x)) true spare) (pick_true (failed R (target_here y x)) true spare f) e)
      (λ (f : failed R (target_here y x) ≡ false).
      let s : spare ≡ false = sym (pick-false (failed R (target_here y x)) true spare f) ∙ e in
      let alive : failed R (target_at y g u) ≡ false = ap (λ (a : Place). failed R a.target) (place_here y v x h) ∙ f in
      let is = lowest_is test (contents y) (found s alive) in
      let at-u : home y R R.q g (lowest test (contents y)) ≡ u = eqb-true _ _ is.1 in (
        lowest test (contents y),
        is.0,
        ap (λ (d : ℕ). failed R (target_at y g d)) at-u ∙ alive,
        sym (ap (λ (d : ℕ). spot y g d (offset_here y x)) at-u ∙ spot-here y v x h),
      ))
      (either_way (failed R (target_here y x)))
    where
      g : ℕ
      g = (unit_here y x).group

      u : ℕ
      u = (unit_here y x).unit

      test : ℕ → Bool
      test c = eqb (home y R R.q g c) u

      spare : Bool
      spare = both (leb (contents y) u) (not (any test (contents y)))

      -- it is no unused spare: a home, or a content's own place, which then is its home
      found : spare ≡ false → failed R (target_at y g u) ≡ false → any test (contents y) ≡ true
      found s alive =
          below_or_not u (contents y)
          (λ (l : u < contents y). any-true test (contents y) u l (eq-eqb _ u (home-own g u alive)))
          (λ (l : contents y ≤ u).
          ⊎_elim (λ (t : any test (contents y) ≡ true). t)
          (λ (t : any test (contents y) ≡ false). clash spare (pick_true (leb (contents y) u) _ false (le-leb (contents y) u l) ∙ ap not t) s)
          (either_way (any test (contents y))))

pub agree_of : (y : Layout) (R : Record) (img img' : List ℕ) → AgreeElsewhere y R img img' → Agree y R img img'
unfolding stored
agree_of y R img img' a =
    record {
      same_length = a.same_length;
      present = λ s g o c hg ho hc m.
          a.elsewhere (home_spot y R g o c) (subst (λ (n : ℕ). home_spot y R g o c < n) (sym s.len_is) (home-spot-lt y R s.valid s.good g o c hg ho hc))
          (home_seen y R s.valid s.good g o c hg ho hc m);
    }

pub elsewhere_of : (y : Layout) (R : Record) (img img' : List ℕ) → Sound y R (length img) → Agree y R img img' → AgreeElsewhere y R img img'
unfolding stored
elsewhere_of y R img img' s a =
    record {
      same_length = a.same_length;
      elsewhere = λ x h e.
          let hx : x < image_length y = subst (λ (n : ℕ). x < n) s.len_is h in
          let w = seen_home y R s.valid s.good x hx e in
          ap (at img) w.3 ∙ a.present s (unit_here y x).group (offset_here y x) w.0 (group_here-lt y s.valid x hx) (offset_here-lt y s.valid x) w.1 w.2
          ∙ sym (ap (at img') w.3);
    }
