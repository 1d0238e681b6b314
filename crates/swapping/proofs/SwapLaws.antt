-- What a swap was given once it is accepted, what it stores, and what it changes. On any image whatsoever.
use Rattle.std.specs.Prelude.{◌≡◌, ◌⊎◌, true, false, length}
use Rattle.std.proofs.Math.Path.{refl, sym, ap}
use Rattle.std.proofs.Common.{◌∙◌, subst, zero-add, arith}
use Rattle.std.proofs.Math.Logic.{inl, inr, ⊎_elim}
use Rattle.std.proofs.Math.Bool.{not}
use mathlib.Core.List.{List}
use Prim.Native.Nat.{ℕ, ◌-◌, ◌≤◌, ◌<◌}
use borrow.Author.Tests.{ltb-true, eqb-true, lt-ltb, eq-eqb}
use Rattle.std.proofs.Math.Dec.{eqb}
use Rattle.lists.specs.Pick.{either_way, clash, equal_or_not}
use Rattle.lists.specs.Count.{count, count_weaker}
use Rattle.lists.specs.Tabulate.{at}
use Rattle.lists.specs.Refusal.{LowestThatApplies, grant_yes, grant_no, refusal_lowest, refusal_none}
use Rattle.numbers.specs.declared.Layout.{Layout}
use Rattle.numbers.specs.Layouts.{all_groups, contents}
use Rattle.place.specs.Bytes.{spot, target_here, unit_here}
use Rattle.place.specs.ByteLaws.{target_there, unit_there'}
use Rattle.homes.specs.declared.Record.{Record}
use Rattle.homes.specs.Listed.{listed}
use Rattle.homes.specs.Homes.{homes}
use Rattle.homes.specs.HomesLaws.{own_or_spare}
use Rattle.homes.proofs.HomesLaws.{homes_stay, on-listed}
use Rattle.homes.specs.Records.{entry, failed, Good}
use Rattle.homes.specs.Dropping.{without}
use Rattle.homes.specs.DroppingLaws.{without-good, without_shorter, alive_stays, others_alive}
use Rattle.homes.specs.Missing.{target_at, home, missing}
use Rattle.homes.specs.MissingLaws.{units_apart}
use Rattle.homes.proofs.MissingLaws.{home-own, home-lt, repaired_present}
use Rattle.pool.specs.Contents.{stored}
use Rattle.pool.specs.Refusals.{pool_tests}
use Rattle.pool.specs.Storing.{storing}
use Rattle.pool.specs.StoringLaws.{storing-at, storing-length, storing_changes}
use Rattle.pool.specs.Rounds.{storing_idle}
use Rattle.pool.specs.Asked.{Sound, pool-asked, sound-passes}
use Rattle.swapping.specs.Swapping.{swap_tests, swap_refusal, swapped_image, swap_image, swap_record, home_moves, NewHome}
use Rattle.swapping.specs.SwapLaws.{SwapAsked, few-entries, less_few, none_after, own_stays}

module _ (y : Layout) (R : Record) (len d : ℕ) where
  pub swap_asked : swap_refusal y R len d ≡ 0 → SwapAsked y R len d
  unfolding swap_refusal
  swap_asked e =
      let p = pool-asked y R len (swap_tests y R d) refl e in
      record {
        sound = p.0;
        target_lt = ltb-true d y.p p.1.0;
        is_failed = p.1.1.0;
        repaired = eqb-true R.q R.k p.1.1.1.0;
      }

  -- and it is accepted where it is given that
  pub swap_granted : SwapAsked y R len d → swap_refusal y R len d ≡ 0
  unfolding swap_refusal
  swap_granted a =
      sound-passes y R len a.sound (swap_tests y R d)
      ∙ refusal_none (swap_tests y R d) (lt-ltb d y.p a.target_lt, (a.is_failed, (eq-eqb R.q R.k a.repaired, tt)))

  pub swap_lowest : LowestThatApplies (pool_tests y R len (swap_tests y R d)) (swap_refusal y R len d)
  unfolding swap_refusal
  swap_lowest = refusal_lowest 1 (pool_tests y R len (swap_tests y R d)) (omega arith) refl

module _ (y : Layout) (R : Record) (d : ℕ) (img : List ℕ) where
  pub swap_refused : (swap_refusal y R (length img) d ≡ 0 → ⊥) → swap_image y R img d ≡ img
  unfolding swap_image
  swap_refused z = grant_no (swap_refusal y R (length img) d) _ img z

  pub swap_accepted : swap_refusal y R (length img) d ≡ 0 → swap_image y R img d ≡ swapped_image y R d img
  unfolding swap_image
  swap_accepted z = grant_yes (swap_refusal y R (length img) d) _ img z

  -- "Refused: no byte and no record changed"
  pub swap_refused_unchanged : (swap_refusal y R (length img) d ≡ 0 → ⊥) → (swap_image y R img d ≡ img) × (swap_record y R (length img) d ≡ R)
  unfolding swap_record
  swap_refused_unchanged z = (swap_refused z, grant_no (swap_refusal y R (length img) d) _ R z)

  pub swap_record_lem : swap_refusal y R (length img) d ≡ 0 → swap_record y R (length img) d ≡ without R d
  unfolding swap_record
  swap_record_lem z = grant_yes (swap_refusal y R (length img) d) (without R d) R z

  pub swap_length : length (swap_image y R img d) ≡ length img
  swap_length =
      equal_or_not (swap_refusal y R (length img) d) 0
      (λ z. ap length (swap_accepted z) ∙ storing-length y (without R d) _ _ _ img)
      (λ z. ap length (swap_refused z))

  -- "Every content's bytes go from its old home to its new one": what stands at a content's new home is what stood at its old one
  pub stored_swapped : swap_refusal y R (length img) d ≡ 0 → (g o c : ℕ) → g < all_groups y → o < y.u → c < contents y
      → stored y (without R d) (swap_image y R img d) g o c ≡ stored y R img g o c
  unfolding stored
  stored_swapped z g o c hg ho hc =
      let a = swap_asked y R (length img) d z in
      ap (λ (i : List ℕ). at i (spot y g (home y (without R d) (R.q - 1) g c) o)) (swap_accepted z)
      ∙ storing-at y a.sound.valid (without R d) (R.q - 1) _ _ img a.sound.len_is (less_few y R d a) g o c hg ho hc

  module _ (a : SwapAsked y R (length img) d) where
    -- storing the contents that move is enough: the others stand at their new homes already
    pub moves_enough : storing y (without R d) (R.q - 1) (λ g o c. home_moves y R d g c) (stored y R img) img ≡ swapped_image y R d img
    unfolding home_moves stored
    moves_enough =
        storing_idle y (without R d) (R.q - 1) a.sound.valid (λ g o c. home_moves y R d g c) (λ g o c. true) img a.sound.len_is (stored y R img)
        (λ g o c hg ho hc.
        ⊎_elim
        (λ (t : eqb (home y R R.q g c) (home y (without R d) (R.q - 1) g c) ≡ true). inr (ap (λ (u : ℕ). at img (spot y g u o)) (eqb-true _ _ t)))
        (λ (t : eqb (home y R R.q g c) (home y (without R d) (R.q - 1) g c) ≡ false). inl (ap not t))
        (either_way (eqb (home y R R.q g c) (home y (without R d) (R.q - 1) g c))))

  -- a new home is on no failed target
  alive : SwapAsked y R (length img) d → (g c : ℕ) → c < contents y → failed (without R d) (target_at y g (home y (without R d) (R.q - 1) g c)) ≡ false
  unfolding missing
  alive a g c hc = none_after y R d a g c hc

  -- "only bytes of new homes change"
  pub swap_changes : (x : ℕ) → x < length img → (at (swap_image y R img d) x ≡ at img x) ⊎ NewHome y R d x
  swap_changes x h =
      equal_or_not (swap_refusal y R (length img) d) 0
      (λ (z : swap_refusal y R (length img) d ≡ 0).
      let a = swap_asked y R (length img) d z in
      subst (λ (i : List ℕ). (at i x ≡ at img x) ⊎ NewHome y R d x) (moves_enough a ∙ sym (swap_accepted z))
      (storing_changes y a.sound.valid (without R d) (R.q - 1) _ _ img a.sound.len_is x h))
      (λ (z : swap_refusal y R (length img) d ≡ 0 → ⊥). inl (ap (λ (i : List ℕ). at i x) (swap_refused z)))

  -- "on d and on unused spares too": a new home is on d, or it is a spare of its group
  pub new-home_where : SwapAsked y R (length img) d → (x : ℕ) → NewHome y R d x → (target_here y x ≡ d) ⊎ (contents y ≤ (unit_here y x).unit)
  unfolding home
  new-home_where a x w =
      let v = a.sound.valid in
      let h : ℕ = home y (without R d) (R.q - 1) w.g w.c in
      let lt = home-lt y v (without R d) w.g (R.q - 1) (less_few y R d a) w.c w.c_lt in
      ⊎_elim
      (λ (own : h ≡ w.c).
      inl
      (ap (target_here y) w.is_at ∙ target_there y v w.g h w.o w.g-lt lt w.o_lt
      ∙ equal_or_not (target_at y w.g h) d (λ (e : target_at y w.g h ≡ d). e)
      (λ (ne : target_at y w.g h ≡ d → ⊥).
      clash (home_moves y R d w.g w.c) w.is_on
      (own_stays y R d a w.g w.c
      (ap (λ (u : ℕ). failed R (target_at y w.g u)) (sym own)
      ∙ others_alive R d (few-entries y R d a) a.is_failed (target_at y w.g h) ne (alive a w.g w.c w.c_lt))))))
      (λ (spare : contents y ≤ h).
      inr (subst (λ (u : ℕ). contents y ≤ u) (sym (ap (λ (p : ℕ). (unit_here y p).unit) w.is_at ∙ unit_there' y v w.g h w.o w.g-lt lt w.o_lt)) spare))
      (own_or_spare (target_at y w.g) (contents y) y.k (entry (without R d)) (R.q - 1) w.c)

  -- where d is the only one in the list every content comes back to its own unit, so a new home is on d
  pub new-home-alone : (a : SwapAsked y R (length img) d) → R.k ≡ 1 → (x : ℕ) → NewHome y R d x → target_here y x ≡ d
  new-home-alone a one x w =
      let v = a.sound.valid in
      let h : ℕ = home y (without R d) (R.q - 1) w.g w.c in
      let own : h ≡ w.c = home-own y (without R d) w.g (R.q - 1) w.c (omega (arith, a.repaired, one)) in
      let lt = home-lt y v (without R d) w.g (R.q - 1) (less_few y R d a) w.c w.c_lt in
      let here : (unit_here y x).unit ≡ h = ap (λ (p : ℕ). (unit_here y p).unit) w.is_at ∙ unit_there' y v w.g h w.o w.g-lt lt w.o_lt in
      ⊎_elim (λ e. e) (λ (spare : contents y ≤ (unit_here y x).unit). absurd (omega (arith, spare, here, own, w.c_lt))) (new-home_where a x w)

  -- and none on a target that stays in the list
  pub swap_spares_failed : (x : ℕ) → x < length img → failed (without R d) (target_here y x) ≡ true → at (swap_image y R img d) x ≡ at img x
  swap_spares_failed x h f =
      equal_or_not (swap_refusal y R (length img) d) 0
      (λ (z : swap_refusal y R (length img) d ≡ 0).
      let a = swap_asked y R (length img) d z in
      let v = a.sound.valid in
      ⊎_elim (λ e. e)
      (λ w. clash (failed (without R d) (target_here y x)) f
      (ap (λ (p : ℕ). failed (without R d) (target_here y p)) w.is_at
      ∙ ap (failed (without R d))
      (target_there y v w.g (home y (without R d) (R.q - 1) w.g w.c) w.o w.g-lt
      (home-lt y v (without R d) w.g (R.q - 1) (less_few y R d a) w.c w.c_lt) w.o_lt)
      ∙ alive a w.g w.c w.c_lt))
      (swap_changes x h))
      (λ (z : swap_refusal y R (length img) d ≡ 0 → ⊥). ap (λ (i : List ℕ). at i x) (swap_refused z))
