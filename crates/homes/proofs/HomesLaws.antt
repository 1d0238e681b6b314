-- Laws of homes under a list: under at most K entries a free spare always exists, homes are different units, and none lies on a listed target.
-- That the entries differ or are targets plays no part.
use Rattle.std.specs.Prelude.{◌≡◌, ◌⊎◌, Bool}
use Rattle.std.proofs.Math.Path.{refl, sym, ap, subst, fun_ext}
use Rattle.std.proofs.Common.{◌∙◌, le_refl, not-suc-le-zero}
use Rattle.std.proofs.Math.Logic.{inl, inr, ⊎_elim}
use Rattle.std.proofs.Math.Bool.{true, false, not}
use Prim.Native.Nat.{ℕ, zero, suc, ◌+◌, ◌<◌, ◌≤◌}
use native.Mathlib.Omega.{arith}
use borrow.Author.Tests.{eqb-true, eqb-false, eq-eqb, ne_eqb, not-true}
use Rattle.std.proofs.Math.Dec.{eqb}
use Rattle.lists.specs.Pick.{pick, pick_true, pick-false, either_way, both_true, clash}
use Rattle.lists.specs.Count.{count, count_weaker, count_more, count_none}
use Rattle.lists.specs.Search.{any, lowest, any_none, any-true, any_room, lowest_is}
use Rattle.homes.specs.Listed.{listed, listed_suc, unlisted, unlisted_of}
use Rattle.homes.specs.Homes.{free, move, homes}
use Rattle.homes.specs.HomesLaws.{Apart, moved_off, free_same}

module _ (target : ℕ → ℕ) (m K : ℕ) (e : ℕ → ℕ) where
  -- spare i is spoken for: it is a home, or lies on a listed target
  abbrev spoken : ℕ → (ℕ → ℕ) → ℕ → Bool
  spoken j h i = not (free target m e j h i)

  spoken-home : (j : ℕ) (h : ℕ → ℕ) (i c : ℕ) → c < m → h c ≡ m + i → spoken j h i ≡ true
  unfolding free
  spoken-home j h i c b q =
      ap not (pick-false (not (any (λ c. eqb (h c) (m + i)) m)) (not (listed e j (target (m + i)))) false (ap not (any-true (λ c. eqb (h c) (m + i)) m c b (eq-eqb (h c) (m + i) q))))

  spoken-listed : (j : ℕ) (h : ℕ → ℕ) (i : ℕ) → listed e j (target (m + i)) ≡ true → spoken j h i ≡ true
  unfolding free
  spoken-listed j h i q = at (not (any (λ c. eqb (h c) (m + i)) m))
    where
      at : (t : Bool) → not (pick t (not (listed e j (target (m + i)))) false) ≡ true
      at true = ap (λ (b : Bool). not (not b)) q
      at false = refl

  free_is : (j : ℕ) (h : ℕ → ℕ) (i : ℕ) → free target m e j h i ≡ true → ((c : ℕ) → c < m → h c ≡ m + i → ⊥) × (listed e j (target (m + i)) ≡ false)
  unfolding free
  free_is j h i q =
      let r = both_true (not (any (λ c. eqb (h c) (m + i)) m)) (not (listed e j (target (m + i)))) q in (
        (λ c b. eqb-false (h c) (m + i) (any_none (λ c. eqb (h c) (m + i)) m (not-true (any (λ c. eqb (h c) (m + i)) m) r.0) c b)),
        not-true (listed e j (target (m + i))) r.1,
      )

  -- why a spare is spoken for
  spoken_by : (j : ℕ) (h : ℕ → ℕ) (i : ℕ) → spoken j h i ≡ true → ((c : ℕ) × (c < m) × (h c ≡ m + i)) ⊎ (listed e j (target (m + i)) ≡ true)
  unfolding free
  spoken_by j h i q =
      ⊎_elim
      (λ (t : any (λ c. eqb (h c) (m + i)) m ≡ true).
      let r = lowest_is (λ c. eqb (h c) (m + i)) m t in inl (lowest (λ c. eqb (h c) (m + i)) m, r.0, eqb-true _ _ r.1))
      (λ (t : any (λ c. eqb (h c) (m + i)) m ≡ false).
      inr (⊎_elim (λ (u : listed e j (target (m + i)) ≡ true). u)
      (λ (u : listed e j (target (m + i)) ≡ false). clash (not (pick (not (any (λ c. eqb (h c) (m + i)) m)) (not (listed e j (target (m + i)))) false)) q (rw (t, u)))
      (either_way (listed e j (target (m + i))))))
      (either_way (any (λ c. eqb (h c) (m + i)) m))

  module _ (apart : (d d' : ℕ) → d < m + K → d' < m + K → target d ≡ target d' → d ≡ d') where
    move_apart : (j : ℕ) (h : ℕ → ℕ) → any (free target m e (suc j) h) K ≡ true → Apart m (m + K) h → Apart m (m + K) (move target m K e j h)
    unfolding move
    move_apart j h room a =
        let r = lowest_is (free target m e (suc j) h) K room in
        let none = (free_is (suc j) h (lowest (free target m e (suc j) h) K) r.1).0 in
        record {
          below = λ c b.
              ⊎_elim
              (λ (q : eqb (target (h c)) (e j) ≡ true). subst (λ (x : ℕ). x < m + K) (sym (pick_true (eqb (target (h c)) (e j)) (m + lowest (free target m e (suc j) h) K) (h c) q)) (omega (arith, r.0)))
              (λ (q : eqb (target (h c)) (e j) ≡ false). subst (λ (x : ℕ). x < m + K) (sym (pick-false (eqb (target (h c)) (e j)) (m + lowest (free target m e (suc j) h) K) (h c) q)) (a.below c b))
              (either_way (eqb (target (h c)) (e j)));
          differ = λ c c' b b' z.
              ⊎_elim
              (λ (q : eqb (target (h c)) (e j) ≡ true).
              ⊎_elim
              (λ (q' : eqb (target (h c')) (e j) ≡ true). a.differ c c' b b' (apart (h c) (h c') (a.below c b) (a.below c' b') (eqb-true _ _ q ∙ sym (eqb-true _ _ q'))))
              (λ (q' : eqb (target (h c')) (e j) ≡ false). absurd (none c' b' (sym (sym (pick_true _ _ _ q) ∙ z ∙ pick-false _ _ _ q'))))
              (either_way (eqb (target (h c')) (e j))))
              (λ (q : eqb (target (h c)) (e j) ≡ false).
              ⊎_elim
              (λ (q' : eqb (target (h c')) (e j) ≡ true). absurd (none c b (sym (pick-false _ _ _ q) ∙ z ∙ pick_true _ _ _ q')))
              (λ (q' : eqb (target (h c')) (e j) ≡ false). a.differ c c' b b' (sym (pick-false _ _ _ q) ∙ z ∙ pick-false _ _ _ q'))
              (either_way (eqb (target (h c')) (e j))))
              (either_way (eqb (target (h c)) (e j)));
        }

    module _ (h : ℕ → ℕ) (a : Apart m (m + K) h) (j : ℕ) (lt : j < K) (few : count (spoken j h) K ≤ j) where
      -- where a content is on target j, it takes no spare that was free
      module _ (c₀ : ℕ) (b₀ : c₀ < m) (on : target (h c₀) ≡ e j) where
        still : (i : ℕ) → i < K → spoken (suc j) h i ≡ true → spoken j h i ≡ true
        still i b s =
            ⊎_elim
            (λ (w : (c : ℕ) × (c < m) × (h c ≡ m + i)). spoken-home j h i w.0 w.1 w.2)
            (λ (w : listed e (suc j) (target (m + i)) ≡ true).
            ⊎_elim
            (λ (q : e j ≡ target (m + i)). spoken-home j h i c₀ b₀ (apart (h c₀) (m + i) (a.below c₀ b₀) (omega arith) (on ∙ q)))
            (λ (q : listed e j (target (m + i)) ≡ true). spoken-listed j h i q)
            (listed_suc e j (target (m + i)) w))
            (spoken_by (suc j) h i s)

        pub room : any (free target m e (suc j) h) K ≡ true
        room = any_room (free target m e (suc j) h) K (omega (arith, count_weaker (spoken (suc j) h) (spoken j h) K still))

        -- after the move only the spare that was chosen is new
        moved-few : count (spoken (suc j) (move target m K e j h)) K ≤ suc j
        unfolding move
        moved-few =
            omega (
              arith,
              count_more (spoken (suc j) (move target m K e j h)) (spoken j h) (lowest (free target m e (suc j) h) K) K
                  (λ i b ne s.
                  still i b
                  (⊎_elim
                  (λ (w : (c : ℕ) × (c < m) × (move target m K e j h c ≡ m + i)).
                  ⊎_elim
                  (λ (q : eqb (target (h w.0)) (e j) ≡ true). absurd (ne (let z : m + lowest (free target m e (suc j) h) K ≡ m + i = sym (pick_true _ _ _ q) ∙ w.2 in omega arith)))
                  (λ (q : eqb (target (h w.0)) (e j) ≡ false). spoken-home (suc j) h i w.0 w.1 (sym (pick-false _ _ _ q) ∙ w.2))
                  (either_way (eqb (target (h w.0)) (e j))))
                  (λ (w : listed e (suc j) (target (m + i)) ≡ true). spoken-listed (suc j) h i w)
                  (spoken_by (suc j) (move target m K e j h) i s))),
            )

      -- where no content is on target j, nothing moves, and at most the spare on it is lost
      module _ (off : (c : ℕ) → c < m → target (h c) ≡ e j → ⊥) where
        stays : (c : ℕ) → c < m → move target m K e j h c ≡ h c
        unfolding move
        stays c b = pick-false (eqb (target (h c)) (e j)) _ _ (ne_eqb _ _ (off c b))

        stay_apart : Apart m (m + K) (move target m K e j h)
        stay_apart =
            record {
              below = λ c b. subst (λ (x : ℕ). x < m + K) (sym (stays c b)) (a.below c b);
              differ = λ c c' b b' z. a.differ c c' b b' (sym (stays c b) ∙ z ∙ stays c' b');
            }

        stay_few : count (spoken (suc j) (move target m K e j h)) K ≤ suc j
        stay_few =
            omega (
              arith,
              count_more (spoken (suc j) (move target m K e j h)) (spoken j h) (lowest (λ i. eqb (target (m + i)) (e j)) K) K
                  (λ i b ne s.
                  ⊎_elim
                  (λ (w : (c : ℕ) × (c < m) × (move target m K e j h c ≡ m + i)). spoken-home j h i w.0 w.1 (sym (stays w.0 w.1) ∙ w.2))
                  (λ (w : listed e (suc j) (target (m + i)) ≡ true).
                  ⊎_elim
                  (λ (q : e j ≡ target (m + i)).
                  let r = lowest_is (λ i. eqb (target (m + i)) (e j)) K (any-true (λ i. eqb (target (m + i)) (e j)) K i b (eq-eqb _ _ (sym q))) in
                  let z : m + i ≡ m + lowest (λ i. eqb (target (m + i)) (e j)) K = apart _ _ (omega arith) (omega (arith, r.0)) (sym q ∙ sym (eqb-true _ _ r.1)) in
                  absurd (ne (omega arith)))
                  (λ (q : listed e j (target (m + i)) ≡ true). spoken-listed j h i q)
                  (listed_suc e j (target (m + i)) w))
                  (spoken_by (suc j) (move target m K e j h) i s)),
            )

      step : Apart m (m + K) (move target m K e j h) × (count (spoken (suc j) (move target m K e j h)) K ≤ suc j)
      step =
          ⊎_elim
          (λ (q : any (λ c. eqb (target (h c)) (e j)) m ≡ true).
          let r = lowest_is (λ c. eqb (target (h c)) (e j)) m q in
          let on : target (h (lowest (λ c. eqb (target (h c)) (e j)) m)) ≡ e j = eqb-true _ _ r.1 in
          (move_apart j h (room _ r.0 on) a, moved-few _ r.0 on))
          (λ (q : any (λ c. eqb (target (h c)) (e j)) m ≡ false).
          let off : (c : ℕ) → c < m → target (h c) ≡ e j → ⊥ = λ c b. eqb-false _ _ (any_none _ m q c b) in
          (stay_apart off, stay_few off))
          (either_way (any (λ c. eqb (target (h c)) (e j)) m))

    invariant : (j : ℕ) → j ≤ K → Apart m (m + K) (homes target m K e j) × (count (spoken j (homes target m K e j)) K ≤ j)
    unfolding homes
    invariant zero le = (record { below = λ c b. omega arith; differ = λ c c' b b' z. z }, omega (arith, count_none (spoken 0 (λ c. c)) K none))
      where
        none : (i : ℕ) → i < K → spoken 0 (λ c. c) i ≡ false
        none i b =
            ⊎_elim
            (λ (t : spoken 0 (λ c. c) i ≡ true).
            ⊎_elim (λ (w : (c : ℕ) × (c < m) × (c ≡ m + i)). let l = w.1 in let z = w.2 in absurd (omega arith))
            (λ (w : listed e 0 (target (m + i)) ≡ true). clash (listed e 0 (target (m + i))) w (unlisted_of e 0 (target (m + i)) (λ i b. absurd (not-suc-le-zero b))))
            (spoken_by 0 (λ c. c) i t))
            (λ (t : spoken 0 (λ c. c) i ≡ false). t)
            (either_way (spoken 0 (λ c. c) i))
    invariant (suc j) le = let r = invariant j (omega arith) in step (homes target m K e j) r.0 j (omega arith) r.1

    -- under at most K entries the homes are units of the group, and all different
    pub homes_apart : (j : ℕ) → j ≤ K → Apart m (m + K) (homes target m K e j)
    homes_apart j le = (invariant j le).0

    -- "One always exists for at most K failures": a content whose home is on the target of entry j, the next one listed, finds a free spare
    room_for : (j : ℕ) → j < K → (c : ℕ) → c < m → target (homes target m K e j c) ≡ e j → any (free target m e (suc j) (homes target m K e j)) K ≡ true
    room_for j lt c b on = let v = invariant j (omega arith) in room (homes target m K e j) v.0 j lt v.1 c b on

    -- and moves there: a spare that was no content's home and lies on none of the targets listed up to and including this one
    pub spare_for : (j : ℕ) → j < K → (c : ℕ) → c < m → target (homes target m K e j c) ≡ e j
        → (i : ℕ) × (i < K) × (homes target m K e (suc j) c ≡ m + i) × ((d : ℕ) → d < m → homes target m K e j d ≡ m + i → ⊥) × (listed e (suc j) (target (m + i)) ≡ false)
    unfolding homes move
    spare_for j lt c b on =
        let h = homes target m K e j in
        let i = lowest (free target m e (suc j) h) K in
        let r = lowest_is (free target m e (suc j) h) K (room_for j lt c b on) in
        let f = free_is (suc j) h i r.1 in
        (i, r.0, pick_true (eqb (target (h c)) (e j)) _ _ (eq-eqb _ _ on), f.0, f.1)

    -- and none lies on a target listed so far
    pub homes_alive : (j : ℕ) → j ≤ K → (c : ℕ) → c < m → listed e j (target (homes target m K e j c)) ≡ false
    unfolding homes move
    homes_alive zero le c b = unlisted_of e 0 _ (λ i l. absurd (not-suc-le-zero l))
    homes_alive (suc j) le c b =
        ⊎_elim
        (λ (q : eqb (target (homes target m K e j c)) (e j) ≡ true).
        let r = room_for j (omega arith) c b (eqb-true _ _ q) in
        ap (λ (d : ℕ). listed e (suc j) (target d)) (pick_true (eqb (target (homes target m K e j c)) (e j)) _ _ q)
        ∙ (free_is (suc j) (homes target m K e j) (lowest (free target m e (suc j) (homes target m K e j)) K) (lowest_is (free target m e (suc j) (homes target m K e j)) K r).1).1)
        (λ (q : eqb (target (homes target m K e j c)) (e j) ≡ false).
        ap (λ (d : ℕ). listed e (suc j) (target d)) (pick-false (eqb (target (homes target m K e j c)) (e j)) _ _ q)
        ∙ still_off (homes_alive j (omega arith) c b) (eqb-false _ _ q))
        (either_way (eqb (target (homes target m K e j c)) (e j)))
      where
        still_off : listed e j (target (homes target m K e j c)) ≡ false → (target (homes target m K e j c) ≡ e j → ⊥) → listed e (suc j) (target (homes target m K e j c)) ≡ false
        still_off old ne =
            ⊎_elim
            (λ (t : listed e (suc j) (target (homes target m K e j c)) ≡ true).
            ⊎_elim (λ (z : e j ≡ target (homes target m K e j c)). absurd (ne (sym z))) (λ (z : listed e j (target (homes target m K e j c)) ≡ true). clash _ z old)
            (listed_suc e j _ t))
            (λ (t : listed e (suc j) (target (homes target m K e j c)) ≡ false). t)
            (either_way (listed e (suc j) (target (homes target m K e j c))))

    -- of different homes at most j lie on the first j targets
    pub on-listed : (h : ℕ → ℕ) → Apart m (m + K) h → (j : ℕ) → count (λ c. listed e j (target (h c))) m ≤ j
    on-listed h a zero = omega (arith, count_none (λ c. listed e 0 (target (h c))) m (λ c b. unlisted_of e 0 _ (λ i l. absurd (not-suc-le-zero l))))
    on-listed h a (suc j) =
        omega (
          arith,
          on-listed h a j,
          count_more (λ c. listed e (suc j) (target (h c))) (λ c. listed e j (target (h c))) (lowest (λ c. eqb (target (h c)) (e j)) m) m
              (λ c b ne s.
              ⊎_elim
              (λ (z : e j ≡ target (h c)).
              let r = lowest_is (λ c. eqb (target (h c)) (e j)) m (any-true (λ c. eqb (target (h c)) (e j)) m c b (eq-eqb _ _ (sym z))) in
              absurd (ne (a.differ _ _ b r.0 (apart _ _ (a.below _ b) (a.below _ r.0) (sym z ∙ sym (eqb-true _ _ r.1))))))
              (λ (z : listed e j (target (h c)) ≡ true). z)
              (listed_suc e j (target (h c)) s)),
        )

  -- a home on none of the first k targets stays from q to k
  pub homes_stay : (q j k c : ℕ) → q + j ≤ k → listed e k (target (homes target m K e q c)) ≡ false → homes target m K e (q + j) c ≡ homes target m K e q c
  homes_stay q zero k c le h = ap (λ (i : ℕ). homes target m K e i c) (let z : q + 0 ≡ q = omega arith in z)
  homes_stay q (suc j) k c le h =
      ap (λ (i : ℕ). homes target m K e i c) (let z : q + suc j ≡ suc (q + j) = omega arith in z)
      ∙ one (homes_stay q j k c (omega arith) h)
    where
      one : homes target m K e (q + j) c ≡ homes target m K e q c → homes target m K e (suc (q + j)) c ≡ homes target m K e q c
      one ih = moved_off target m K e (q + j) c (λ z. unlisted e k _ h (q + j) (omega arith) (sym (sym (ap target ih) ∙ z))) ∙ ih

move_same : (target : ℕ → ℕ) (m K : ℕ) (e e' : ℕ → ℕ) (j : ℕ) (h : ℕ → ℕ) → ((i : ℕ) → i < suc j → e i ≡ e' i) → move target m K e j h ≡ move target m K e' j h
unfolding move
move_same target m K e e' j h same =
    fun_ext (λ (c : ℕ). (λ i. pick (eqb (target (h c)) (same j (le_refl (suc j)) i)) (m + lowest (free_same target m e e' (suc j) h same i) K) (h c)))

pub homes_same : (target : ℕ → ℕ) (m K : ℕ) (e e' : ℕ → ℕ) (j : ℕ) → ((i : ℕ) → i < j → e i ≡ e' i) → homes target m K e j ≡ homes target m K e' j
unfolding homes
homes_same target m K e e' zero same = refl
homes_same target m K e e' (suc j) same =
    ap (move target m K e j) (homes_same target m K e e' j (λ i b. same i (omega arith))) ∙ move_same target m K e e' j (homes target m K e' j) same
