-- Loops over a group's units: copied one after another, rooms given one after another; and two copies, into the scratch and back, move the units.
use Rattle.std.specs.Prelude.{◌≡◌, Bool, true, false, not, List, ℕ, ◌+◌, ◌-◌, ◌*◌, ◌≤◌, ◌<◌, eqb, length}
use Rattle.std.proofs.Math.Path.{refl, ap}
use Rattle.std.proofs.Common.{sym, ◌∙◌}
use native.Mathlib.Omega.{arith}
use Rattle.std.proofs.Math.ListN.{get_or}
use Rattle.lists.specs.Pick.{pick, bit, below_or_not, equal_or_not}
use Rattle.lists.specs.Count.{count, count-le, count_next, count_mono}
use Rattle.lists.specs.Part.{within_cases}
use Rattle.runs.specs.Run.{run_set, paint, paint_turn, paint-length, paint-hit, paint_same}
use Rattle.runs.specs.Held.{run_of}
use Rattle.group_swap.specs.declared.Rooms.{Rooms}
use Rattle.group_swap.specs.Taken.{units_copied, start_moves, room_of, RoomsAre, units_moved, Movable}

-- ---- one unit after another is copied

module _ (on : List Bool) (from to : List ℕ) (len : ℕ) (src out₀ : List ℕ) where
  pub copied_none : out₀ ≡ units_copied on from to len src 0 out₀
  unfolding units_copied paint
  copied_none = refl

  pub copied_turn : (c : ℕ) (out out' : List ℕ) → out ≡ units_copied on from to len src c out₀
      → out' ≡ pick (get_or on c false) (run_set (get_or to c 0) len (run_of src (get_or from c 0)) out) out → out' ≡ units_copied on from to len src (c + 1) out₀
  unfolding units_copied
  copied_turn c out out' = paint_turn (λ c. get_or on c false) (λ c. get_or to c 0) len (λ c. run_of src (get_or from c 0)) c out₀ out out'

  pub copied_length : (c : ℕ) → length (units_copied on from to len src c out₀) ≡ length out₀
  unfolding units_copied
  copied_length c = paint-length (λ c. get_or on c false) (λ c. get_or to c 0) len (λ c. run_of src (get_or from c 0)) c out₀

  pub copied_end : (c m : ℕ) (out : List ℕ) → out ≡ units_copied on from to len src c out₀ → c ≡ m → out ≡ units_copied on from to len src m out₀
  copied_end c m out e h = e ∙ ap (λ (n : ℕ). units_copied on from to len src n out₀) h

-- ---- one room after another

module _ (from to : List ℕ) where
  pub room_first : 0 ≡ room_of from to 0
  unfolding room_of count
  room_first = refl

  pub room_next : (c room room' : ℕ) (taken : Bool) → room ≡ room_of from to c → taken ≡ start_moves from to c → room' ≡ room + bit taken * 4096 → room' ≡ room_of from to (c + 1)
  unfolding room_of
  room_next c room room' taken e t h =
      let one : bit taken ≡ bit (start_moves from to c) = ap bit t in
      omega (arith, count_next (start_moves from to) c, one, e, h)

  -- at most one room for each content passed
  pub room_low : (c room : ℕ) → room ≡ room_of from to c → c ≤ 19 → room ≤ 77824
  unfolding room_of
  room_low c room e h = omega (arith, count-le (start_moves from to) c, e)

  pub start_moves_lem : (c : ℕ) → not (eqb (get_or from c 0) (get_or to c 0)) ≡ start_moves from to c
  unfolding start_moves
  start_moves_lem c = refl

  -- rooms of contents that move do not meet, and three are enough
  rank_lt : (c n : ℕ) → start_moves from to c ≡ true → c < n → count (start_moves from to) c < count (start_moves from to) n
  rank_lt c n t h =
      let one : bit (start_moves from to c) ≡ 1 = ap bit t in
      omega (arith, count_next (start_moves from to) c, count_mono (start_moves from to) (c + 1) n (omega arith), one)

  module _ (m len size : ℕ) (fits : Movable from to m len size) where
    room_in : (c : ℕ) → c < m → start_moves from to c ≡ true → room_of from to c + len ≤ 12288
    unfolding room_of
    room_in c hc t = omega (arith, rank_lt c m t hc, fits.few-move, fits.few_bytes)

    rooms_apart : (c e x z : ℕ) → start_moves from to c ≡ true → start_moves from to e ≡ true → x < len → z < len → room_of from to c + x ≡ room_of from to e + z → c ≡ e
    unfolding room_of
    rooms_apart c e x z t s hx hz q =
        below_or_not c e (λ (l : c < e). absurd (omega (arith, rank_lt c e t l, fits.few_bytes)))
        (λ (l : e ≤ c).
        equal_or_not c e (λ (p : c ≡ e). p)
        (λ (n : c ≡ e → ⊥). let l' : e < c = omega arith in absurd (omega (arith, rank_lt e c s l', fits.few_bytes))))

    -- ---- taken up, and put down

    pub room_fits : (rooms : Rooms) → RoomsAre from to m rooms → (c : ℕ) → c < m → get_or rooms.moves c false ≡ true → get_or rooms.at c 0 + len ≤ 12288
    room_fits rooms are c hc t = omega (arith, are.at_are c hc, room_in c hc (sym (are.moves_are c hc) ∙ t))

    module _ (rooms : Rooms) (are : RoomsAre from to m rooms) (img scratch₀ scratch img' : List ℕ) (len_is : length img ≡ size) (lent : length scratch₀ ≡ 12288) where
      -- every unit that moves is in its room
      in_room : scratch ≡ units_copied rooms.moves from rooms.at len img m scratch₀ → (c : ℕ) → c < m → start_moves from to c ≡ true → (o : ℕ) → o < len
          → run_of scratch (get_or rooms.at c 0) o ≡ run_of img (get_or from c 0) o
      unfolding units_copied run_of
      in_room up c hc t o ho =
          (λ i. get_or (up i) (get_or rooms.at c 0 + o) 0)
          ∙ paint-hit (λ c. get_or rooms.moves c false) (λ c. get_or rooms.at c 0) len (λ c. run_of img (get_or from c 0)) m scratch₀ c o hc (are.moves_are c hc ∙ t) ho
          (omega (arith, are.at_are c hc, room_in c hc t, lent))
          (λ j hj tj (ne : j ≡ c → ⊥).
          within_cases (get_or rooms.at j 0) len (get_or rooms.at c 0 + o)
          (λ p q.
          absurd
          (ne
          (rooms_apart j c (get_or rooms.at c 0 + o - get_or rooms.at j 0) o (sym (are.moves_are j hj) ∙ tj) t (omega arith) ho
          (omega (arith, are.at_are j hj, are.at_are c hc)))))
          (λ w. w))

      pub units_moved_lem : scratch ≡ units_copied rooms.moves from rooms.at len img m scratch₀
          → img' ≡ units_copied rooms.moves rooms.at to len scratch m img → img' ≡ units_moved from to len m img
      unfolding units_copied units_moved
      units_moved_lem up down =
          down
          ∙ paint_same (start_moves from to) (λ c. get_or rooms.moves c false) (λ c. get_or to c 0) (λ c. get_or to c 0) len (λ c. run_of img (get_or from c 0))
          (λ c. run_of scratch (get_or rooms.at c 0)) img m are.moves_are (λ c h. refl) (λ c h t. omega (arith, fits.to_in c h, len_is)) (in_room up)
