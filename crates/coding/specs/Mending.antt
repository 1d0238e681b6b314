-- The loop that fills the missing units, one run each: what it has done after q of them, a turn, and that it comes to the whole.
use Rattle.std.specs.Prelude.{◌≡◌, refl, Bool, true, false, List, [], ℕ, suc, ◌+◌, ◌-◌, ◌*◌, ◌/◌, ◌<◌, ◌≤◌, ltb, eqb, length, Option}
use Rattle.std.proofs.Math.Path.{sym, ap, ap₂, subst⁻¹}
use Rattle.std.proofs.Common.{◌∙◌, subst, suc-mul, le_trans, le-add_right, div-add-mod', div-lt_iff_lt-mul, le-div_iff_mul-le, arith}
use Rattle.std.proofs.Math.Logic.{⊎_elim}
use Rattle.std.proofs.Math.Arith.{digits_lt, digits_div, digits_mod}
use Rattle.std.proofs.Math.ListN.{get_or}
use borrow.Author.Tests.{lt-ltb, le-ltb, eq-eqb, ne_eqb}
use Rattle.lists.specs.Pick.{pick, pick_true, pick-false, either_way, below_or_not, equal_or_not, clash}
use Rattle.lists.specs.Count.{count}
use Rattle.lists.specs.Those.{length-those, those-lt, those_hold, those-place, those_rank}
use Rattle.lists.specs.Tabulate.{tabulated}
use Rattle.lists.specs.Span.{Span}
use Rattle.field.specs.Byte.{mul}
use Rattle.field.specs.Sum.{sum_cong}
use Rattle.kernel.specs.Combine.{sum_at}
use Rattle.kernel.specs.InPlace.{Apart}
use Rattle.parity.specs.Group.{Solvable, lost, gone, rebuilt}
use Rattle.parity.specs.Restores.{lost_most}
use Rattle.parity.specs.Local.{slot-there}
use Rattle.parity.specs.Matrix.{Holds, RowsFor}
use Rattle.parity.specs.Closing.{closing}
use Rattle.parity.specs.Made.{held_at, gone_most, gone_data}
use Rattle.parity.specs.Rows.{slot, row_of, row_gives}
use Rattle.coding.specs.Buffer.{column, rebuilt_byte, rebuilt_of}
use Rattle.coding.specs.Units.{unit_end, units_apart}
use Rattle.coding.specs.Closing.{closing_of, IsClosing, closes, closing_sum}

-- the first q missing units are filled
pub record Mended (n k unit : ℕ) (miss : ℕ → Bool) (old buf : List ℕ) (q : ℕ) : Type 0 where
  pub len : length buf ≡ length old
  pub at : (y : ℕ) → y < length old → get_or buf y 0 ≡ pick (ltb (count miss (y / unit)) q) (rebuilt_byte n k unit miss old y) (get_or old y 0)

-- what is worked out for a set of missing units before the loop: the units, their rows, where the slots start, and which missing unit is a
-- plain sum
pub record Ready (n k unit : ℕ) (miss : ℕ → Bool) (units : List ℕ) (total : ℕ) (rows : List (List ℕ)) (starts : List ℕ) (last : Option ℕ) : Type 0 where
  pub solvable : Solvable n k miss
  pub units_are : Holds (gone n k miss) units total
  pub rows_are : RowsFor n k miss rows
  pub starts_are : (j : ℕ) → j < n → get_or starts j 0 ≡ slot n k miss j * unit
  pub last_is : IsClosing last n miss

pick_same : {A : Type 0} (t : Bool) {a b : A} → a ≡ b → pick t a b ≡ b
pick_same true e = e
pick_same false e = refl

module _ {n k unit : ℕ} {miss : ℕ → Bool} (s : Solvable n k miss) (pos : 0 < unit) (old : List ℕ) (size : length old ≡ (n + k) * unit) where
  -- a unit that is there stays
  stays : (y : ℕ) → miss (y / unit) ≡ false → rebuilt_byte n k unit miss old y ≡ get_or old y 0
  unfolding rebuilt_byte rebuilt
  stays y t = pick-false (miss (y / unit)) _ _ t ∙ ap (λ (z : ℕ). get_or old z 0) (div-add-mod' y unit)

  -- a byte of unit v
  byte_at_lem : (v x : ℕ) → x < unit → rebuilt_byte n k unit miss old (v * unit + x) ≡ rebuilt n k miss (column old unit x) v
  unfolding rebuilt_byte
  byte_at_lem v x l = ap₂ (λ (a b : ℕ). rebuilt n k miss (column old unit a) b) (digits_mod v l) (digits_div v l)

  pub mend_none : Mended n k unit miss old old 0
  mend_none = record { len = refl; at = λ y h. sym (pick-false (ltb (count miss (y / unit)) 0) _ _ (le-ltb (count miss (y / unit)) 0 (omega arith))) }

  module _ {buf : List ℕ} {q : ℕ} (m : Mended n k unit miss old buf q) where
    -- in the middle of the loop too, the units that are there are as they were
    there_same : (v x : ℕ) → v < n + k → x < unit → miss v ≡ false → column buf unit x v ≡ column old unit x v
    there_same v x h l t =
        m.at (v * unit + x) (subst⁻¹ (λ (z : ℕ). v * unit + x < z) size (digits_lt h l))
        ∙ pick_same (ltb (count miss ((v * unit + x) / unit)) q) (stays (v * unit + x) (ap miss (digits_div v l) ∙ t))

    -- the missing unit number q
    module _ {units : List ℕ} {total : ℕ} (g : Holds (gone n k miss) units total) (h : q < total) where
      abbrev u : ℕ
      u = get_or units q 0

      abbrev at : ℕ
      at = u * unit

      among : q < length (gone n k miss)
      among = omega (arith, g.count_is)

      pub turn_lt : q < 3
      turn_lt = le_trans among (gone_most n k miss s)

      unit_is : u ≡ get_or (gone n k miss) q 0
      unit_is = held_at g q turn_lt

      missing : miss u ≡ true
      missing = ap miss unit_is ∙ those_hold miss (n + k) q among

      rank : count miss u ≡ q
      rank = ap (count miss) unit_is ∙ those_rank miss (n + k) q among

      inside : u < n + k
      inside = subst⁻¹ (λ (v : ℕ). v < n + k) unit_is (those-lt miss (n + k) q among)

      -- another missing unit has another number
      rank_apart : (v : ℕ) → v < n + k → miss v ≡ true → (v ≡ u → ⊥) → count miss v ≡ q → ⊥
      rank_apart v h t ne e = ne (sym (those-place miss (n + k) v h t).1 ∙ ap (λ (z : ℕ). get_or (gone n k miss) z 0) e ∙ sym unit_is)

      -- another unit is not touched by this turn, whether it is missing or not
      other : (y : ℕ) → y < length old → (y / unit ≡ u → ⊥)
          → pick (ltb (count miss (y / unit)) q) (rebuilt_byte n k unit miss old y) (get_or old y 0)
          ≡ pick (ltb (count miss (y / unit)) (q + 1)) (rebuilt_byte n k unit miss old y) (get_or old y 0)
      other y h ne =
          ⊎_elim
          (λ (t : miss (y / unit) ≡ true).
          let c = count miss (y / unit) in
          let apart : c ≡ q → ⊥ = rank_apart (y / unit) ((div-lt_iff_lt-mul pos).1 (subst (λ (z : ℕ). y < z) size h)) t ne in
          ap (λ (b : Bool). pick b (rebuilt_byte n k unit miss old y) (get_or old y 0))
          (below_or_not c q (λ (l : c < q). lt-ltb c q l ∙ sym (lt-ltb c (q + 1) (omega arith)))
          (λ (l : q ≤ c).
          le-ltb c q l
          ∙ sym (le-ltb c (q + 1) (equal_or_not c q (λ (e : c ≡ q). absurd (apart e)) (λ (f : c ≡ q → ⊥). beyond c q l f))))))
          (λ (t : miss (y / unit) ≡ false). pick_same (ltb (count miss (y / unit)) q) (stays y t) ∙ sym (pick_same (ltb (count miss (y / unit)) (q + 1)) (stays y t)))
          (either_way (miss (y / unit)))
        where
          beyond : (c q : ℕ) → q ≤ c → (c ≡ q → ⊥) → q + 1 ≤ c
          beyond c q l f = below_or_not q c (λ (g : q < c). omega arith) (λ (g : c ≤ q). absurd (f (omega arith)))

      -- one missing unit more, whatever sum gives its bytes
      mend_turn : (f : ℕ → ℕ) → ((x : ℕ) → x < unit → f x ≡ rebuilt_byte n k unit miss old (u * unit + x)) → {new : List ℕ}
          → Span (λ y. f (y - at)) at (at + unit) buf new → Mended n k unit miss old new (q + 1)
      mend_turn f unit_byte_lem {new} p = record { len = p.len ∙ m.len; at = each }
        where
          each : (y : ℕ) → y < length old → get_or new y 0 ≡ pick (ltb (count miss (y / unit)) (q + 1)) (rebuilt_byte n k unit miss old y) (get_or old y 0)
          each y h =
              below_or_not y at
              (λ (l : y < at).
              let d : y / unit < u = (div-lt_iff_lt-mul pos).1 (omega arith) in
              p.before y l ∙ m.at y h ∙ other y h (λ (e : y / unit ≡ u). absurd (omega arith)))
              (λ (l : at ≤ y).
              below_or_not y (at + unit)
              (λ (b : y < at + unit).
              let w : u * unit + (y - at) ≡ y = omega arith in
              let x : y - at < unit = omega arith in
              let d : y / unit ≡ u = ap (◌/ unit) (sym w) ∙ digits_div u x in
              p.done y l b ∙ unit_byte_lem (y - at) x ∙ ap (rebuilt_byte n k unit miss old) w
              ∙ sym (pick_true (ltb (count miss (y / unit)) (q + 1)) _ _ (lt-ltb (count miss (y / unit)) (q + 1) (omega (arith, ap (count miss) d, rank)))))
              (λ (b : at + unit ≤ y).
              let z : suc u * unit ≤ y = let g : suc u * unit ≡ u * unit + unit = simp suc-mul in omega arith in
              let d : suc u ≤ y / unit = (le-div_iff_mul-le pos).1 z in
              p.after y b ∙ m.at y h ∙ other y h (λ (e : y / unit ≡ u). absurd (omega arith))))

      pub unit_fits : at + unit ≤ length buf
      unit_fits = omega (arith, m.len, unit_end u (n + k) unit inside)

      module _ (rows : List (List ℕ)) (starts : List ℕ) (rows_are : RowsFor n k miss rows)
          (starts_are : (j : ℕ) → j < n → get_or starts j 0 ≡ slot n k miss j * unit) where
        -- a byte of the unit, as the sum over the slots
        slots_byte : (x : ℕ) → x < unit → sum_at n (get_or rows q []) starts buf x ≡ rebuilt_byte n k unit miss old (u * unit + x)
        unfolding sum_at
        slots_byte x l =
            sum_cong n _ _ (λ j i. ap₂ mul (rows_are q among j i ∙ ap (λ (v : ℕ). row_of n k miss v j) (sym unit_is)) (ap (λ (z : ℕ). get_or buf (z + x) 0) (starts_are j i)
            ∙ there_same (slot n k miss j) x (slot-there n k miss s j i).1 l (slot-there n k miss s j i).0))
            ∙ sym (row_gives n k miss (lost_most n k miss s) (column old unit x) u missing)
            ∙ sym (byte_at_lem u x l)

        pub slots_turn : {new : List ℕ} → Span (λ y. sum_at n (get_or rows q []) starts buf (y - at)) at (at + unit) buf new → Mended n k unit miss old new (q + 1)
        slots_turn = mend_turn (sum_at n (get_or rows q []) starts buf) slots_byte

        -- the slots' units lie apart from it
        pub slots_apart : (j : ℕ) → j < n → Apart (get_or starts j 0) at unit (length buf)
        slots_apart j i =
            let t = slot-there n k miss s j i in
            units_apart (slot n k miss j) u (n + k) unit (starts_are j i) refl (omega (arith, m.len)) t.1
            (λ (e : slot n k miss j ≡ u). clash (miss u) missing (ap miss (sym e) ∙ t.0))

      -- the last lost data unit, where parity unit 0 is there: the other data units are right by now
      module _ (due : q + 1 ≡ closing_of n miss) where
        lost-all : (miss n ≡ false) × (q + 1 ≡ length (lost n miss))
        lost-all = closes n miss q due

        pub closing_data : u < n
        closing_data = subst⁻¹ (λ (v : ℕ). v < n) unit_is (gone_data n k miss s q among (omega (arith, lost-all.1)))

        -- there are parity units, since a unit is missing
        parity_inside : n < n + k
        parity_inside = omega (arith, length-those miss (n + k), s.few)

        pub parity_fits : n * unit + unit ≤ length buf
        parity_fits = omega (arith, m.len, unit_end n (n + k) unit parity_inside)

        -- a data unit that was there is as it was, and a lost one has its turn behind it
        filled : (j x : ℕ) → j < n → x < unit → (j ≡ u → ⊥) → column buf unit x j ≡ rebuilt n k miss (column old unit x) j
        filled j x h l ne =
            m.at (j * unit + x) (subst⁻¹ (λ (z : ℕ). j * unit + x < z) size (digits_lt (le_trans h (le-add_right n k)) l))
            ∙ ⊎_elim
            (λ (t : miss j ≡ true).
            let c = count miss j in
            let c_is : count miss ((j * unit + x) / unit) ≡ c = ap (count miss) (digits_div j l) in
            let below : c < q =
            below_or_not c q (λ (i : c < q). i)
            (λ (i : q ≤ c). absurd (rank_apart j (le_trans h (le-add_right n k)) t ne (omega (arith, (those-place miss n j h t).0, lost-all.1))))
            in pick_true (ltb (count miss ((j * unit + x) / unit)) q) _ _ (lt-ltb (count miss ((j * unit + x) / unit)) q (omega arith)))
            (λ (t : miss j ≡ false).
            let e = stays (j * unit + x) (ap miss (digits_div j l) ∙ t) in
            pick_same (ltb (count miss ((j * unit + x) / unit)) q) e ∙ sym e)
            (either_way (miss j))
            ∙ byte_at_lem j x l

        -- a byte of the unit, as the plain sum
        closing_byte : ((y : ℕ) → get_or old y 0 < 256) → (x : ℕ) → x < unit → closing_sum n unit u buf x ≡ rebuilt_byte n k unit miss old (u * unit + x)
        unfolding closing_sum
        closing_byte b x l =
            sum_cong n _ _ (λ j h. equal_or_not j u
            (λ (e : j ≡ u).
            let t = eq-eqb j u e in
            ap (column buf unit x) (pick_true (eqb j u) n j t) ∙ there_same n x parity_inside l lost-all.0 ∙ sym (pick_true (eqb j u) (column old unit x n) _ t))
            (λ (ne : j ≡ u → ⊥).
            let t = ne_eqb j u ne in
            ap (column buf unit x) (pick-false (eqb j u) n j t) ∙ filled j x h l ne ∙ sym (pick-false (eqb j u) (column old unit x n) _ t)))
            ∙ sym (closing n k miss s (column old unit x) (λ v i. b (v * unit + x)) u closing_data missing lost-all.0)
            ∙ sym (byte_at_lem u x l)

        pub closing_turn : ((y : ℕ) → get_or old y 0 < 256) → {new : List ℕ} → Span (λ y. closing_sum n unit u buf (y - at)) at (at + unit) buf new
            → Mended n k unit miss old new (q + 1)
        closing_turn b = mend_turn (closing_sum n unit u buf) (closing_byte b)

    pub mend_all : q ≡ length (gone n k miss) → buf ≡ rebuilt_of n k unit miss old
    unfolding rebuilt_of
    mend_all e =
        tabulated (length old) (rebuilt_byte n k unit miss old) buf 0 m.len
        (λ y h. m.at y h
        ∙ ⊎_elim
        (λ (t : miss (y / unit) ≡ true).
        let p = those-place miss (n + k) (y / unit) ((div-lt_iff_lt-mul pos).1 (subst (λ (z : ℕ). y < z) size h)) t in
        pick_true (ltb (count miss (y / unit)) q) _ _ (lt-ltb (count miss (y / unit)) q (omega arith)))
        (λ (t : miss (y / unit) ≡ false). pick_same (ltb (count miss (y / unit)) q) (stays y t) ∙ sym (stays y t)) (either_way (miss (y / unit))))
