-- Which data units are named at the unit offsets between two cuts.
use Rattle.std.specs.Prelude.{◌≡◌, ◌⊎◌, true, false, ℕ, ◌+◌, ◌-◌, ◌*◌, ◌/◌, ◌%◌, ◌<◌, ◌≤◌, min, max, ltb}
use Rattle.std.proofs.Math.Path.{sym}
use Rattle.std.proofs.Common.{subst, ◌∙◌, inl, inr, ⊎_elim, arith, mul-le-mul_left, mul_comm, le_refl, mod-lt, ltb-true, ltb-false}
use Rattle.std.proofs.Math.Nat.{div-add-mod}
use Rattle.lists.specs.Pick.{pick, pick_true, pick-false, either_way, below_or_not}
use Rattle.lists.specs.Part.{within_in, within-before, within-after, within-true}
use Rattle.lists.specs.Digits.{div_below}
use Rattle.plan.specs.declared.Plan.{Plan}
use Rattle.updates.specs.Writing.{RunFits}
use Rattle.lists.specs.Between.{between, between_in, between-before, between-after, between-true, next}
use Rattle.groups.specs.Write.{name_at, Named, Cut, Uncut}

-- the first unit of which the byte at unit offset lo is at or after byte o of unit v
abbrev pub unit_from : ℕ → ℕ → ℕ → ℕ
unit_from v o lo = pick (ltb lo o) (v + 1) v

pub unit_le : (v o lo n : ℕ) → v < n → unit_from v o lo ≤ n
unit_le v o lo n h =
    ⊎_elim (λ (t : ltb lo o ≡ true). let e : unit_from v o lo ≡ v + 1 = pick_true (ltb lo o) (v + 1) v t in omega arith)
    (λ (t : ltb lo o ≡ false). let e : unit_from v o lo ≡ v = pick-false (ltb lo o) (v + 1) v t in omega arith) (either_way (ltb lo o))

module _ (u v q j o lo hi : ℕ) (ho : o < u) (hq : q ≤ u) (hl : lo ≤ o) (hh : o < hi) (cut : (hi ≤ q) ⊎ (q ≤ lo)) where
  at_least : unit_from v q lo ≤ j → u * v + q ≤ u * j + o
  at_least h =
      ⊎_elim
      (λ (t : ltb lo q ≡ true).
      let k : v + 1 ≤ j = subst (λ (x : ℕ). x ≤ j) (pick_true (ltb lo q) (v + 1) v t) h in
      omega (arith, next u v j (let z : v < j = omega arith in z)))
      (λ (t : ltb lo q ≡ false).
      let k : v ≤ j = subst (λ (x : ℕ). x ≤ j) (pick-false (ltb lo q) (v + 1) v t) h in
      let g : q ≤ lo = ltb-false lo q t in
      omega (arith, mul-le-mul_left u k)) (either_way (ltb lo q))

  at_most : j < unit_from v q lo → u * j + o < u * v + q
  at_most h =
      ⊎_elim
      (λ (t : ltb lo q ≡ true).
      let k : j < v + 1 = subst (λ (x : ℕ). j < x) (pick_true (ltb lo q) (v + 1) v t) h in
      let g : lo < q = ltb-true lo q t in
      let c : o < q = ⊎_elim (λ (w : hi ≤ q). let z : o < q = omega arith in z) (λ (w : q ≤ lo). let z : o < q = omega arith in z) cut in
      omega (arith, mul-le-mul_left u (let z : j ≤ v = omega arith in z)))
      (λ (t : ltb lo q ≡ false).
      let k : j < v = subst (λ (x : ℕ). j < x) (pick-false (ltb lo q) (v + 1) v t) h in
      omega (arith, next u j v k)) (either_way (ltb lo q))

-- at the offsets lo .. hi the named units are those between two units
module _ (P : Plan) (s a count v1 o1 v2 o2 lo hi : ℕ) (cut : Cut P.n P.u s a (a + count) v1 o1 v2 o2) (part : Uncut P.u o1 o2 lo hi) where
  pub names : (o j : ℕ) → lo ≤ o → o < hi → j < P.n → name_at P s a count o j ≡ between (unit_from v1 o1 lo) (unit_from v2 o2 lo) j
  unfolding name_at
  names o j hl hh hj =
      below_or_not j (unit_from v1 o1 lo)
      (λ (b : j < unit_from v1 o1 lo).
      let y = at_most P.u v1 o1 j o lo hi ou (omega (arith, cut.o1_lt)) hl hh part.by_1 b in
      within-before a count (s + (P.u * j + o)) (before y) ∙ sym (between-before (unit_from v1 o1 lo) (unit_from v2 o2 lo) j b))
      (λ (b : unit_from v1 o1 lo ≤ j).
      let y = at_least P.u v1 o1 j o lo hi ou (omega (arith, cut.o1_lt)) hl hh part.by_1 b in
      below_or_not j (unit_from v2 o2 lo)
      (λ (d : j < unit_from v2 o2 lo).
      let z = at_most P.u v2 o2 j o lo hi ou cut.o2_le hl hh part.by_2 d in
      within_in a count (s + (P.u * j + o)) (from y) (below z) ∙ sym (between_in (unit_from v1 o1 lo) (unit_from v2 o2 lo) j b d))
      (λ (d : unit_from v2 o2 lo ≤ j).
      let z = at_least P.u v2 o2 j o lo hi ou cut.o2_le hl hh part.by_2 d in
      within-after a count (s + (P.u * j + o)) (above z) ∙ sym (between-after (unit_from v1 o1 lo) (unit_from v2 o2 lo) j d)))
    where
      ou : o < P.u
      ou = omega (arith, part.hi-le)

      room : P.u * j + o < P.u * P.n
      room = omega (arith, next P.u j P.n hj, part.hi-le)

      from : P.u * v1 + o1 ≤ P.u * j + o → a ≤ s + (P.u * j + o)
      from h = ⊎_elim (λ w. omega (arith, w.0)) (λ (w : a ≡ s + (P.u * v1 + o1)). omega arith) cut.low

      before : P.u * j + o < P.u * v1 + o1 → s + (P.u * j + o) < a
      before h = ⊎_elim (λ w. omega (arith, w.1)) (λ (w : a ≡ s + (P.u * v1 + o1)). omega arith) cut.low

      below : P.u * j + o < P.u * v2 + o2 → s + (P.u * j + o) < a + count
      below h = ⊎_elim (λ w. omega (arith, w.0, room)) (λ (w : a + count ≡ s + (P.u * v2 + o2)). omega arith) cut.high

      above : P.u * v2 + o2 ≤ P.u * j + o → a + count ≤ s + (P.u * j + o)
      above h = ⊎_elim (λ w. omega (arith, w.1, room)) (λ (w : a + count ≡ s + (P.u * v2 + o2)). omega arith) cut.high

-- ---- the ends of the named bytes

pub cut_some : (n u s a count d : ℕ) → Named n u s a count → d ≡ min (a + count - s) (n * u) → 1 ≤ d
cut_some n u s a count d nm ed = omega (arith, next u 0 n nm.n_pos, mul_comm n u, nm.u_pos, nm.after)

pub cut_made : (n u s a count b d : ℕ) → Named n u s a count → b ≡ a - s → d ≡ min (a + count - s) (n * u)
    → Cut n u s a (a + count) (b / u) (b % u) ((d - 1) / u) ((d - 1) % u + 1)
cut_made n u s a count b d nm eb ed =
    let pos = nm.u_pos in
    let bf = nm.before in
    let af = nm.after in
    let some = cut_some n u s a count d nm ed in
    let flip : n * u ≡ u * n = mul_comm n u in
    let eb' = div-add-mod b u in
    let ed' = div-add-mod (d - 1) u in
    let mb = mod-lt b pos in
    let md = mod-lt (d - 1) pos in
    record {
      o1_lt = mb;
      o2_le = omega arith;
      v1_lt = div_below b u n pos (omega arith);
      v2_lt = div_below (d - 1) u n pos (omega arith);
      low = below_or_not s a (λ (h : s < a). inr (omega arith)) (λ (h : a ≤ s). inl (h, omega arith));
      high = below_or_not (a + count - s) (n * u) (λ (h : a + count - s < n * u). inr (omega arith))
          (λ (h : n * u ≤ a + count - s). inl (omega arith, omega arith));
    }

-- the three ranges of unit offsets, cut at both ends
module _ (n u s a e v1 o1 v2 o2 m : ℕ) (cut : Cut n u s a e v1 o1 v2 o2) where
  pub part_1 : m ≡ min o1 o2 → Uncut u o1 o2 0 m
  part_1 em = record { hi-le = omega (arith, cut.o2_le); by_1 = inl (omega arith); by_2 = inl (omega arith) }

  pub part_2 : (m' : ℕ) → m ≡ min o1 o2 → m' ≡ max o1 o2 → Uncut u o1 o2 m m'
  part_2 m' em em' =
      let x = cut.o1_lt in
      let y = cut.o2_le in
      record {
        hi-le = omega arith;
        by_1 = below_or_not o2 o1 (λ (h : o2 < o1). inl (omega arith)) (λ (h : o1 ≤ o2). inr (omega arith));
        by_2 = below_or_not o2 o1 (λ (h : o2 < o1). inr (omega arith)) (λ (h : o1 ≤ o2). inl (omega arith));
      }

  pub part_3 : m ≡ max o1 o2 → Uncut u o1 o2 m u
  part_3 em = record { hi-le = le_refl u; by_1 = inr (omega arith); by_2 = inr (omega arith) }

-- what a run asks
pub run_fits : (P : Plan) (s a count v1 o1 v2 o2 lo hi u1 u2 : ℕ) → Cut P.n P.u s a (a + count) v1 o1 v2 o2 → Uncut P.u o1 o2 lo hi
    → u1 ≡ unit_from v1 o1 lo → u2 ≡ unit_from v2 o2 lo → s ≤ 17592186044416 → u1 < u2 → lo < hi → RunFits P s a u1 (u2 - u1) lo (hi - lo) count
unfolding name_at
run_fits P s a count v1 o1 v2 o2 lo hi u1 u2 cut part e1 e2 sm some hlt =
    record {
      s-max = sm;
      some = omega arith;
      inside = omega (arith, unit_le v2 o2 lo P.n cut.v2_lt);
      room = omega (arith, part.hi-le);
      first = λ j t. let w = named_in j lo t (le_refl lo) hlt in omega (arith, w.0);
      last = λ j t.
          let w = named_in j lo t (le_refl lo) hlt in
          let z = named_in j (hi - 1) t (omega arith) (omega arith) in
          omega (arith, w.0, z.1);
    }
  where
    named_in : (j o : ℕ) → between u1 u2 j ≡ true → lo ≤ o → o < hi → (a ≤ s + (P.u * j + o)) × (s + (P.u * j + o) < a + count)
    named_in j o t hl hh =
        let b = between-true u1 u2 j t in
        let p = b.0 in
        let q = b.1 in
        within-true a count (s + (P.u * j + o))
        (names P s a count v1 o1 v2 o2 lo hi cut part o j hl hh (omega (arith, unit_le v2 o2 lo P.n cut.v2_lt))
        ∙ between_in (unit_from v1 o1 lo) (unit_from v2 o2 lo) j (omega arith) (omega arith))
