-- A read of a group: the file bytes that fall into it. `out` begins at file byte a, the group's data at file byte s.
use Rattle.std.specs.Prelude.{◌≡◌, refl, Bool, ℕ, ◌+◌, ◌-◌, ◌*◌, ◌/◌, ◌%◌, ◌<◌, ◌≤◌, min, length}
use Rattle.std.proofs.Math.Path.{sym, ap}
use Rattle.std.proofs.Common.{ap₂, subst, ◌∙◌, mul_comm}
use Rattle.std.proofs.Math.Bool.{false}
use mathlib.Core.List.{List}
use native.Mathlib.Omega.{arith}
use borrow.Author.Tests.{lt-ltb, le-ltb}
use Rattle.std.proofs.Math.Dec.{ltb}
use Rattle.std.proofs.Math.ListN.{get_or}
use Rattle.lists.specs.Pick.{pick, pick_true, pick-false, clash, below_or_not}
use Rattle.lists.specs.Part.{within, within_in, within-before, within-after, within_cases}
use Rattle.lists.specs.Digits.{div_of, mod_of}
use Rattle.lists.specs.Tabulate.{tabulate, tabulated, get_d_tabulate}
use Rattle.plan.specs.declared.Plan.{Plan}
use Rattle.plan.specs.Plans.{held}
use Rattle.runs.specs.Run.{run_set, length-run_set, run_set_in, run_set_out}
use Rattle.runs.specs.Held.{held_run}

-- byte y of the group's data
unfoldable pub group_byte : Plan → List ℕ → ℕ → ℕ
group_byte P img y = held P img (y % P.u) (y / P.u)

-- out with the file bytes of the group
unfoldable pub group_read : Plan → List ℕ → ℕ → ℕ → List ℕ → List ℕ
group_read P img s a out = tabulate (length out) (λ x. pick (within s (P.n * P.u) (a + x)) (group_byte P img (a + x - s)) (get_or out x 0))

-- byte x of it once the first v data units are read
unfoldable pub read_to : Plan → List ℕ → ℕ → ℕ → List ℕ → ℕ → ℕ → ℕ
read_to P img s a out v x = pick (within s (P.u * v) (a + x)) (group_byte P img (a + x - s)) (get_or out x 0)

-- out with the file bytes of data unit v, which begins at file byte b
unfoldable pub unit_read : Plan → List ℕ → ℕ → ℕ → ℕ → List ℕ → List ℕ
unit_read P img b a v out = tabulate (length out) (λ x. pick (within b P.u (a + x)) (held P img (a + x - b) v) (get_or out x 0))

-- ---- one unit

-- nothing of the unit is named
pub unit_none : (P : Plan) (img : List ℕ) (b a v : ℕ) (out : List ℕ) (lo hi : ℕ) → lo ≡ a - b → hi ≡ min (a + length out - b) P.u → hi ≤ lo
    → out ≡ unit_read P img b a v out
unfolding unit_read
unit_none P img b a v out lo hi el eh h =
    tabulated (length out) _ out 0 refl
    (λ x k. within_cases b P.u (a + x) (λ p q. absurd (omega arith)) (λ w. sym (pick-false (within b P.u (a + x)) _ _ w)))

-- its named part is one run: the numbers that meet there
start_is : (a b lo : ℕ) → lo ≡ a - b → b + lo - a ≡ b - a
start_is a b lo e = omega arith

place_is : (a b x : ℕ) → b ≤ a + x → a - b + (x - (b - a)) ≡ a + x - b
place_is a b x h = omega arith

end_is : (a b n u hi y : ℕ) → hi ≡ min (a + n - b) u → b + y < a + n → y < u → y < hi
end_is a b n u hi y e h k = omega arith

end-le : (a b n u hi : ℕ) → hi ≡ min (a + n - b) u → 0 < hi → (hi ≤ u) × (b + hi ≤ a + n)
end-le a b n u hi e h = (omega arith, omega arith)

back_in : (a b x hi u : ℕ) → hi ≤ u → b - a ≤ x → x < b - a + (hi - (a - b)) → (b ≤ a + x) × (a + x < b + u)
back_in a b x hi u h p q = (omega arith, omega arith)

run_is : (P : Plan) (img : List ℕ) (b a v : ℕ) (out out' : List ℕ) (hi : ℕ) → a - b < hi → hi ≤ P.u → b + hi ≤ a + length out
    → ((y : ℕ) → b + y < a + length out → y < P.u → y < hi) → out' ≡ run_set (b - a) (hi - (a - b)) (held_run P img (a - b) v) out → out' ≡ unit_read P img b a v out
unfolding unit_read held_run
run_is P img b a v out out' hi h hu hn top e =
    tabulated (length out) _ out' 0 (ap length e ∙ length-run_set (b - a) (hi - (a - b)) f out)
    (λ x k.
    ap (λ (l : List ℕ). get_or l x 0) e
    ∙ within_cases b P.u (a + x)
    (λ p q.
    let y = place_is a b x p in
    let z : b - a + (x - (b - a)) ≡ x = omega arith in
    let t : a + x - b < hi = top (a + x - b) (omega arith) (omega arith) in
    ap (λ (i : ℕ). get_or (run_set (b - a) (hi - (a - b)) f out) i 0) (sym z)
    ∙ run_set_in (b - a) (hi - (a - b)) f out (x - (b - a)) (short x y t) room
    ∙ ap (λ (i : ℕ). held P img i v) y
    ∙ sym (pick_true (within b P.u (a + x)) _ _ (within_in b P.u (a + x) p q)))
    (λ w.
    run_set_out (b - a) (hi - (a - b)) f out x k
    (within_cases (b - a) (hi - (a - b)) x
    (λ p q. let m = back_in a b x hi P.u hu p q in clash (within b P.u (a + x)) (within_in b P.u (a + x) m.0 m.1) w) (λ u. u))
    ∙ sym (pick-false (within b P.u (a + x)) _ _ w)))
  where
    f : ℕ → ℕ
    f o = held P img (a - b + o) v

    room : b - a + (hi - (a - b)) ≤ length out
    room = omega arith

    short : (x : ℕ) → a - b + (x - (b - a)) ≡ a + x - b → a + x - b < hi → x - (b - a) < hi - (a - b)
    short x y t = omega arith

pub unit_run : (P : Plan) (img : List ℕ) (b a v : ℕ) (out out' : List ℕ) (lo hi : ℕ) → lo ≡ a - b → hi ≡ min (a + length out - b) P.u → lo < hi
    → out' ≡ run_set (b + lo - a) (hi - lo) (held_run P img lo v) out → out' ≡ unit_read P img b a v out
unit_run P img b a v out out' lo hi el eh h e =
    let k = end-le a b (length out) P.u hi eh (omega arith) in
    run_is P img b a v out out' hi (subst (λ (z : ℕ). z < hi) el h) k.0 k.1 (λ y. end_is a b (length out) P.u hi y eh)
    (e ∙ ap₂ (λ (t z : ℕ). run_set t (hi - z) (held_run P img z v) out) (start_is a b lo el) el)

-- ---- one unit after another

pub read_none : (P : Plan) (img : List ℕ) (s a : ℕ) (out : List ℕ) (x : ℕ) → get_or out x 0 ≡ read_to P img s a out 0 x
unfolding read_to
read_none P img s a out x =
    sym (pick-false (within s (P.u * 0) (a + x)) _ _ (within_cases s (P.u * 0) (a + x) (λ p q. absurd (omega arith)) (λ w. w)))

pub read_step : (P : Plan) (img : List ℕ) (s a v : ℕ) (out₀ out out' : List ℕ) → length out ≡ length out₀
    → ((x : ℕ) → x < length out₀ → get_or out x 0 ≡ read_to P img s a out₀ v x)
    → out' ≡ unit_read P img (s + P.u * v) a v out → (x : ℕ) → x < length out₀ → get_or out' x 0 ≡ read_to P img s a out₀ (v + 1) x
unfolding read_to unit_read group_byte
read_step P img s a v out₀ out out' el done e x h =
    ap (λ (l : List ℕ). get_or l x 0) e
    ∙ get_d_tabulate (length out) _ x 0 (omega arith)
    ∙ within_cases (s + P.u * v) P.u (a + x)
    (λ p q.
    let y : a + x - s ≡ P.u * v + (a + x - (s + P.u * v)) = omega arith in
    let ho : a + x - (s + P.u * v) < P.u = omega arith in
    pick_true (within (s + P.u * v) P.u (a + x)) _ _ (within_in (s + P.u * v) P.u (a + x) p q)
    ∙ sym (pick_true (within s (P.u * (v + 1)) (a + x)) _ _ (within_in s (P.u * (v + 1)) (a + x) (omega arith) (omega arith))
    ∙ ap₂ (held P img) (ap (◌% P.u) y ∙ mod_of P.u v ho) (ap (◌/ P.u) y ∙ div_of P.u v ho)))
    (λ w.
    pick-false (within (s + P.u * v) P.u (a + x)) _ _ w ∙ done x h
    ∙ ap (λ (t : Bool). pick t (held P img ((a + x - s) % P.u) ((a + x - s) / P.u)) (get_or out₀ x 0)) (same w))
  where
    same : within (s + P.u * v) P.u (a + x) ≡ false → within s (P.u * v) (a + x) ≡ within s (P.u * (v + 1)) (a + x)
    same w =
        below_or_not (a + x) s
        (λ (k : a + x < s). within-before s (P.u * v) (a + x) k ∙ sym (within-before s (P.u * (v + 1)) (a + x) k))
        (λ (k : s ≤ a + x).
        below_or_not (a + x) (s + P.u * v)
        (λ (i : a + x < s + P.u * v). within_in s (P.u * v) (a + x) k i ∙ sym (within_in s (P.u * (v + 1)) (a + x) k (omega arith)))
        (λ (i : s + P.u * v ≤ a + x).
        below_or_not (a + x) (s + P.u * v + P.u)
        (λ (j : a + x < s + P.u * v + P.u). clash _ (within_in (s + P.u * v) P.u (a + x) i j) w)
        (λ (j : s + P.u * v + P.u ≤ a + x). within-after s (P.u * v) (a + x) i ∙ sym (within-after s (P.u * (v + 1)) (a + x) (omega arith)))))

pub read_end : (P : Plan) (img : List ℕ) (s a v : ℕ) (out₀ out : List ℕ) → length out ≡ length out₀
    → ((x : ℕ) → x < length out₀ → get_or out x 0 ≡ read_to P img s a out₀ v x) → v ≡ P.n → out ≡ group_read P img s a out₀
unfolding read_to group_read
read_end P img s a v out₀ out e done q =
    tabulated (length out₀) _ out 0 e
    (λ x h. done x h ∙ ap (λ (i : ℕ). pick (within s i (a + x)) (group_byte P img (a + x - s)) (get_or out₀ x 0)) (ap (P.u *◌) q ∙ mul_comm P.u P.n))

-- ---- one group after another: F is the file, and all its bytes before file byte s are read

module _ (F : ℕ → ℕ) (a : ℕ) (out₀ : List ℕ) where
  pub file_none : (s : ℕ) → s ≤ a → (x : ℕ) → get_or out₀ x 0 ≡ pick (ltb (a + x) s) (F (a + x)) (get_or out₀ x 0)
  file_none s h x = sym (pick-false (ltb (a + x) s) _ _ (le-ltb (a + x) s (omega arith)))

  pub file_step : (P : Plan) (img : List ℕ) (s : ℕ) (out out' : List ℕ) → length out ≡ length out₀
      → ((y : ℕ) → y < P.n * P.u → group_byte P img y ≡ F (s + y))
      → ((x : ℕ) → x < length out₀ → get_or out x 0 ≡ pick (ltb (a + x) s) (F (a + x)) (get_or out₀ x 0)) → out' ≡ group_read P img s a out
      → (x : ℕ) → x < length out₀ → get_or out' x 0 ≡ pick (ltb (a + x) (s + P.n * P.u)) (F (a + x)) (get_or out₀ x 0)
  unfolding group_read
  file_step P img s out out' el here done e x h =
      ap (λ (l : List ℕ). get_or l x 0) e
      ∙ get_d_tabulate (length out) _ x 0 (omega arith)
      ∙ within_cases s (P.n * P.u) (a + x)
      (λ p q.
      let y : s + (a + x - s) ≡ a + x = omega arith in
      pick_true (within s (P.n * P.u) (a + x)) _ _ (within_in s (P.n * P.u) (a + x) p q)
      ∙ here (a + x - s) (omega arith)
      ∙ ap F y
      ∙ sym (pick_true (ltb (a + x) (s + P.n * P.u)) _ _ (lt-ltb (a + x) (s + P.n * P.u) q)))
      (λ w.
      pick-false (within s (P.n * P.u) (a + x)) _ _ w
      ∙ done x h
      ∙ ap (λ (t : Bool). pick t (F (a + x)) (get_or out₀ x 0)) (same w))
    where
      same : within s (P.n * P.u) (a + x) ≡ false → ltb (a + x) s ≡ ltb (a + x) (s + P.n * P.u)
      same w =
          below_or_not (a + x) s (λ (k : a + x < s). lt-ltb (a + x) s k ∙ sym (lt-ltb (a + x) (s + P.n * P.u) (omega arith)))
          (λ (k : s ≤ a + x).
          below_or_not (a + x) (s + P.n * P.u) (λ (i : a + x < s + P.n * P.u). clash _ (within_in s (P.n * P.u) (a + x) k i) w)
          (λ (i : s + P.n * P.u ≤ a + x). le-ltb (a + x) s k ∙ sym (le-ltb (a + x) (s + P.n * P.u) i)))

  pub file_done : (s : ℕ) (out : List ℕ) → length out ≡ length out₀ → a + length out₀ ≤ s
      → ((x : ℕ) → x < length out₀ → get_or out x 0 ≡ pick (ltb (a + x) s) (F (a + x)) (get_or out₀ x 0)) → out ≡ tabulate (length out₀) (λ x. F (a + x))
  file_done s out el h done =
      tabulated (length out₀) _ out 0 el (λ x b. done x b ∙ pick_true (ltb (a + x) s) _ _ (lt-ltb (a + x) s (omega arith)))
