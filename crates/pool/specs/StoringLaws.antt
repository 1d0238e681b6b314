-- Contents stored at their homes: what stands at a home afterwards, what changes at all, and what it depends on.
use Rattle.std.specs.Prelude.{◌≡◌, refl, ◌⊎◌, Bool, true, false, List, eqb, length}
use Rattle.std.proofs.Math.Path.{sym, subst}
use Rattle.std.proofs.Common.{ap, ◌∙◌}
use Rattle.std.proofs.Math.Logic.{inl, inr, ⊎_elim}
use Prim.Native.Nat.{ℕ, ◌≤◌, ◌<◌}
use borrow.Author.Tests.{lt-ltb, ltb-true, eqb-true, eq-eqb}
use Rattle.std.proofs.Math.Dec.{ltb}
use Rattle.lists.specs.Pick.{pick, both, pick-false, either_way, both_true}
use Rattle.lists.specs.Search.{any-true, lowest_is, lowest-passes}
use Rattle.lists.specs.Tabulate.{at, length-tabulate, get_d_tabulate, tabulated, tabulate_ext}
use Rattle.numbers.specs.declared.Layout.{Layout}
use Rattle.numbers.specs.Layouts.{Valid, all_groups, contents, image_length}
use Rattle.place.specs.Bytes.{spot, unit_here, offset_here}
use Rattle.place.specs.ByteLaws.{spot_in, group_there, unit_there', offset_there, spot-here, group_here-lt, offset_here-lt}
use Rattle.homes.specs.declared.Record.{Record}
use Rattle.homes.specs.Missing.{home}
use Rattle.homes.proofs.MissingLaws.{home_apart, home-lt}
use Rattle.pool.specs.Storing.{owner, cell_after, storing, Stores}

-- ---- owners and homes

pub owner-home : (y : Layout) → Valid y → (R : Record) (g j : ℕ) → j ≤ y.k → (c : ℕ) → c < contents y → owner y R j g (home y R j g c) ≡ c
unfolding owner
owner-home y v R g j le c h =
    let test : ℕ → Bool = λ i. eqb (home y R j g i) (home y R j g c) in
    let r = lowest_is test (contents y) (any-true test (contents y) c h (eq-eqb (home y R j g c) (home y R j g c) refl)) in
    (home_apart y v R g j le).differ _ c r.0 h (eqb-true _ _ r.1)

pub home-owner : (y : Layout) (R : Record) (g j u : ℕ) → owner y R j g u < contents y → home y R j g (owner y R j g u) ≡ u
unfolding owner
home-owner y R g j u h = eqb-true _ _ (lowest-passes (λ c. eqb (home y R j g c) u) (contents y) h)

-- ---- stored

pub storing-length : (y : Layout) (R : Record) (j : ℕ) (on : ℕ → ℕ → ℕ → Bool) (val : ℕ → ℕ → ℕ → ℕ) (img : List ℕ)
    → length (storing y R j on val img) ≡ length img
unfolding storing
storing-length y R j on val img = length-tabulate (length img) _

cell_off : (m : ℕ) (on : ℕ → ℕ → ℕ → Bool) (val : ℕ → ℕ → ℕ → ℕ) (g o c old : ℕ) → on g o c ≡ false → cell_after m on val g o c old ≡ old
unfolding cell_after
cell_off m on val g o c old e = by (ltb c m)
  where
    by : (t : Bool) → pick (both t (on g o c)) (val g o c) old ≡ old
    by true = pick-false (on g o c) (val g o c) old e
    by false = refl

-- the group of image byte x, and the content whose home under the first j entries is there
abbrev pub group_here : Layout → ℕ → ℕ
group_here y x = (unit_here y x).group

abbrev pub owner_here : Layout → Record → ℕ → ℕ → ℕ
owner_here y R j x = owner y R j (group_here y x) (unit_here y x).unit

-- byte x afterwards
pub storing_cell : (y : Layout) (R : Record) (j : ℕ) (on : ℕ → ℕ → ℕ → Bool) (val : ℕ → ℕ → ℕ → ℕ) (img : List ℕ) (x : ℕ) → x < length img
    → at (storing y R j on val img) x
    ≡ pick (both (ltb (owner_here y R j x) (contents y)) (on (group_here y x) (offset_here y x) (owner_here y R j x))) (val (group_here y x) (offset_here y x) (owner_here y R j x)) (at img x)
unfolding storing cell_after
storing_cell y R j on val img x h = get_d_tabulate (length img) _ x 0 h

-- nothing is stored: the image is as it was
pub storing-none : (y : Layout) (R : Record) (j : ℕ) (on : ℕ → ℕ → ℕ → Bool) (val : ℕ → ℕ → ℕ → ℕ) (img : List ℕ)
    → ((g o c : ℕ) → on g o c ≡ false) → storing y R j on val img ≡ img
unfolding storing
storing-none y R j on val img h =
    sym (tabulated (length img) _ img 0 refl (λ x b. sym (cell_off (contents y) on val _ _ _ (at img x) (h _ _ _))))

module _ (y : Layout) (v : Valid y) (R : Record) (j : ℕ) (on : ℕ → ℕ → ℕ → Bool) (val : ℕ → ℕ → ℕ → ℕ) (img : List ℕ) (len : length img ≡ image_length y) where
  -- at a home: the new value where it is stored, else the old one
  pub storing-at : j ≤ y.k → (g o c : ℕ) → g < all_groups y → o < y.u → c < contents y
      → at (storing y R j on val img) (spot y g (home y R j g c) o) ≡ pick (on g o c) (val g o c) (at img (spot y g (home y R j g c) o))
  unfolding storing cell_after
  storing-at le g o c hg ho hc =
      let hu = home-lt y v R g j le c hc in
      get_d_tabulate (length img) _ (spot y g (home y R j g c) o) 0 (subst (λ (m : ℕ). spot y g (home y R j g c) o < m) (sym len) (spot_in y v g (home y R j g c) o hg hu ho))
      ∙ simp (
        group_there y v g (home y R j g c) o hg hu ho,
        unit_there' y v g (home y R j g c) o hg hu ho,
        offset_there y v g (home y R j g c) o hg hu ho,
        owner-home y v R g j le c hc,
        lt-ltb c (contents y) hc,
      )

  -- a byte is as it was, or it is stored
  pub storing_changes : (x : ℕ) → x < length img → (at (storing y R j on val img) x ≡ at img x) ⊎ Stores y R j on x
  unfolding storing cell_after
  storing_changes x h =
      let hx : x < image_length y = subst (λ (m : ℕ). x < m) len h in
      ⊎_elim
      (λ (t : both (ltb c (contents y)) (on g o c) ≡ true).
      let b = both_true (ltb c (contents y)) (on g o c) t in
      let lt : c < contents y = ltb-true c (contents y) b.0 in
      inr (record {
        g = g;
        o = o;
        c = c;
        g-lt = group_here-lt y v x hx;
        o_lt = offset_here-lt y v x;
        c_lt = lt;
        is_at = sym (ap (λ (d : ℕ). spot y g d o) (home-owner y R g j (unit_here y x).unit lt) ∙ spot-here y v x hx);
        is_on = b.1;
      }))
      (λ (t : both (ltb c (contents y)) (on g o c) ≡ false).
      inl (get_d_tabulate (length img) _ x 0 h ∙ pick-false (both (ltb c (contents y)) (on g o c)) (val g o c) (at img x) t))
      (either_way (both (ltb c (contents y)) (on g o c)))
    where
      g : ℕ
      g = (unit_here y x).group

      o : ℕ
      o = offset_here y x

      c : ℕ
      c = owner y R j g (unit_here y x).unit

  -- a byte afterwards depends on that byte before and on the values stored alone
  pub storing_same : (val' : ℕ → ℕ → ℕ → ℕ) (img' : List ℕ) → length img' ≡ length img
      → ((g o c : ℕ) → g < all_groups y → o < y.u → c < contents y → val g o c ≡ val' g o c)
      → (x : ℕ) → x < length img → at img x ≡ at img' x → at (storing y R j on val img) x ≡ at (storing y R j on val' img') x
  unfolding storing cell_after
  storing_same val' img' el ev x h e =
      let hx : x < image_length y = subst (λ (m : ℕ). x < m) len h in
      get_d_tabulate (length img) _ x 0 h
      ∙ ⊎_elim
      (λ (t : ltb c (contents y) ≡ true).
      (λ i. pick (both (ltb c (contents y)) (on g o c)) (ev g o c (group_here-lt y v x hx) (offset_here-lt y v x) (ltb-true c (contents y) t) i) (e i)))
      (λ (t : ltb c (contents y) ≡ false). off t (val g o c) (at img x) ∙ e ∙ sym (off t (val' g o c) (at img' x)))
      (either_way (ltb c (contents y)))
      ∙ sym (get_d_tabulate (length img') _ x 0 (subst (λ (m : ℕ). x < m) (sym el) h))
    where
      g : ℕ
      g = (unit_here y x).group

      o : ℕ
      o = offset_here y x

      c : ℕ
      c = owner y R j g (unit_here y x).unit

      off : ltb c (contents y) ≡ false → (p q : ℕ) → pick (both (ltb c (contents y)) (on g o c)) p q ≡ q
      off t p q = ap (λ (s : Bool). pick (both s (on g o c)) p q) t

-- ---- what is stored hangs on the tests, and on the values where they hold

cell_alike : (t s s' : Bool) (a a' b : ℕ) → (t ≡ true → s ≡ s') → (t ≡ true → s ≡ true → a ≡ a') → pick (both t s) a b ≡ pick (both t s') a' b
cell_alike true true s' a a' b h e = e refl refl ∙ ap (λ (z : Bool). pick z a' b) (h refl)
cell_alike true false s' a a' b h e = ap (λ (z : Bool). pick z a' b) (h refl)
cell_alike false s s' a a' b h e = refl

pub storing_alike : (y : Layout) → Valid y → (R : Record) (j : ℕ) (on on' : ℕ → ℕ → ℕ → Bool) (val val' : ℕ → ℕ → ℕ → ℕ) (img : List ℕ) → length img ≡ image_length y
    → ((g o c : ℕ) → g < all_groups y → o < y.u → c < contents y → on g o c ≡ on' g o c)
    → ((g o c : ℕ) → g < all_groups y → o < y.u → c < contents y → on g o c ≡ true → val g o c ≡ val' g o c)
    → storing y R j on val img ≡ storing y R j on' val' img
unfolding storing cell_after
storing_alike y v R j on on' val val' img len eo ev =
    tabulate_ext 0 (length img) _ _
    (λ x h.
    let g = group_here y x in
    let o = offset_here y x in
    let c = owner_here y R j x in
    let hg : g < all_groups y = group_here-lt y v x (subst (λ (m : ℕ). x < m) len h) in
    let ho : o < y.u = offset_here-lt y v x in
    cell_alike (ltb c (contents y)) (on g o c) (on' g o c) (val g o c) (val' g o c) (at img x)
    (λ t. eo g o c hg ho (ltb-true c (contents y) t)) (λ t. ev g o c hg ho (ltb-true c (contents y) t)))
