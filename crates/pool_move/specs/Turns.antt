-- A group moved by its plan is stored as the new pool has it, and group after group comes to the whole.
use Rattle.std.specs.Prelude.{◌≡◌, refl, Bool, List, ℕ, ◌+◌, ◌-◌, ◌≤◌, ◌<◌, ltb, length}
use Rattle.std.proofs.Math.Path.{sym, ap, subst, subst⁻¹}
use Rattle.std.proofs.Common.{◌∙◌, lt-ltb, le-ltb}
use Rattle.std.proofs.Math.Bool.{true}
use native.Mathlib.Omega.{arith}
use Rattle.std.proofs.Math.ListN.{get_or}
use Rattle.lists.specs.Pick.{pick, both, both_hold, pick_true, pick-false}
use Rattle.lists.specs.Between.{between_in}
use Rattle.lists.specs.Count.{count_none}
use Rattle.lists.specs.Lays.{Lays, lays_ext}
use Rattle.lists.specs.Sweep.{Placed, upto, byte_after, upto-none, upto_done, sweep_step}
use Rattle.lists.specs.Tabulate.{at, tabulate, tabulate_ext}
use Rattle.numbers.specs.declared.Layout.{Layout}
use Rattle.numbers.specs.declared.Shape.{Shape}
use Rattle.numbers.specs.Layouts.{Valid, width, contents, all_groups, image_length}
use Rattle.numbers.specs.Answers.{Shaped}
use Rattle.numbers.specs.Editions.{other_edition, other_valid, other_shaped, other-groups, other_image}
use Rattle.place.specs.Bytes.{spot, unit_here, offset_here, offset_of}
use Rattle.place.specs.ByteLaws.{spot_in, spot-here, group_there, unit_there', offset_there, group_here-lt, unit_here-lt, offset_here-lt}
use Rattle.parity.specs.Group.{content}
use Rattle.parity.specs.Content.{content_cong}
use Rattle.homes.specs.declared.Record.{Record}
use Rattle.homes.specs.Records.{Good}
use Rattle.homes.proofs.MissingLaws.{home-own, unfailed-present}
use Rattle.pool.specs.Asked.{Sound}
use Rattle.pool.specs.Files.{encoded}
use Rattle.plan.specs.declared.Plan.{Plan}
use Rattle.plan.specs.Plans.{at_of, Fits, held}
use Rattle.runs.specs.Run.{paint, paint-after}
use Rattle.runs.specs.Held.{zero_byte}
use Rattle.runs.specs.Laying.{paint_lays}
use Rattle.survey.specs.declared.Survey.{Survey}
use Rattle.survey.specs.Placing.{group_here}
use Rattle.survey.specs.Surveyed.{Surveyed, Surveying, spot_plus, fits, apart, held_is}
use Rattle.group_move.specs.Moved.{always, moved_byte, contents_moved, units_cleared}
use Rattle.moving.specs.Fresh.{fresh_byte, fresh_image}
use Rattle.moving.specs.Moving.{shown_file}
use Rattle.moving.specs.FreshLaws.{shown-content}
use Rattle.pool_move.specs.Groups.{Ready, unit_start, unit_stored, GroupLaid}

-- ---- the units of a group in the image

module _ (z : Layout) (v : Valid z) (g : ℕ) (hg : g < all_groups z) where
  start-inside : (u : ℕ) → u < width z → unit_start z g u + z.u ≤ image_length z
  start-inside u hu =
      omega (arith, spot_in z v g u (z.u - 1) hg hu (omega (arith, v.some_bytes)), spot_plus z g u (z.u - 1), v.some_bytes)

  starts_apart : (c d x y : ℕ) → c < width z → d < width z → x < z.u → y < z.u → unit_start z g c + x ≡ unit_start z g d + y → c ≡ d
  starts_apart c d x y hc hd hx hy e =
      sym (unit_there' z v g c x hg hc hx)
      ∙ ap (λ (b : ℕ). (unit_here z b).unit) (sym (spot_plus z g c x) ∙ e ∙ spot_plus z g d y)
      ∙ unit_there' z v g d y hg hd hy

-- ---- one group

module _ (z : Layout) (s : Shape) (g : ℕ) (P : Plan) (w : Survey) (old new : List ℕ) (r : Ready z s g P w (length old) (length new)) where
  abbrev Q : Plan
  Q = w.plan

  contents_are : P.n + P.k ≡ contents z
  contents_are = λ i. r.n_is i + r.k_is i

  -- the contents at their own places
  moved_here : (new₁ : List ℕ) → new₁ ≡ contents_moved P Q old (P.n + P.k) new → new₁ ≡ paint always (unit_start z g) z.u (unit_stored z P old) (contents z) new
  unfolding contents_moved unit_stored paint
  moved_here new₁ e =
      e
      ∙ (λ i. paint always (at_of Q) (r.u_is i) (moved_byte P old) (contents_are i) new)
      ∙ paint-after always always (unit_start z g) (at_of Q) z.u (unit_stored z P old) (moved_byte P old) 0 new (contents z) (λ c h. refl)
      (λ c h. r.own c h ∙ ap (unit_start z g) (sym (none c)))
      (λ c h t. omega (arith, start-inside z r.valid g r.group (0 + c) (omega arith), r.len_is))
      (λ c h t o k.
      sym (ap (λ (u : ℕ). unit_stored z P old u o) (none c) ∙ pick_true (ltb c (contents z)) _ _ (lt-ltb c (contents z) h)))
      ∙ ap (λ (m : ℕ). paint always (unit_start z g) z.u (unit_stored z P old) m new) (none (contents z))
    where
      none : (c : ℕ) → 0 + c ≡ c
      none c = omega arith

  -- the spares lie in the image
  pub spares_fit : (spares : List ℕ) (size : ℕ) → ((i : ℕ) → i < z.k → get_or spares i 0 ≡ spot z g (contents z + i) 0) → size ≡ length new
      → (z.k ≤ 19) × ((i : ℕ) → i < z.k → get_or spares i 0 + z.u ≤ size)
  spares_fit spares size es e = (
    omega (arith, r.valid.few_parity),
    λ i h. omega (arith, es i h, start-inside z r.valid g r.group (contents z + i) (omega arith), r.len_is, e),
  )

  pub group_laid : (new₁ new₂ spares : List ℕ) → new₁ ≡ contents_moved P Q old (P.n + P.k) new → ((i : ℕ) → i < z.k → get_or spares i 0 ≡ spot z g (contents z + i) 0)
      → new₂ ≡ units_cleared spares z.u z.k new₁ → GroupLaid z g P old new new₂
  unfolding units_cleared unit_stored zero_byte
  group_laid new₁ new₂ spares e₁ es e₂ =
      subst (λ (m : ℕ). Lays m z.u (unit_start z g) (λ u o. true) (unit_stored z P old) new new₂) units
      (paint_lays always (unit_start z g) z.u (unit_stored z P old) (contents z + z.k) new new₂
      (λ u h t. omega (arith, start-inside z r.valid g r.group u (omega arith), r.len_is))
      (λ c d x y hc hd tc td. starts_apart z r.valid g r.group c d x y (omega arith) (omega arith))
      (e₂
      ∙ ap (paint always (λ i. get_or spares i 0) z.u (λ i. zero_byte) z.k) (moved_here new₁ e₁)
      ∙ paint-after always always (unit_start z g) (λ i. get_or spares i 0) z.u (unit_stored z P old) (λ i. zero_byte) (contents z) new z.k (λ i h. refl) es
      (λ i h t. omega (arith, start-inside z r.valid g r.group (contents z + i) (omega arith), r.len_is))
      (λ i h t o k. sym (pick-false (ltb (contents z + i) (contents z)) _ _ (le-ltb (contents z + i) (contents z) (omega arith))))))
    where
      units : contents z + z.k ≡ width z
      units = omega arith

-- ---- the new pool's layout beside the old one's

pub record SameShape (y z : Layout) : Type 0 where
  pub valid : Valid z
  pub n_is : z.n ≡ y.n
  pub k_is : z.k ≡ y.k
  pub u_is : z.u ≡ y.u
  pub groups_are : all_groups z ≡ all_groups y
  pub image_is : image_length z ≡ image_length y
  pub shaped : (s : Shape) → Shaped y s → Shaped z s
  pub offsets_are : (g j o : ℕ) → offset_of z g j o ≡ offset_of y g j o

pub same_shape : (y z : Layout) → Valid y → z ≡ other_edition y → SameShape y z
unfolding other_edition offset_of
same_shape y z v e =
    subst⁻¹ (SameShape y) e
    (record {
      valid = other_valid y v;
      n_is = refl;
      k_is = refl;
      u_is = refl;
      groups_are = other-groups y;
      image_is = other_image y;
      shaped = other_shaped y;
      offsets_are = λ g j o. refl;
    })

module _ (y z : Layout) (t : SameShape y z) (R : Record) (old : List ℕ) (sound : Sound y R (length old)) (g : ℕ) (hg : g < all_groups y) (P : Plan) (from : Surveyed y R R.q g P) where
  -- what is in hand where both surveys are at group g, that of the new pool under an empty list
  pub ready : (s : Shape) → Shaped y s → (N : Record) → N.k ≡ 0 → Good z N → (w : Survey) → Surveying z w → Surveyed z N N.q g w.plan → (new : ℕ)
      → new ≡ image_length y → Ready z s g P w (length old) new
  ready s shape N none good w surveying to new len =
      record {
        valid = t.valid;
        shape = t.shaped s shape;
        group = omega (arith, hg, t.groups_are);
        n_is = from.n_is ∙ sym t.n_is;
        k_is = from.k_is ∙ sym t.k_is;
        u_is = from.u_is ∙ sym t.u_is;
        source =
            subst⁻¹ (Fits P) sound.len_is
            (fits y sound.valid R sound.good R.q (omega (arith, sound.good.mended, sound.good.few)) g hg P from);
        surveying = surveying;
        meets =
            record {
              n_is = to.n_is ∙ t.n_is ∙ sym from.n_is;
              k_is = to.k_is ∙ t.k_is ∙ sym from.k_is;
              u_is = to.u_is ∙ t.u_is ∙ sym from.u_is;
              whole =
                  to.right.gone_is
                  ∙ count_none _ (w.plan.n + w.plan.k)
                  (λ c h. to.flags_are c (omega (arith, to.n_is, to.k_is)) ∙ unfailed-present z N none g c);
            };
        own = λ c h. to.at_is c h ∙ ap (λ (u : ℕ). spot z g u 0) (home-own z N g N.q c (omega (arith, none, good.mended)));
        fits = fits z t.valid N good N.q (omega (arith, none, good.mended)) g (omega (arith, hg, t.groups_are)) w.plan to;
        apart = apart z t.valid N good N.q (omega (arith, none, good.mended)) g (omega (arith, hg, t.groups_are)) w.plan to;
        len_is = len ∙ sym t.image_is;
      }

  -- a byte of a unit that is stored is the new pool's
  fresh_unit : (u o : ℕ) → o < z.u → unit_stored z P old u o ≡ fresh_byte z (shown_file y R old) g o u
  unfolding unit_stored fresh_byte moved_byte encoded
  fresh_unit u o ho =
      ap (λ (a : ℕ). pick (ltb u (contents z)) a 0)
      ((λ i. content ((from.n_is ∙ sym t.n_is) i) (held P old o) u)
      ∙ content_cong z.n _ _
      (λ j h.
      let hj : j < y.n = omega (arith, h, t.n_is) in
      held_is y sound.valid R sound.good g P from old o j (omega (arith, hj))
      ∙ sym (ap (at (shown_file y R old)) (t.offsets_are g j o) ∙ shown-content y sound.valid R old g o j hg (omega (arith, ho, t.u_is)) hj)) u)

  pub fresh_group : (new new' : List ℕ) → GroupLaid z g P old new new'
      → Lays (width z) z.u (unit_start z g) (λ u o. true) (λ u o. fresh_byte z (shown_file y R old) g o u) new new'
  fresh_group new new' = lays_ext (width z) z.u (unit_start z g) _ _ _ _ new new' (λ u o hu ho. refl) (λ u o hu ho s. fresh_unit u o ho)

-- ---- group after group

-- the bytes of the image by group, unit and unit offset: each belongs to one unit
module _ (z : Layout) (v : Valid z) where
  abbrev own_unit : ℕ → ℕ
  own_unit x = (unit_here z x).unit

  pub own-placed : Placed (all_groups z) (width z) z.u (image_length z) (unit_start z) (group_here z) own_unit (offset_here z)
  own-placed =
      record {
        inside = λ g u hg hu. start-inside z v g hg u hu;
        group_lt = group_here-lt z v;
        off_lt = λ x h. offset_here-lt z v x;
        there = λ x h l. sym (spot_plus z (group_here z x) (own_unit x) (offset_here z x) ∙ spot-here z v x h);
        group_at_lem = λ g u o hg hu ho. ap (group_here z) (spot_plus z g u o) ∙ group_there z v g u o hg hu ho;
        own_at = λ g u o hg hu ho. ap own_unit (spot_plus z g u o) ∙ unit_there' z v g u o hg hu ho;
        off_at = λ g u o hg hu ho. ap (offset_here z) (spot_plus z g u o) ∙ offset_there z v g u o hg hu ho;
      }

  -- byte x once the groups below g are moved
  abbrev pub moved_to : List ℕ → List ℕ → ℕ → ℕ → ℕ
  moved_to file new g x =
      upto (all_groups z) (width z) z.u (image_length z) (unit_start z) (group_here z) own_unit (offset_here z) own-placed (λ g u o. true)
      (λ img g u o. fresh_byte z file g o u) 0 new g x

-- the groups below g are moved
pub record MovedBelow (z : Layout) (file new₀ : List ℕ) (g : ℕ) (new : List ℕ) : Type 0 where
  pub valid : Valid z
  pub len_is : length new₀ ≡ image_length z
  pub same : length new ≡ length new₀
  pub done : (x : ℕ) → x < length new₀ → get_or new x 0 ≡ moved_to z valid file new₀ g x

module _ (z : Layout) (file new₀ : List ℕ) where
  abbrev on : ℕ → ℕ → ℕ → Bool
  on g u o = true

  abbrev val : List ℕ → ℕ → ℕ → ℕ → ℕ
  val img g u o = fresh_byte z file g o u

  pub moves_begin : Valid z → length new₀ ≡ image_length z → MovedBelow z file new₀ 0 new₀
  moves_begin v len =
      record {
        valid = v;
        len_is = len;
        same = refl;
        done = λ x h.
            upto-none (all_groups z) (width z) z.u (image_length z) (unit_start z) (group_here z) (own_unit z v) (offset_here z) (own-placed z v) on val 0 new₀ x;
      }

  module _ (g : ℕ) (new : List ℕ) (b : MovedBelow z file new₀ g new) where
    abbrev v : Valid z
    v = b.valid

    pub moves_turn : (new' : List ℕ) → g < all_groups z → Lays (width z) z.u (unit_start z g) (on g) (val new g) new new' → MovedBelow z file new₀ (g + 1) new'
    moves_turn new' hg l =
        record {
          valid = v;
          len_is = b.len_is;
          same = l.same ∙ b.same;
          done =
              sweep_step (all_groups z) (width z) z.u (image_length z) (unit_start z) (group_here z) (own_unit z v) (offset_here z) (own-placed z v) on val 0 g
              (omega arith) hg new₀ new new' (λ u o hu ho column. refl) b.len_is b.same b.done l;
        }

    -- every byte belongs to a unit, so none is as it was
    pub moves_end : g ≡ all_groups z → new ≡ fresh_image z file
    unfolding byte_after fresh_image
    moves_end e =
        upto_done (all_groups z) (width z) z.u (image_length z) (unit_start z) (group_here z) (own_unit z v) (offset_here z) (own-placed z v) on val 0 g new₀ new
        b.len_is b.same (λ h u o hh hu ho s. between_in 0 g h (omega arith) (omega (arith, hh, e))) b.done
        ∙ tabulate_ext 0 (length new₀) _ _
        (λ x h.
        pick_true (both (ltb (own_unit z v x) (width z)) true) _ _
        (both_hold (ltb (own_unit z v x) (width z)) true (lt-ltb (own_unit z v x) (width z) (unit_here-lt z v x (subst (λ (m : ℕ). x < m) b.len_is h))) refl))
        ∙ ap (λ (m : ℕ). tabulate m (λ x. fresh_byte z file (unit_here z x).group (offset_here z x) (unit_here z x).unit)) b.len_is
