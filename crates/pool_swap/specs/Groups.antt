-- A swap's groups, one after another: the image once the contents of the groups below g have moved, and one group more.
use Rattle.std.specs.Prelude.{◌≡◌, ℕ, ◌+◌, ◌-◌, ◌≤◌, ◌<◌}
use Rattle.std.proofs.Math.Path.{sym, ap, subst⁻¹}
use Rattle.std.proofs.Common.{◌∙◌, subst, arith}
use Rattle.std.proofs.Math.Bool.{not}
use mathlib.Core.List.{List}
use Rattle.std.proofs.Math.ListN.{length, get_or}
use Rattle.lists.specs.Pick.{eqb_iff}
use Rattle.lists.specs.Count.{count_same}
use Rattle.lists.specs.Lays.{Lays}
use Rattle.numbers.specs.declared.Layout.{Layout}
use Rattle.numbers.specs.Layouts.{Valid, width, all_groups, contents}
use Rattle.place.specs.Bytes.{spot, unit_here}
use Rattle.place.specs.ByteLaws.{unit_there'}
use Rattle.homes.specs.declared.Record.{Record}
use Rattle.homes.specs.Dropping.{without}
use Rattle.homes.specs.Missing.{home}
use Rattle.homes.proofs.MissingLaws.{home-lt}
use Rattle.pool.specs.Contents.{stored}
use Rattle.pool.specs.StoringLaws.{storing-length}
use Rattle.runs.specs.Run.{paint_same}
use Rattle.runs.specs.Held.{run_of}
use Rattle.runs.specs.Laying.{paint_lays}
use Rattle.survey.specs.declared.Shift.{Shift}
use Rattle.survey.specs.Starts.{StartsUnder, Shifts}
use Rattle.survey.specs.Surveyed.{spot_plus}
use Rattle.survey.specs.Placing.{start_of, content_here, placed}
use Rattle.survey.specs.ByGroups.{stored_below, below_begin, below_end, below_yet, below_turn}
use Rattle.group_swap.specs.Taken.{start_moves, units_moved, Movable}
use Rattle.swapping.specs.Swapping.{swapped_image, home_moves}
use Rattle.swapping.specs.SwapLaws.{SwapAsked, less_few, few-move}
use Rattle.swapping.proofs.SwapLaws.{moves_enough}

-- the contents of the groups below g have moved
unfoldable pub swapped_below : Layout → Record → ℕ → List ℕ → ℕ → List ℕ
swapped_below y R d img g = stored_below y (without R d) (R.q - 1) (λ g o c. home_moves y R d g c) (stored y R img) img g

module _ (y : Layout) (R : Record) (d : ℕ) (img₀ : List ℕ) (a : SwapAsked y R (length img₀) d) where
  abbrev v : Valid y
  v = a.sound.valid

  abbrev S : Record
  S = without R d

  abbrev j : ℕ
  j = R.q - 1

  le : j ≤ y.k
  le = less_few y R d a

  old-le : R.q ≤ y.k
  old-le = omega (arith, a.sound.good.few, a.sound.good.mended)

  pub swapped_begin : img₀ ≡ swapped_below y R d img₀ 0
  unfolding swapped_below
  swapped_begin = below_begin y v S j le (λ g o c. home_moves y R d g c) (stored y R img₀) img₀ a.sound.len_is

  pub swapped_end : (g : ℕ) (img : List ℕ) → img ≡ swapped_below y R d img₀ g → g ≡ all_groups y → img ≡ swapped_image y R d img₀
  unfolding swapped_below
  swapped_end g img i e =
      i ∙ below_end y v S j le (λ g o c. home_moves y R d g c) (stored y R img₀) img₀ a.sound.len_is g e ∙ moves_enough y R d img₀ a

  pub swapped_length : (g : ℕ) → length (swapped_below y R d img₀ g) ≡ length img₀
  unfolding swapped_below
  swapped_length g = storing-length y S j _ _ img₀

  -- ---- group g, whose contents begin as the two lists say

  module _ (g : ℕ) (hg : g < all_groups y) (x : Shift) (less : Record) (less-is : less ≡ S) (shifts : Shifts y R less g x) where
    from_are : StartsUnder y R R.q g x.from
    from_are = subst⁻¹ (λ (n : ℕ). StartsUnder y R n g x.from) a.repaired shifts.from_are

    to_are : StartsUnder y S j g x.to
    to_are =
        subst (λ (n : ℕ). StartsUnder y S n g x.to) (ap (λ (n : ℕ). n - 1) (sym a.repaired))
        (subst (λ (T : Record). StartsUnder y T T.k g x.to) less-is shifts.to_are)

    -- a unit begins where no other of its group does
    unit_of_lem : (u u' : ℕ) → u < width y → u' < width y → spot y g u 0 ≡ spot y g u' 0 → u ≡ u'
    unit_of_lem u u' h h' e =
        sym (unit_there' y v g u 0 hg h v.some_bytes) ∙ ap (λ (x : ℕ). (unit_here y x).unit) e ∙ unit_there' y v g u' 0 hg h' v.some_bytes

    -- so where they begin tells which contents move
    starts_tell : (c : ℕ) → c < contents y → start_moves x.from x.to c ≡ home_moves y R d g c
    unfolding start_moves home_moves
    starts_tell c hc =
        ap not
        (eqb_iff _ _ _ _
        (λ e. unit_of_lem _ _ (home-lt y v R g R.q old-le c hc) (home-lt y v S g j le c hc) (sym (from_are c hc) ∙ e ∙ to_are c hc))
        (λ e. from_are c hc ∙ ap (λ (u : ℕ). spot y g u 0) e ∙ sym (to_are c hc)))

    pub group_movable : (size : ℕ) → size ≡ length img₀ → Movable x.from x.to (contents y) y.u size
    group_movable size e =
        record {
          few-contents = omega (arith, v.few_data, v.few_parity);
          few_bytes = v.few_bytes;
          few-move =
              omega (arith, count_same (start_moves x.from x.to) (home_moves y R d g) (contents y) starts_tell, few-move y R d a g, a.sound.good.few, v.few_parity);
          from_in = λ c hc. omega (arith, from_are c hc, (placed y v R R.q old-le).inside g c hg hc, e, a.sound.len_is);
          to_in = λ c hc. omega (arith, to_are c hc, (placed y v S j le).inside g c hg hc, e, a.sound.len_is);
        }

    homes_apart : (c e o z : ℕ) → c < contents y → e < contents y → o < y.u → z < y.u → start_of y S j g c + o ≡ start_of y S j g e + z → c ≡ e
    homes_apart c e o z hc he ho hz q = let p = placed y v S j le in sym (p.own_at g c o hg hc ho) ∙ ap (content_here y S j) q ∙ p.own_at g e z hg he hz

    -- what stands at a content's old home while its group is not done
    old_byte : (img : List ℕ) → img ≡ swapped_below y R d img₀ g → (c o : ℕ) → c < contents y → o < y.u → run_of img (get_or x.from c 0) o ≡ stored y R img₀ g o c
    unfolding swapped_below run_of stored
    old_byte img i c o hc ho =
        (λ t. get_or (i t) (get_or x.from c 0 + o) 0)
        ∙ ap (λ (b : ℕ). get_or (swapped_below y R d img₀ g) b 0) (ap (λ (b : ℕ). b + o) (from_are c hc) ∙ spot_plus y g (home y R R.q g c) o)
        ∙ below_yet y v S j le (λ g o c. home_moves y R d g c) (stored y R img₀) img₀ a.sound.len_is g g (home y R R.q g c) o (omega arith) hg
        (home-lt y v R g R.q old-le c hc) ho

    -- the group is laid on as the shorter list says
    group_lays : (img img' : List ℕ) → img ≡ swapped_below y R d img₀ g → img' ≡ units_moved x.from x.to y.u (contents y) img
        → Lays (contents y) y.u (start_of y S j g) (λ c o. home_moves y R d g c) (λ c o. stored y R img₀ g o c) img img'
    unfolding units_moved
    group_lays img img' i e =
        paint_lays (home_moves y R d g) (start_of y S j g) y.u (λ c o. stored y R img₀ g o c) (contents y) img img' (λ c hc t. inside c hc)
        (λ c b o z hc hb tc tb ho hz q. homes_apart c b o z hc hb ho hz q)
        (e
        ∙ paint_same (home_moves y R d g) (start_moves x.from x.to) (start_of y S j g) (λ c. get_or x.to c 0) y.u (λ c o. stored y R img₀ g o c)
        (λ c. run_of img (get_or x.from c 0)) img (contents y) starts_tell to_are (λ c hc t. inside c hc) (λ c hc t o ho. old_byte img i c o hc ho))
      where
        inside : (c : ℕ) → c < contents y → start_of y S j g c + y.u ≤ length img
        inside c hc = omega (arith, (placed y v S j le).inside g c hg hc, ap length i ∙ swapped_length g, a.sound.len_is)

    pub swapped_turn : (img img' : List ℕ) → img ≡ swapped_below y R d img₀ g → img' ≡ units_moved x.from x.to y.u (contents y) img
        → img' ≡ swapped_below y R d img₀ (g + 1)
    unfolding swapped_below
    swapped_turn img img' i e =
        below_turn y v S j le (λ g o c. home_moves y R d g c) (stored y R img₀) img₀ a.sound.len_is g hg img'
        (subst (λ (l : List ℕ). Lays (contents y) y.u (start_of y S j g) (λ c o. home_moves y R d g c) (λ c o. stored y R img₀ g o c) l img') i (group_lays img img' i e))
