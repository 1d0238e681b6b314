-- One entry by the flags of a group's missing contents: what is written, and that the loop over the sources writes it.
use Rattle.std.specs.Prelude.{◌≡◌, refl, Bool, true, false, not, List, ℕ, ◌+◌, ◌-◌, ◌<◌, ◌≤◌, eqb, length, set}
use Rattle.std.proofs.Math.Path.{sym, ap}
use Rattle.std.proofs.Common.{◌∙◌, subst, ne_eqb, length-set}
use Rattle.std.proofs.Math.Nat.{add-sub_cancel_left}
use native.Mathlib.Omega.{arith}
use Rattle.lists.specs.Pick.{pick, pick-false, bit, below_or_not}
use Rattle.lists.specs.Count.{count, count_next}
use Rattle.lists.specs.Span.{Span, span_none, span_step, span_join, span_to}
use Rattle.lists.specs.Tabulate.{at}
use Rattle.lists.specs.Those.{those, those-place}
use Rattle.parity.specs.Matrix.{flag}

-- a content that is not missing
abbrev pub present_by : List Bool → ℕ → Bool
present_by flags u = not (flag flags u)

-- number f of the entry that names content c of group g: group, content, the lowest present ones of m contents
unfoldable pub entry_by : List Bool → ℕ → ℕ → ℕ → ℕ → ℕ
entry_by flags m g c f = pick (eqb f 0) g (pick (eqb f 1) c (at (those (present_by flags) m) (f - 2)))

-- what stands at place z, where the sources begin at place a, and where the entry does
abbrev pub lowest_from : List Bool → ℕ → ℕ → ℕ → ℕ
lowest_from flags m a z = at (those (present_by flags) m) (z - a)

abbrev pub entry_from : List Bool → ℕ → ℕ → ℕ → ℕ → ℕ → ℕ
entry_from flags m g c a z = entry_by flags m g c (z - a)

-- ---- the loop over the sources

-- the contents below u are looked at, and j of them are written
pub record SourcesTo (flags : List Bool) (m n a : ℕ) (old : List ℕ) (u j : ℕ) (out : List ℕ) : Type 0 where
  pub seen : u ≤ m
  pub few : j ≤ n
  pub count_is : j ≡ count (present_by flags) u
  pub written : Span (lowest_from flags m a) a (a + j) old out

pub sources_begin : (flags : List Bool) (m n a : ℕ) (old : List ℕ) → SourcesTo flags m n a old 0 0 old
unfolding count
sources_begin flags m n a old =
    record {
      seen = omega arith;
      few = omega arith;
      count_is = refl;
      written = span_none (lowest_from flags m a) a old (omega arith);
    }

module _ (flags : List Bool) (m n a : ℕ) (old : List ℕ) (u j : ℕ) (out : List ℕ) (s : SourcesTo flags m n a old u j out) (more : j < n)
    (enough : n ≤ count (present_by flags) m) where
  -- while some are wanted a content is left, since there are enough
  pub content-left : u < m
  content-left =
      below_or_not u m (λ (l : u < m). l)
      (λ (l : m ≤ u). let e : u ≡ m = omega (arith, s.seen) in absurd (omega (arith, s.count_is, ap (count (present_by flags)) e)))

  -- a content that is missing
  pub source-missing : present_by flags u ≡ false → (out' : List ℕ) (j' : ℕ) → out' ≡ out → j' ≡ j → SourcesTo flags m n a old (u + 1) j' out'
  source-missing t out' j' eo ej =
      let z : bit (present_by flags u) ≡ 0 = ap bit t in
      record {
        seen = omega (arith, content-left);
        few = omega arith;
        count_is = omega (arith, s.count_is, count_next (present_by flags) u, z);
        written = subst (λ (l : List ℕ). Span (lowest_from flags m a) a (a + j') old l) (sym eo) (span_to (a + j) (a + j') (omega arith) s.written);
      }

  -- a content that is present
  source_is : present_by flags u ≡ true → u ≡ lowest_from flags m a (a + j)
  source_is t =
      sym (ap (at (those (present_by flags) m)) (add-sub_cancel_left a j ∙ s.count_is) ∙ (those-place (present_by flags) m u content-left t).1)

  pub source-present : a + n ≤ length old → present_by flags u ≡ true → (out' : List ℕ) (j' : ℕ) → out' ≡ set out (a + j) u → j' ≡ j + 1
      → SourcesTo flags m n a old (u + 1) j' out'
  source-present room t out' j' eo ej =
      let z : bit (present_by flags u) ≡ 1 = ap bit t in
      record {
        seen = omega (arith, content-left);
        few = omega arith;
        count_is = omega (arith, s.count_is, count_next (present_by flags) u, z);
        written =
            subst (λ (l : List ℕ). Span (lowest_from flags m a) a (a + j') old l) (sym eo)
            (span_step (lowest_from flags m a) a (a + j) out u (omega arith) (omega (arith, s.written.len)) (omega arith) s.written (source_is t));
      }

pub sources_end : (flags : List Bool) (m n a : ℕ) (old : List ℕ) (u j : ℕ) (out : List ℕ) → SourcesTo flags m n a old u j out → n ≤ j
    → Span (lowest_from flags m a) a (a + n) old out
sources_end flags m n a old u j out s h = span_to (a + j) (a + n) (omega (arith, s.few)) s.written

-- ---- the entry

module _ (flags : List Bool) (m g c a : ℕ) where
  entry_group : g ≡ entry_from flags m g c a a
  unfolding entry_by
  entry_group = let z : 0 ≡ a - a = omega arith in ap (λ (f : ℕ). pick (eqb f 0) g (pick (eqb f 1) c (at (those (present_by flags) m) (f - 2)))) z

  entry-content : c ≡ entry_from flags m g c a (a + 1)
  unfolding entry_by
  entry-content =
      let z : 1 ≡ a + 1 - a = omega arith in ap (λ (f : ℕ). pick (eqb f 0) g (pick (eqb f 1) c (at (those (present_by flags) m) (f - 2)))) z

  entry-source : (z : ℕ) → a + 2 ≤ z → lowest_from flags m (a + 2) z ≡ entry_from flags m g c a z
  unfolding entry_by
  entry-source z h =
      ap (at (those (present_by flags) m)) (omega arith)
      ∙ sym (pick-false (eqb (z - a) 0) _ _ (ne_eqb (z - a) 0 (λ (q : z - a ≡ 0). absurd (omega arith)))
      ∙ pick-false (eqb (z - a) 1) _ _ (ne_eqb (z - a) 1 (λ (q : z - a ≡ 1). absurd (omega arith))))

  -- group, content, and then the sources
  pub entry_drawn : (n : ℕ) (old out : List ℕ) → a + (n + 2) ≤ length old
      → Span (lowest_from flags m (a + 2)) (a + 2) (a + 2 + n) (set (set old a g) (a + 1) c) out → Span (entry_from flags m g c a) a (a + (n + 2)) old out
  entry_drawn n old out room s =
      let f = entry_from flags m g c a in
      let one : Span f a (a + 1) old (set old a g) =
      span_step f a a old g (omega arith) (omega arith) refl (span_none f a old refl) entry_group in
      let two : Span f a (a + 2) old (set (set old a g) (a + 1) c) =
      span_step f a (a + 1) (set old a g) c (omega arith) (omega (arith, length-set old a g)) (omega arith) one entry-content in
      let e : a + 2 + n ≡ a + (n + 2) = omega arith in
      span_join f (lowest_from flags m (a + 2)) f a (a + 2) (a + (n + 2)) (omega arith) (omega arith) two
      (subst (λ (x : ℕ). Span (lowest_from flags m (a + 2)) (a + 2) x (set (set old a g) (a + 1) c) out) e s)
      (λ z h k. refl) (λ z h k. entry-source z h)
