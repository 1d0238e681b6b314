-- One group of a write: what its plan says of a column is what the pool's definitions say.
use Rattle.std.specs.Prelude.{◌≡◌, Bool, not, List, ℕ, ◌+◌, ◌-◌, ◌*◌, ◌<◌, ltb, length, get_or}
use Rattle.std.proofs.Common.{sym, ◌∙◌, arith}
use Rattle.std.proofs.Math.Path.{ap}
use Rattle.lists.specs.Pick.{pick, both}
use Rattle.lists.specs.Part.{within}
use Rattle.lists.specs.Search.{any}
use Rattle.numbers.specs.declared.Layout.{Layout}
use Rattle.numbers.specs.Layouts.{Valid, contents}
use Rattle.place.specs.Bytes.{offset_of}
use Rattle.parity.specs.Group.{content}
use Rattle.parity.specs.Content.{content_cong}
use Rattle.homes.specs.declared.Record.{Record}
use Rattle.homes.specs.Records.{Good}
use Rattle.pool.specs.Writing.{named, touched, writes, laid, writes_present}
use Rattle.plan.specs.declared.Plan.{Plan}
use Rattle.plan.specs.Plans.{at_of}
use Rattle.updates.specs.Writing.{new_content, laid as laidBy}
use Rattle.lists.specs.Lays.{Lays}
use Rattle.groups.specs.Write.{name_at, on_at, val_at}
use Rattle.groups.specs.Local.{write_local}
use Rattle.survey.specs.Surveyed.{Surveyed, held_is}
use Rattle.survey.specs.Placing.{start_of}

-- what a write stores at byte o of content c of group g: where, and what
abbrev pub stores_at : Layout → Record → ℕ → ℕ → ℕ → ℕ → ℕ → Bool
stores_at y R offset size g c o = writes_present y R offset size g o c

abbrev pub stored_at : Layout → Record → ℕ → List ℕ → List ℕ → ℕ → ℕ → ℕ → ℕ
stored_at y R offset bytes img g c o = content y.n (laid y R img offset bytes g o) c

module _ (y : Layout) (v : Valid y) (R : Record) (good : Good y R) (g : ℕ) (P : Plan) (s : Surveyed y R R.q g P) (from : ℕ) (from_is : from ≡ y.n * y.u * g)
    (offset : ℕ) (bytes : List ℕ) where
  byte_is : (o j : ℕ) → from + (P.u * j + o) ≡ offset_of y g j o
  unfolding offset_of
  byte_is o j = λ i. from_is i + (s.u_is i * j + o)

  name_is : (o j : ℕ) → name_at P from offset (length bytes) o j ≡ named y offset (length bytes) g o j
  unfolding name_at
  name_is o j = ap (within offset (length bytes)) (byte_is o j)

  on_is : (c o : ℕ) → c < contents y → on_at P from offset (length bytes) c o ≡ stores_at y R offset (length bytes) g c o
  unfolding on_at writes touched
  on_is c o h = λ i. both (not (s.flags_are c h i)) (pick (ltb c (s.n_is i)) (name_is o c i) (any (λ j. name_is o j i) (s.n_is i)))

  laid_is : (img : List ℕ) (o j : ℕ) → j < y.n → laidBy P img bytes from offset (name_at P from offset (length bytes) o) o j ≡ laid y R img offset bytes g o j
  unfolding laidBy laid
  laid_is img o j h = λ i. pick (name_is o j i) (get_or bytes (byte_is o j i - offset) 0) (held_is y v R good g P s img o j (omega arith) i)

  val_is : (img : List ℕ) (c o : ℕ) → val_at P img bytes from offset c o ≡ stored_at y R offset bytes img g c o
  unfolding val_at new_content
  val_is img c o =
      (λ i. content (s.n_is i) (laidBy P img bytes from offset (name_at P from offset (length bytes) o) o) c)
      ∙ content_cong y.n _ _ (laid_is img o) c

  -- so what the plan lays is what the pool stores
  pub lays_here : (img img' : List ℕ) → Lays (P.n + P.k) P.u (at_of P) (on_at P from offset (length bytes)) (val_at P img bytes from offset) img img'
      → Lays (contents y) y.u (start_of y R R.q g) (stores_at y R offset (length bytes) g) (stored_at y R offset bytes img g) img img'
  lays_here img img' l =
      record {
        same = l.same;
        hit = λ c o hc ho t.
            ap (λ (a : ℕ). get_or img' (a + o) 0) (sym (s.at_is c hc))
            ∙ l.hit c o (omega (arith, s.n_is, s.k_is)) (omega (arith, s.u_is)) (on_is c o hc ∙ t)
            ∙ val_is img c o;
        miss = λ x h w.
            l.miss x h
            (λ c o hc ho t q.
            let b : c < contents y = omega (arith, s.n_is, s.k_is) in
            w c o b (omega (arith, s.u_is)) (sym (on_is c o b) ∙ t) (q ∙ ap (λ (a : ℕ). a + o) (s.at_is c b)));
      }

  -- and what is stored in a column hangs on that column alone
  pub stored_local : (img other : List ℕ) (c o : ℕ)
      → ((d : ℕ) → d < contents y → get_or img (start_of y R R.q g d + o) 0 ≡ get_or other (start_of y R R.q g d + o) 0)
      → stored_at y R offset bytes img g c o ≡ stored_at y R offset bytes other g c o
  stored_local img other c o same =
      sym (val_is img c o)
      ∙ write_local P s.right img other c o bytes from offset
      (λ d h.
      let b : d < contents y = omega (arith, s.n_is, s.k_is) in
      ap (λ (a : ℕ). get_or img (a + o) 0) (s.at_is d b) ∙ same d b ∙ ap (λ (a : ℕ). get_or other (a + o) 0) (sym (s.at_is d b)))
      ∙ val_is other c o
