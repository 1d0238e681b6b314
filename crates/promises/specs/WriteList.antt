-- Document 02, order 2: a list of writes in one call. "The end state equals writing them one after the other; where they overlap, the later wins." The
-- call is an event of demand 3's runs (`Runs`, `Demand3`, `Calls`); here stands what is the list's own.
use Rattle.std.specs.Prelude.{◌≡◌, Bool, true, false, eqb, leb, length}
use Rattle.std.proofs.Math.Path.{refl, sym, ap, subst⁻¹}
use Rattle.std.proofs.Common.{◌∙◌, arith}
use mathlib.Core.List.{List, [], ◌∷◌, ◌++◌}
use Prim.Native.Nat.{ℕ, zero, suc, ◌+◌, ◌-◌, ◌≤◌, ◌<◌}
use Rattle.lists.specs.Pick.{pick, equal_or_not}
use Rattle.lists.specs.Part.{within}
use Rattle.lists.specs.Count.{sum}
use Rattle.lists.specs.Search.{all}
use Rattle.lists.specs.Tabulate.{at, tabulate, get_d_tabulate}
use Rattle.lists.specs.Refusal.{LowestThatApplies, ◌or_else◌, refusal_by, refusal_lowest, refusal_none, refusal_append, unless-zero, grant, grant_yes, grant_no}
use Rattle.numbers.specs.declared.Layout.{Layout}
use Rattle.numbers.specs.Layouts.{Valid}
use Rattle.homes.specs.declared.Record.{Record}
use Rattle.pool.specs.Refusals.{range_refusal}
use Rattle.pool.specs.Writing.{write_image}
use Rattle.pool.specs.Files.{written}
use Rattle.pool.specs.Asked.{Sound, range_asked}
use Rattle.pool.specs.Calls.{Reads, Writes}
use Rattle.pool.specs.Elsewhere.{unseen, AgreeElsewhere}
use Rattle.pool.specs.Unread.{Alike}
use Rattle.pool_list.specs.Ranges.{range_offset, range_size, range_bytes, inside_alone, list_tests, list_refusal, list_range, after_ranges, list_image, laid_ranges, WritesList}
use Rattle.pool_list.specs.Asked.{alone_by}
use Rattle.pool_list.proofs.AskedLaws.{list_asked}
use Rattle.pool_list.proofs.StepsLaws.{image_refused, image_accepted, each_accepted}
use Rattle.pool_list.proofs.AnswersLaws.{lists_accepted}
use Rattle.pool_list.specs.Answered.{FirstRefused}
use Rattle.pool_list.proofs.AnsweredLaws.{range_with_4, range_without_4}
use Rattle.pool_list.proofs.One.{no_bytes, one_number, one_range, one_image}
use Rattle.pool_list.specs.Kept as K
use Rattle.pool_list.proofs.KeptLaws as KProofs
use Rattle.pool_list.specs.Laid as F
use Rattle.pool_list.proofs.LaidLaws as FProofs
use Rattle.promises.specs.Refusals.{pool_table}
use Rattle.promises.specs.Runs.{Event, write, write_list, State, start, step, run}
use Rattle.promises.specs.Calls.{Leaves, Reaches, leaves_step, reaches_run, reaches_more, calls_right, file_length}
use Rattle.promises.specs.Tight.{same}

-- ---- the answer, of any outcome that the promise allows

module _ (y : Layout) (R : Record) (img : List ℕ) (rs : List (List ℕ)) (bytes : List ℕ) (n range : ℕ) (img' : List ℕ) (p : WritesList y R img rs bytes n range img') where
  -- the number that the call answers is the lowest that applies
  abbrev list_table : List (Bool × ℕ)
  list_table =
      pool_table y R (length img)
      ((leb (length rs) 64, 4) ∷ (all (inside_alone y rs) (length rs), 4) ∷ (eqb (length bytes) (sum (range_size rs) (length rs)), 5) ∷ [])

  pub list_lowest : LowestThatApplies list_table n
  unfolding list_refusal
  list_lowest = subst⁻¹ (LowestThatApplies list_table) p.answer (refusal_lowest 1 list_table (omega arith) refl)

  -- "If any range alone would be refused, nothing is written", nor on any other refusal
  pub list_refused_unchanged : (n ≡ 0 → ⊥) → img' ≡ img
  list_refused_unchanged never = p.image ∙ image_refused y R img rs bytes (λ z. never (p.answer ∙ z))

  -- "the answer gives the lowest number and the first range that earns it"
  pub list_first_range : n ≡ 4 → length rs ≤ 64 → FirstRefused y R (length img) rs n range
  list_first_range e few =
      subst⁻¹ (λ (k : ℕ). FirstRefused y R (length img) rs k range) e
      (subst⁻¹ (FirstRefused y R (length img) rs 4) p.first (range_with_4 y R (length img) rs (length bytes) (sym p.answer ∙ e) few))

  -- "for numbers 1, 2, 3, 5 and for too many ranges the range given is 0"
  pub list_no_range : (n ≡ 4 → 64 < length rs) → range ≡ 0
  list_no_range f = p.first ∙ range_without_4 y R (length img) rs (length bytes) (λ e. f (p.answer ∙ e))

  -- what an accepted list was given, and what it wrote
  pub record AcceptedList : Type 0 where
    pub sound : Sound y R (length img)
    pub few : length rs ≤ 64
    pub alone : (i : ℕ) → i < length rs → range_refusal y R (length img) (range_offset rs i) (range_size rs i) ≡ 0
    pub exact : length bytes ≡ sum (range_size rs) (length rs)
    pub is : img' ≡ after_ranges y R img rs bytes (length rs)

  pub list_accepted : n ≡ 0 → AcceptedList
  list_accepted z =
      let a = list_asked y R (length img) rs (length bytes) (sym p.answer ∙ z) in
      record {
        sound = a.sound;
        few = a.few;
        alone = λ i h. alone_by y R (length img) rs a.sound i ∙ ap (λ (t : Bool). pick t 0 4) (a.each i h);
        exact = a.exact;
        is = p.image ∙ image_accepted y R img rs bytes (sym p.answer ∙ z);
      }

  -- and a list so given is accepted
  pub list_accepts : Sound y R (length img) → length rs ≤ 64 → ((i : ℕ) → i < length rs → range_refusal y R (length img) (range_offset rs i) (range_size rs i) ≡ 0)
      → length bytes ≡ sum (range_size rs) (length rs) → n ≡ 0
  list_accepts s few alone exact =
      p.answer
      ∙ lists_accepted y R img rs bytes
      (record { sound = s; few = few; each = λ i h. unless-zero (inside_alone y rs i) 3 (sym (alone_by y R (length img) rs s i) ∙ alone i h); exact = exact })

  -- in its turn each of its writes is accepted
  pub list_each_accepted : n ≡ 0 → (i : ℕ) → i < length rs
      → range_refusal y R (length (after_ranges y R img rs bytes i)) (range_offset rs i) (length (range_bytes rs bytes i)) ≡ 0
  list_each_accepted z = each_accepted y R img rs bytes (list_asked y R (length img) rs (length bytes) (sym p.answer ∙ z))

pub list_tight : (y : Layout) (R : Record) (img : List ℕ) (rs : List (List ℕ)) (bytes : List ℕ) (n n' range range' : ℕ) (i i' : List ℕ)
    → WritesList y R img rs bytes n range i → WritesList y R img rs bytes n' range' i' → (n ≡ n') × (range ≡ range') × (i ≡ i')
list_tight y R img rs bytes n n' range range' i i' p q = (same p.answer q.answer, same p.first q.first, same p.image q.image)

-- ---- the shortest lists

-- a list of no ranges with an empty buffer: what every call tests first decides alone
pub empty_list_lowest : (y : Layout) (R : Record) (img : List ℕ) (n range : ℕ) (img' : List ℕ) → WritesList y R img [] [] n range img'
    → LowestThatApplies (pool_table y R (length img) []) n
unfolding list_refusal all sum refusal_by
empty_list_lowest y R img n range img' p =
    let table = pool_table y R (length img) [] in
    subst⁻¹ (LowestThatApplies table)
    (p.answer ∙ refusal_append table (list_tests y [] 0)
    ∙ ap (λ (k : ℕ). refusal_by table or_else k) (refusal_none (list_tests y [] 0) (refl, (refl, (refl, tt)))) ∙ sym (refusal_append table []))
    (refusal_lowest 1 table (omega arith) refl)

-- with an empty buffer, whatever the ranges, nothing is written
pub empty_buffer_unchanged : (y : Layout) (R : Record) (img : List ℕ) (rs : List (List ℕ)) (n range : ℕ) (img' : List ℕ) → WritesList y R img rs [] n range img'
    → img' ≡ img
empty_buffer_unchanged y R img rs n range img' p = p.image ∙ no_bytes y R img rs

-- a list of one range is the write of it
pub one_range_is_a_write : (y : Layout) (R : Record) (img : List ℕ) (offset : ℕ) (bytes : List ℕ) (n range : ℕ) (img' : List ℕ)
    → WritesList y R img ((offset ∷ length bytes ∷ []) ∷ []) bytes n range img' → (m : ℕ) (img'' : List ℕ) → Writes y R img offset bytes m img''
    → (n ≡ m) × (range ≡ pick (eqb m 4) 1 0) × (img' ≡ img'')
one_range_is_a_write y R img offset bytes n range img' p m img'' q = (
  same_number,
  p.first ∙ one_range y R img offset bytes ∙ ap (λ (k : ℕ). pick (eqb k 4) 1 0) (sym p.answer ∙ same_number),
  p.image ∙ one_image y R img offset bytes ∙ sym q.image,
)
  where
    same_number : n ≡ m
    same_number = p.answer ∙ one_number y R img offset bytes ∙ sym q.answer

-- ---- what it does not depend on: a failed target's bytes and an unused spare's, nor a record's entries from k on; and those bytes it leaves

pub list_independent : (y : Layout) (R : Record) (img img' : List ℕ) → AgreeElsewhere y R img img' → (rs : List (List ℕ)) (bytes : List ℕ)
    → (list_refusal y R (length img) rs (length bytes) ≡ list_refusal y R (length img') rs (length bytes))
    × (list_range y R (length img) rs (length bytes) ≡ list_range y R (length img') rs (length bytes))
    × AgreeElsewhere y R (list_image y R img rs bytes) (list_image y R img' rs bytes)
list_independent y R img img' a rs bytes = (
  ap (λ (k : ℕ). list_refusal y R k rs (length bytes)) (sym a.same_length),
  ap (λ (k : ℕ). list_range y R k rs (length bytes)) (sym a.same_length),
  KProofs.list_elsewhere y R rs bytes img img' a,
)

pub list_leaves : (y : Layout) (R : Record) (img : List ℕ) (x : ℕ) → x < length img → (rs : List (List ℕ)) (bytes : List ℕ) → unseen y R x ≡ true
    → at (list_image y R img rs bytes) x ≡ at img x
list_leaves y R img x h rs bytes = KProofs.list_spares_unseen y R rs bytes img x h

pub list_unread : (y : Layout) (R R' : Record) → Alike R R' → (img : List ℕ) (rs : List (List ℕ)) (bytes : List ℕ)
    → (list_refusal y R (length img) rs (length bytes) ≡ list_refusal y R' (length img) rs (length bytes))
    × (list_range y R (length img) rs (length bytes) ≡ list_range y R' (length img) rs (length bytes))
    × (list_image y R img rs bytes ≡ list_image y R' img rs bytes)
list_unread y R R' alike img rs bytes = (
  K.list_number_unread y R R' alike (length img) rs (length bytes),
  K.range_given_unread y R R' alike (length img) rs (length bytes),
  K.list_unread y R R' alike img rs bytes,
)

-- ---- "The end state equals writing them one after the other"

-- a run of events that are given by their numbers
run_to : Layout → State → (ℕ → Event) → ℕ → State
run_to y s f zero = s
run_to y s f (suc n) = step y (run_to y s f n) (f n)

run_shift : (y : Layout) (s : State) (f : ℕ → Event) (n : ℕ) → run_to y (step y s (f 0)) (λ i. f (suc i)) n ≡ run_to y s f (suc n)
unfolding run_to
run_shift y s f zero = refl
run_shift y s f (suc n) = ap (λ (t : State). step y t (f (suc n))) (run_shift y s f n)

run-tabulate : (y : Layout) (s : State) (f : ℕ → Event) (n : ℕ) → run y s (tabulate n f) ≡ run_to y s f n
unfolding run tabulate run_to
run-tabulate y s f zero = refl
run-tabulate y s f (suc n) = run-tabulate y (step y s (f 0)) (λ i. f (suc i)) n ∙ run_shift y s f n

-- the buffer is one of bytes, as in `Runs`
module _ (rs : List (List ℕ)) (bytes : List ℕ) (ok : (i : ℕ) → i < length bytes → at bytes i < 256) where
  abbrev write_of : ℕ → Event
  write_of i = write (range_offset rs i) (range_bytes rs bytes i) (FProofs.bytes_small rs bytes ok i)

  -- one write for each range, in order
  abbrev pub writes_of : List Event
  writes_of = tabulate (length rs) write_of

  module _ (y : Layout) (s : State) where
    abbrev number : ℕ
    number = list_refusal y s.rec (length s.img) rs (length bytes)

    abbrev after : ℕ → State
    after i = record { rec = s.rec; img = after_ranges y s.rec s.img rs bytes i; file = laid_ranges s.file rs bytes i }

    one_write : number ≡ 0 → (n : ℕ) → n < length rs → step y (after n) (write_of n) ≡ after (suc n)
    unfolding step after_ranges laid_ranges
    one_write z n h =
        (λ k.
        record {
          rec = s.rec;
          img = write_image y s.rec (after_ranges y s.rec s.img rs bytes n) (range_offset rs n) (range_bytes rs bytes n);
          file =
              grant_yes (range_refusal y s.rec (length (after_ranges y s.rec s.img rs bytes n)) (range_offset rs n) (length (range_bytes rs bytes n)))
              (written (laid_ranges s.file rs bytes n) (range_offset rs n) (range_bytes rs bytes n)) (laid_ranges s.file rs bytes n)
              (each_accepted y s.rec s.img rs bytes (list_asked y s.rec (length s.img) rs (length bytes) z) n h) k;
        })

    writes-done : number ≡ 0 → (n : ℕ) → n ≤ length rs → run_to y s write_of n ≡ after n
    unfolding run_to after_ranges laid_ranges
    writes-done z zero h = refl
    writes-done z (suc n) h = ap (λ (t : State). step y t (write_of n)) (writes-done z n (omega arith)) ∙ one_write z n h

    -- on any image: what a run of its writes leaves, and refused what no call leaves
    pub list_is_run : step y s (write_list rs bytes ok) ≡ run y s (grant number writes_of [])
    unfolding step run
    list_is_run =
        equal_or_not number 0
        (λ (z : number ≡ 0).
        (λ k.
        record {
          rec = s.rec;
          img = image_accepted y s.rec s.img rs bytes z k;
          file = grant_yes number (laid_ranges s.file rs bytes (length rs)) s.file z k;
        })
        ∙ sym (writes-done z (length rs) (omega arith)) ∙ sym (run-tabulate y s write_of (length rs))
        ∙ ap (run y s) (sym (grant_yes number writes_of [] z)))
        (λ (f : number ≡ 0 → ⊥).
        (λ k.
        record {
          rec = s.rec;
          img = image_refused y s.rec s.img rs bytes f k;
          file = grant_no number (laid_ranges s.file rs bytes (length rs)) s.file f k;
        })
        ∙ ap (run y s) (sym (grant_no number writes_of [] f)))

    -- of the calls themselves: any state that the writes' promises allow after an accepted list's writes is the one that the list leaves
    pub list_is_writes : (s' : State) (left : Leaves y s (write_list rs bytes ok) s') → left.0 ≡ 0 → (s'' : State) → Reaches y s writes_of s'' → s'' ≡ s'
    list_is_writes s' left z s'' r =
        reaches_run y writes_of s s'' r ∙ ap (run y s) (sym (grant_yes number writes_of [] (sym left.2.answer ∙ z))) ∙ sym list_is_run
        ∙ sym (leaves_step y s (write_list rs bytes ok) s' left)

    -- "where they overlap, the later wins": byte x of the file that an accepted list leaves (`left.0` is the number answered)
    module _ (s' : State) (left : Leaves y s (write_list rs bytes ok) s') (accepted : left.0 ≡ 0) (x : ℕ) (in_file : x < length s.file) where
      file_is : s'.file ≡ laid_ranges s.file rs bytes (length rs)
      file_is = left.4 ∙ grant_yes left.0 (laid_ranges s.file rs bytes (length rs)) s.file accepted

      -- in range i, here counted from 0, and in none of the later ones: range i's byte
      pub later_wins : (i : ℕ) → i < length rs → within (range_offset rs i) (range_size rs i) x ≡ true
          → ((k : ℕ) → i < k → k < length rs → within (range_offset rs k) (range_size rs k) x ≡ false)
          → at s'.file x ≡ at bytes (sum (range_size rs) i + (x - range_offset rs i))
      later_wins i h t out = ap (λ (l : List ℕ). at l x) file_is ∙ F.later_wins s.file rs bytes x in_file (length rs) i h t out

      -- in none of them: as it was
      pub others_stay : ((k : ℕ) → k < length rs → within (range_offset rs k) (range_size rs k) x ≡ false) → at s'.file x ≡ at s.file x
      others_stay out = ap (λ (l : List ℕ). at l x) file_is ∙ F.untouched s.file rs bytes x in_file (length rs) out

-- ---- and so of what is shown: after any run from zeros and an empty list, an accepted list, and an accepted read of byte `offset + k`

module _ (y : Layout) (valid : Valid y) (room : List ℕ) (three : length room ≡ 3) (es : List Event) (s : State) (reached : Reaches y (start y room) es s)
    (rs : List (List ℕ)) (bytes : List ℕ) (ok : (i : ℕ) → i < length bytes → at bytes i < 256) (s' : State) (left : Leaves y s (write_list rs bytes ok) s')
    (accepted : left.0 ≡ 0) (offset size : ℕ) (out : List ℕ) (r : Reads y s'.rec s'.img offset size 0 out) (k : ℕ) (in-out : k < size) where
  shown : at out k ≡ at s'.file (offset + k)
  shown =
      let right = calls_right y valid room three (es ++ (write_list rs bytes ok ∷ [])) s' (reaches_more y es (write_list rs bytes ok) (start y room) s s' reached left) in
      ap (λ (l : List ℕ). at l k) (right.read_shows offset size 0 out r refl) ∙ get_d_tabulate size (λ i. at s'.file (offset + i)) k 0 in-out

  in_file : offset + k < length s.file
  in_file =
      let e = file_length y valid room three es s reached in
      let b = (range_asked y s'.rec (length s'.img) offset size (sym r.answer)).1 in
      omega (arith, e, b, in-out)

  pub later-shown : (i : ℕ) → i < length rs → within (range_offset rs i) (range_size rs i) (offset + k) ≡ true
      → ((j : ℕ) → i < j → j < length rs → within (range_offset rs j) (range_size rs j) (offset + k) ≡ false)
      → at out k ≡ at bytes (sum (range_size rs) i + (offset + k - range_offset rs i))
  later-shown i h t none = shown ∙ later_wins rs bytes ok y s s' left accepted (offset + k) in_file i h t none
