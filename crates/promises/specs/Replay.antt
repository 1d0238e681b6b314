-- Document 02, order 4: a recorded trace replayed. "The program runs the events from a zero pool and prints each answer. .. A malformed line prints number
-- 13 and the run goes on with the next line; a refused event leaves the pool as the table says. The end state equals that of the calls made directly."
use Rattle.std.specs.Prelude.{◌≡◌, refl, Bool, true, List, [], ◌∷◌, ◌++◌, map, ℕ, zero, suc, ◌-◌, ◌≤◌, ◌<◌, length, get_or, take, drop}
use Rattle.std.proofs.Math.Path.{sym, ap, subst, subst⁻¹}
use Rattle.std.proofs.Common.{◌∙◌, arith, take_at, drop_at, eq-eqb}
use Rattle.lists.specs.Pick.{below_or_not, clash, not-both_ways}
use Rattle.lists.specs.Refusal.{LowestThatApplies, refusal_lowest, grant, grant_no, grant_yes}
use Rattle.lists.specs.Tabulate.{at, zeros}
use Rattle.numbers.specs.declared.Layout.{Layout}
use Rattle.numbers.specs.Layouts.{Valid, capacity, image_length}
use Rattle.numbers.specs.Refused.{no_layout}
use Rattle.homes.specs.declared.Record.{Record}
use Rattle.hex_text.specs.Hex.{hex_of}
use Rattle.pool.specs.Refusals.{range_refusal}
use Rattle.pool.specs.Files.{part}
use Rattle.pool.specs.Calls.{Reads, Writes, Fails, Repairs}
use Rattle.trace.specs.FieldLaws.{fields_ended}
use Rattle.trace.specs.Forms.{is_layout, layout_at}
use Rattle.trace.specs.Told.{Told, malformed, told_write, told_fail, told_repair, told_read, told_of}
use Rattle.trace.specs.ToldLaws.{told_long, told_unended}
use Rattle.trace.specs.Written.{line_of, Tellable}
use Rattle.trace.specs.WrittenLaws as W
use Rattle.answers.specs.Decimal.{decimal, printed}
use Rattle.replay_line.specs.declared.FirstLine.{FirstLine}
use Rattle.replay_line.specs.declared.Played.{Played}
use Rattle.replay_line.specs.First.{first_tests, first_refusal, first_of}
use Rattle.replay_line.specs.FirstLaws.{layout-length, first_malformed_lem, first_asked}
use Rattle.replay_line.specs.Play.{played_record, played_image, answer_of, roomy, play_refusal, Plays}
use Rattle.line_cursor.specs.Lines.{lines_of, joined, whole_of, kept_of, cut_lines}
use Rattle.line_cursor.specs.LineLaws.{NewlineLast, lines_newline_last}
use Rattle.line_cursor.specs.CutLaws as C
use Rattle.replay_line.specs.PlayedLaws.{answer_fits}
use Rattle.promises.specs.Runs.{Event, write, fail, repair, read, State, start, step, run, laid_on}
use Rattle.promises.specs.Demand3.{Right, demand_3, file_of_run}
use Rattle.promises.specs.Tight.{same}

-- ---- the first line

module _ (line : List ℕ) (r : FirstLine) (p : r ≡ first_of line) where
  first_number : r.refusal ≡ first_refusal line
  unfolding first_of
  first_number = ap (λ (x : FirstLine). x.refusal) p ∙ by (first_refusal line)
    where
      given : FirstLine
      given = record { refusal = 0; layout = layout_at line 0; image = image_length (layout_at line 0) }

      by : (n : ℕ) → (grant {A = FirstLine} n given (record { refusal = n; layout = no_layout; image = 0 })).refusal ≡ n
      by zero = refl
      by (suc n) = refl

  -- the number is the lowest that applies
  pub first_lowest : LowestThatApplies (first_tests line) r.refusal
  unfolding first_refusal
  first_lowest = subst⁻¹ (LowestThatApplies (first_tests line)) first_number (refusal_lowest 1 (first_tests line) (omega arith) refl)

  pub first_refused : (r.refusal ≡ 0 → ⊥) → (r.layout ≡ no_layout) × (r.image ≡ 0)
  unfolding first_of
  first_refused f =
      let e = p ∙ grant_no (first_refusal line) _ _ (λ z. f (first_number ∙ z)) in
      (ap (λ (x : FirstLine). x.layout) e, ap (λ (x : FirstLine). x.image) e)

  -- accepted, a replay has a layout within its bounds, and an image of at most 32,768 bytes
  pub record FirstGiven : Type 0 where
    pub layout : r.layout ≡ layout_at line 0
    pub valid : Valid r.layout
    pub image : r.image ≡ image_length r.layout
    pub small : r.image ≤ 32768

  pub first_accepted : r.refusal ≡ 0 → FirstGiven
  unfolding first_of
  first_accepted z =
      let n = sym first_number ∙ z in
      let e = p ∙ grant_yes (first_refusal line) _ _ n in
      let a = first_asked line n in
      let y = ap (λ (x : FirstLine). x.layout) e in
      let m = ap (λ (x : FirstLine). x.image) e ∙ ap image_length (sym y) in
      record { layout = y; valid = subst Valid (sym y) a.valid; image = m; small = omega (arith, m, a.small, ap image_length y) }

-- ---- one line

module _ (y : Layout) (R : Record) (img line old : List ℕ) where
  module _ (x : Played) (img' new : List ℕ) (p : Plays y R img line old x img' new) where
    abbrev play_table : List (Bool × ℕ)
    play_table = (roomy (length img) (length old), 5) ∷ []

    pub play_lowest : LowestThatApplies play_table x.refusal
    unfolding play_refusal
    play_lowest = subst⁻¹ (LowestThatApplies play_table) p.answer (refusal_lowest 1 play_table (omega arith) refl)

    -- refused, the answer's buffer is zeros, and nothing else changes
    pub play_refused : (x.refusal ≡ 0 → ⊥) → (new ≡ zeros (length old)) × (x.length ≡ 0) × (x.rec ≡ R) × (img' ≡ img)
    play_refused f =
        let never : (play_refusal (length img) (length old) ≡ 0) → ⊥ = λ z. f (p.answer ∙ z) in (
          p.text ∙ grant_no _ _ _ never,
          p.long ∙ grant_no _ _ _ never,
          p.rec ∙ grant_no _ _ _ never,
          p.image ∙ grant_no _ _ _ never,
        )

    -- accepted, the answer stands at the buffer's beginning, and the line is played
    pub record PlayDone : Type 0 where
      pub prints : take x.length new ≡ answer_of y R img (told_of line)
      pub rest : drop x.length new ≡ drop x.length old
      pub rec : x.rec ≡ played_record y R img (told_of line)
      pub image : img' ≡ played_image y R img (told_of line)

    pub play_accepted : x.refusal ≡ 0 → PlayDone
    play_accepted z =
        let n = sym p.answer ∙ z in
        let said = answer_of y R img (told_of line) in
        let long = p.long ∙ grant_yes _ _ _ n in
        let text = p.text ∙ grant_yes _ _ _ n in
        record {
          prints = ap (take x.length) text ∙ take_at said (drop (length said) old) x.length (sym long);
          rest = ap (drop x.length) text ∙ drop_at said (drop (length said) old) x.length (sym long) ∙ ap (λ (k : ℕ). drop k old) (sym long);
          rec = p.rec ∙ grant_yes _ _ _ n;
          image = p.image ∙ grant_yes _ _ _ n;
        }

    -- the answer lies within the buffer, which comes back as long as it was lent
    pub answer-within : length new ≡ length old → x.length ≤ length old
    answer-within = answer_fits y R img line old p

    -- a malformed line changes nothing, and prints 13
    pub malformed_changes_nothing : x.refusal ≡ 0 → told_of line ≡ malformed
        → (take x.length new ≡ printed 13 []) × (x.rec ≡ R) × (img' ≡ img)
    unfolding answer_of played_record played_image
    malformed_changes_nothing z e =
        let d = play_accepted z in (
          d.prints ∙ ap (answer_of y R img) e,
          d.rec ∙ ap (played_record y R img) e,
          d.image ∙ ap (played_image y R img) e,
        )

  pub play_tight : (x x' : Played) (img' img'' new new' : List ℕ) → Plays y R img line old x img' new → Plays y R img line old x' img'' new'
      → (x ≡ x') × (img' ≡ img'') × (new ≡ new')
  play_tight x x' img' img'' new new' p q = (
    λ i. record { refusal = same p.answer q.answer i; length = same p.long q.long i; rec = same p.rec q.rec i },
    same p.image q.image,
    same p.text q.text,
  )

-- ---- "the answers printed are those of the calls": of any outcome that the call's promise allows

module _ (y : Layout) (R : Record) (img : List ℕ) where
  pub write_prints : (offset : ℕ) (bytes : List ℕ) (ok : (i : ℕ) → i < length bytes → at bytes i < 256) (n : ℕ) (img' : List ℕ) → Writes y R img offset bytes n img'
      → (answer_of y R img (told_write offset bytes ok) ≡ printed n []) × (played_image y R img (told_write offset bytes ok) ≡ img')
  unfolding answer_of played_image
  write_prints offset bytes ok n img' p = (ap (λ (m : ℕ). printed m []) (sym p.answer), sym p.image)

  pub fail_prints : (target n : ℕ) (R' : Record) → Fails y R img target n R'
      → (answer_of y R img (told_fail target) ≡ printed n []) × (played_record y R img (told_fail target) ≡ R')
  unfolding answer_of played_record
  fail_prints target n R' p = (ap (λ (m : ℕ). printed m []) (sym p.answer), sym p.rec)

  pub repair_prints : (n count : ℕ) (R' : Record) (img' : List ℕ) → Repairs y R img n count R' img'
      → (answer_of y R img told_repair ≡ printed n (32 ∷ decimal count)) × (played_record y R img told_repair ≡ R') × (played_image y R img told_repair ≡ img')
  unfolding answer_of played_record played_image
  repair_prints n count R' img' p = (λ i. printed (sym p.answer i) (32 ∷ decimal (sym p.pairs i)), sym p.rec, sym p.image)

  pub read_prints : (offset size n : ℕ) (out : List ℕ) → Reads y R img offset size n out → answer_of y R img (told_read offset size) ≡ printed n (32 ∷ hex_of out)
  unfolding answer_of
  read_prints offset size n out p = λ i. printed (sym p.answer i) (32 ∷ hex_of (sym p.bytes i))

-- ---- all lines

-- the event that a line tells, where it tells one
abbrev pub event_told : Told → List Event
event_told malformed = []
event_told (told_write offset bytes ok) = write offset bytes ok ∷ []
event_told (told_fail target) = fail target ∷ []
event_told told_repair = repair ∷ []
event_told (told_read offset size) = read offset size ∷ []

-- those of the well-formed lines, in order
unfoldable pub events_of : List (List ℕ) → List Event
events_of [] = []
events_of (l ∷ ls) = event_told (told_of l) ++ events_of ls

-- what the lines print, from a record and an image on
unfoldable pub replay_prints : Layout → Record → List ℕ → List (List ℕ) → List ℕ
replay_prints y R img [] = []
replay_prints y R img (l ∷ ls) = answer_of y R img (told_of l) ++ replay_prints y (played_record y R img (told_of l)) (played_image y R img (told_of l)) ls

-- the lines were played in turn, each by the promise of its call and in some buffer with room enough, and `prints` is what was printed
abbrev pub PlayedInTurn : Layout → Record → List ℕ → List (List ℕ) → Record → List ℕ → List ℕ → Type 0
PlayedInTurn y R img [] R'' img'' prints = (R'' ≡ R) × (img'' ≡ img) × (prints ≡ [])
PlayedInTurn y R img (l ∷ ls) R'' img'' prints =
    (old : List ℕ) × (x : Played) × (img' : List ℕ) × (new : List ℕ) × Plays y R img l old x img' new × (x.refusal ≡ 0)
    × (rest : List ℕ) × PlayedInTurn y x.rec img' ls R'' img'' rest × (prints ≡ take x.length new ++ rest)

run-told : (y : Layout) (s : State) (t : Told)
    → (played_record y s.rec s.img t ≡ (run y s (event_told t)).rec) × (played_image y s.rec s.img t ≡ (run y s (event_told t)).img)
unfolding played_record played_image run step
run-told y s malformed = (refl, refl)
run-told y s (told_write offset bytes ok) = (refl, refl)
run-told y s (told_fail target) = (refl, refl)
run-told y s told_repair = (refl, refl)
run-told y s (told_read offset size) = (refl, refl)

run_more : (y : Layout) (s : State) (es fs : List Event) → run y (run y s es) fs ≡ run y s (es ++ fs)
unfolding run
run_more y s [] fs = refl
run_more y s (e ∷ es) fs = run_more y (step y s e) es fs

-- "The end state equals that of the calls made directly": it is that of the run of the events, and what is printed is what the lines say
pub replay_is_run : (y : Layout) (s : State) (lines : List (List ℕ)) (R' : Record) (img' prints : List ℕ) → PlayedInTurn y s.rec s.img lines R' img' prints
    → (R' ≡ (run y s (events_of lines)).rec) × (img' ≡ (run y s (events_of lines)).img) × (prints ≡ replay_prints y s.rec s.img lines)
unfolding events_of replay_prints run
replay_is_run y s [] R' img' prints p = p
replay_is_run y s (l ∷ ls) R'' img'' prints (old, x, img', new, p, z, rest, q, e) =
    let d = play_accepted y s.rec s.img l old x img' new p z in
    let mid = run y s (event_told (told_of l)) in
    let told = run-told y s (told_of l) in
    let q' = subst (λ (i : List ℕ). PlayedInTurn y mid.rec i ls R'' img'' rest) (d.image ∙ told.1)
    (subst (λ (R : Record). PlayedInTurn y R img' ls R'' img'' rest) (d.rec ∙ told.0) q) in
    let left = replay_is_run y mid ls R'' img'' rest q' in
    let more = run_more y s (event_told (told_of l)) (events_of ls) in (
      left.0 ∙ ap (λ (t : State). t.rec) more,
      left.1 ∙ ap (λ (t : State). t.img) more,
      e ∙ (λ i. d.prints i ++ (left.2 ∙ (λ j. replay_prints y (sym told.0 j) (sym told.1 j) ls)) i),
    )

-- ---- from a zero pool

abbrev pub zero_pool : Layout → State
zero_pool y = start y (0 ∷ 0 ∷ 0 ∷ [])

module _ (y : Layout) (valid : Valid y) (lines : List (List ℕ)) (R' : Record) (img' prints : List ℕ)
    (p : PlayedInTurn y (zero_pool y).rec (zero_pool y).img lines R' img' prints) where
  -- the file that the lines have written: zeros, with the accepted writes laid on in order
  abbrev pub file_written : List ℕ
  file_written = laid_on y (zeros (capacity y)) (events_of lines)

  same_state : run y (zero_pool y) (events_of lines) ≡ record { rec = R'; img = img'; file = file_written }
  same_state =
      let r = replay_is_run y (zero_pool y) lines R' img' prints p in
      let f = file_of_run y valid (0 ∷ 0 ∷ 0 ∷ []) refl (events_of lines) in
      λ i. record { rec = sym r.0 i; img = sym r.1 i; file = f i }

  -- demand 3 holds after the lines
  pub replay_right : Right y (record { rec = R'; img = img'; file = file_written })
  replay_right = subst (Right y) same_state (demand_3 y valid (0 ∷ 0 ∷ 0 ∷ []) refl (events_of lines))

  -- and so an accepted read that comes next prints the file
  pub replay_shows : (offset size : ℕ) → range_refusal y R' (length img') offset size ≡ 0
      → answer_of y R' img' (told_read offset size) ≡ printed 0 (32 ∷ hex_of (part file_written offset size))
  unfolding answer_of
  replay_shows offset size z = λ i. printed (z i) (32 ∷ hex_of (replay_right.shown offset size z i))

-- ---- "each event has exactly one line that tells it"

pub line_tells : (t : Told) → Tellable t → told_of (line_of t) ≡ t
line_tells = W.told-written

pub only_line : (t : Told) → Tellable t → (line : List ℕ) → told_of line ≡ t → line ≡ line_of t
only_line = W.the_line

-- a line that is not malformed tells an event that has a line, and so is that line
pub well_formed-line : (line : List ℕ) → (told_of line ≡ malformed → ⊥) → Tellable (told_of line) × (line_of (told_of line) ≡ line)
well_formed-line line f = let k = W.told_some line f in (W.tellable_told line k, W.written-told line k)

-- ---- the whole program, from the lines of its input to its output

-- "where it is malformed, or the pool exceeds 32,768 bytes, 13 is printed and the run ends, and where the numbers are refused, 1 is"; a first line that
-- is not there at all is malformed too
unfoldable pub replay_output : List (List ℕ) → List ℕ
replay_output [] = printed 13 []
replay_output (first ∷ lines) =
    grant (first_refusal first) (replay_prints (layout_at first 0) (zero_pool (layout_at first 0)).rec (zero_pool (layout_at first 0)).img lines)
    (printed (first_refusal first) [])

-- however a stream comes in pieces, the lines that are cut from them are its lines, of a long one its first 8,301 bytes
pub pieces_are_lines : (pieces : List (List ℕ)) → cut_lines [] pieces ≡ map kept_of (lines_of (joined pieces))
pieces_are_lines = C.cut_lines_lem

-- "a longer one is malformed up to its newline": what is kept of a line tells what the line tells
module _ (line : List ℕ) (last : NewlineLast line) where
  kept_unended : 8301 < length line → at (kept_of line) (length (kept_of line) - 1) ≡ 10 → ⊥
  kept_unended h e = clash (whole_of (kept_of line)) (eq-eqb _ 10 e) (C.kept_long line last h)

  pub kept_tells : told_of (kept_of line) ≡ told_of line
  kept_tells =
      below_or_not 8301 (length line)
      (λ (h : 8301 < length line). told_unended (kept_of line) (kept_unended h) ∙ sym (told_long line h))
      (λ (h : length line ≤ 8301). ap told_of (C.kept_short line h))

-- of a first line likewise: one that is too long is malformed, and so is what is kept of it
long_first : (line : List ℕ) → 8301 < length line → first_refusal line ≡ 13
long_first line h =
    sym (first_malformed_lem line (not-both_ways (is_layout line) (λ (t : is_layout line ≡ true). let e = layout-length line t in absurd (omega (arith, e, h)))))

unended_first : (line : List ℕ) → (at line (length line - 1) ≡ 10 → ⊥) → first_refusal line ≡ 13
unfolding is_layout
unended_first line f =
    sym (first_malformed_lem line (not-both_ways (is_layout line) (λ (t : is_layout line ≡ true). f (fields_ended line 0 2 (2 ∷ 2 ∷ 4 ∷ 6 ∷ 16 ∷ []) t))))

-- in each of these lines no newline stands but at its end
abbrev Lines : List (List ℕ) → Type 0
Lines ls = (k : ℕ) → NewlineLast (get_or ls k [])

kept_prints : (y : Layout) (R : Record) (img : List ℕ) (ls : List (List ℕ)) → Lines ls → replay_prints y R img (map kept_of ls) ≡ replay_prints y R img ls
unfolding replay_prints
kept_prints y R img [] h = refl
kept_prints y R img (l ∷ ls) h =
    let e = kept_tells l (h 0) in
    (λ i. answer_of y R img (e i) ++ replay_prints y (played_record y R img (e i)) (played_image y R img (e i)) (map kept_of ls))
    ∙ ap (λ (prints : List ℕ). answer_of y R img (told_of l) ++ prints)
    (kept_prints y (played_record y R img (told_of l)) (played_image y R img (told_of l)) ls (λ k. h (suc k)))

refused-output : (first : List ℕ) (lines : List (List ℕ)) → first_refusal first ≡ 13 → replay_output (first ∷ lines) ≡ printed 13 []
unfolding replay_output
refused-output first lines e =
    ap (λ (n : ℕ). grant n (replay_prints (layout_at first 0) (zero_pool (layout_at first 0)).rec (zero_pool (layout_at first 0)).img lines) (printed n [])) e

kept_output : (ls : List (List ℕ)) → Lines ls → replay_output (map kept_of ls) ≡ replay_output ls
unfolding replay_output
kept_output [] h = refl
kept_output (l ∷ ls) h =
    below_or_not 8301 (length l)
    (λ (k : 8301 < length l).
    refused-output (kept_of l) (map kept_of ls) (unended_first (kept_of l) (kept_unended l (h 0) k)) ∙ sym (refused-output l ls (long_first l k)))
    (λ (k : length l ≤ 8301).
    ap (λ (f : List ℕ). replay_output (f ∷ map kept_of ls)) (C.kept_short l k)
    ∙ ap (λ (prints : List ℕ). grant (first_refusal l) prints (printed (first_refusal l) []))
    (kept_prints (layout_at l 0) (zero_pool (layout_at l 0)).rec (zero_pool (layout_at l 0)).img ls (λ j. h (suc j))))

-- the lines that are cut from a stream's pieces give the output of the stream
pub program_prints : (pieces : List (List ℕ)) → replay_output (cut_lines [] pieces) ≡ replay_output (lines_of (joined pieces))
program_prints pieces = ap replay_output (C.cut_lines_lem pieces) ∙ kept_output (lines_of (joined pieces)) (lines_newline_last (joined pieces))
