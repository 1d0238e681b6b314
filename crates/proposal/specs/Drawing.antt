-- Our planner. "Our planner's plans are always accepted; its buffer too short is 5, unchanged." Groups rise, contents rise within each, and the
-- sources are the N lowest present contents.
use Rattle.std.specs.Prelude.{Bool, not, List, [], ◌∷◌, ℕ, ◌*◌, ◌-◌, ◌/◌, ◌%◌, eqb, leb, length}
use Rattle.lists.specs.Pick.{pick}
use Rattle.lists.specs.Passing.{over}
use Rattle.lists.specs.Refusal.{refusal_by, grant}
use Rattle.lists.specs.Tabulate.{at, tabulate}
use Rattle.lists.specs.Those.{those}
use Rattle.numbers.specs.declared.Layout.{Layout}
use Rattle.numbers.specs.Layouts.{contents}
use Rattle.homes.specs.declared.Record.{Record}
use Rattle.homes.specs.Missing.{missing}
use Rattle.pool.specs.Counting.{missing_units}
use Rattle.pool.specs.Refusals.{pool_tests}
use Rattle.proposal.specs.Plans.{entry_size}
use Rattle.proposal.specs.Pairs.{missing_numbers}

-- the present contents of group g, lowest first
abbrev pub present_in : Layout → Record → ℕ → List ℕ
present_in y R g = those (λ u. not (missing y R g u)) (contents y)

-- the missing pair that is number i: its group, its content
unfoldable pub group_drawn : Layout → Record → ℕ → ℕ
group_drawn y R i = at (missing_numbers y R) i / contents y

unfoldable pub content_drawn : Layout → Record → ℕ → ℕ
content_drawn y R i = at (missing_numbers y R) i % contents y

-- number f of the entry that names content c of group g: group, content, the N lowest present contents
unfoldable pub entry_number : Layout → Record → ℕ → ℕ → ℕ → ℕ
entry_number y R g c f = pick (eqb f 0) g (pick (eqb f 1) c (at (present_in y R g) (f - 2)))

-- how long the plan is: N+2 numbers for each unit that awaits repair
abbrev pub drawn_length : Layout → Record → ℕ
drawn_length y R = entry_size y * missing_units y R

unfoldable pub drawn_plan : Layout → Record → List ℕ
drawn_plan y R = tabulate (drawn_length y R) (λ z. entry_number y R (group_drawn y R (z / entry_size y)) (content_drawn y R (z / entry_size y)) (z % entry_size y))

-- the call: what every call of the pool tests, and then 5 the buffer, of `room` numbers, is too short
abbrev pub draw_tests : Layout → Record → ℕ → List (Bool × ℕ)
draw_tests y R room = (leb (drawn_length y R) room, 5) ∷ []

unfoldable pub draw_refusal : Layout → Record → ℕ → ℕ → ℕ
draw_refusal y R len room = refusal_by (pool_tests y R len (draw_tests y R room))

-- how many numbers it wrote, from the first on; the buffer's others stay
unfoldable pub draw_count : Layout → Record → ℕ → ℕ → ℕ
draw_count y R len room = grant (draw_refusal y R len room) (drawn_length y R) 0

unfoldable pub draw_out : Layout → Record → ℕ → List ℕ → List ℕ
draw_out y R len buf = grant (draw_refusal y R len (length buf)) (over (drawn_plan y R) buf) buf
