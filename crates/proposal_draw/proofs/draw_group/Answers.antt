-- `proposal_draw::draw_group` meets its contract. The loop keeps: the entries of the contents passed are written (`GroupTo`).
use mathlib.Core.Path.{◌≡◌, sym, ◌∙◌}
use mathlib.Core.Bool.{true}
use Prim.Native.Nat.{◌+◌, ◌≤◌}
use native.Mathlib.Omega.{arith}
use lib.ListN.{length}
use Rattle.homes.specs.declared.Record.{Record}
use Rattle.proposal.specs.Plans.{entry_size}
use Rattle.proposal_draw.specs.Drawn.{GroupAt, GroupTo, enough_there, content-present, content_room, content-missing}
use Rattle.proposal_draw.proofs.draw_group.Goals as goal
use Rattle.std.proofs.Common.{List, ℕ, Bool, ◌*◌, ◌<◌}
use Rattle.numbers.specs.declared.Layout.{Layout}
use Rattle.numbers.specs.declared.Shape.{Shape}
use Rattle.numbers.specs.Layouts.{contents}
use Rattle.homes.specs.Records.{Good}
use Rattle.homes.specs.Standing.{InTile}
use Rattle.survey.specs.declared.Stand.{Stand}
use Rattle.survey.specs.Starts.{Stands}
use Rattle.parity.specs.Matrix.{flag}
use Rattle.proposal.specs.Drawing.{drawn_length}
use Rattle.proposal_draw.specs.Drawn.{numbers_below}

-- ---- the group in hand

here : (y : Layout) (s : Shape) (r : Record) (to : List ℕ) (g at : ℕ) (out : List ℕ) (x : Stand)
    → Good y r × InTile y s to g × (drawn_length y r ≤ length out) × (at ≡ numbers_below y r (contents y * g)) → Stands y r g x → GroupAt y r g x.missing at out
here y s r to g at out x p h =
    record { valid = p.1.valid; good = p.0; group = p.1.group; flags_are = h.flags; room = p.2; begins = p.3 }

-- a content that is named is missing, so there is room for its entry
room : (y : Layout) (r : Record) (g : ℕ) (flags : List Bool) (at : ℕ) (old : List ℕ) (k : GroupAt y r g flags at old) (c next : ℕ) (out : List ℕ)
    → GroupTo y r g at old c next out → c < contents y → flag flags c ≡ true → next + entry_size y ≤ length out
room y r g flags at old k c next out s h t = content_room y r g flags at old k c next out s h (sym (k.flags_are c h) ∙ t)

pub draw_entry-requires : goal.draw_entry-requires
draw_entry-requires c =
    let k = here _ _ _ _ _ _ _ _ c.requires c.stand_of-stand.ensures in
    (k.valid, enough_there _ _ _ _ _ _ k, room _ _ _ _ _ _ k _ _ _ (c.loop-c.invariant _ k) c.loop-c-test.true (cc))

pub overflow_add-next : goal.overflow_add-next
overflow_add-next c =
    let k = here _ _ _ _ _ _ _ _ c.requires c.stand_of-stand.ensures in
    omega (arith, room _ _ _ _ _ _ k _ _ _ (c.loop-c.invariant _ k) c.loop-c-test.true (cc), (c.loop-c.invariant _ k).written.len)

pub loop-c-preserved : goal.loop-c-preserved
loop-c-preserved c = λ R k.
    let i = c.loop-c.invariant R k in
    let missing = content-missing _ _ _ _ _ _ k _ _ _ i c.loop-c-test.true in
    let present = content-present _ _ _ _ _ _ k _ _ _ i c.loop-c-test.true in
    grind (arith, missing, present)
