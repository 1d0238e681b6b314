-- A line by the numbers that the code keeps of it, counted on from line to line with no division.
use Rattle.std.specs.Prelude.{◌≡◌, ℕ, ◌+◌, ◌*◌, ◌<◌}
use Rattle.std.proofs.Common.{sym, ap, ◌∙◌, subst, mul-zero, mul-pos, arith}
use Rattle.std.proofs.Math.Nat.{zero-div, zero-mod}
use Rattle.numbers.specs.declared.Layout.{Layout}
use Rattle.numbers.specs.Layouts.{Valid, frames}
use Rattle.numbers.specs.Shapes.{rows_pos}
use Rattle.pool_text.specs.declared.Line.{Line}
use Rattle.pool_text.specs.Text.{line_length, line_target, line_frame}
use Rattle.pool_text.specs.Places.{next_start, next_frame, next_target, frame_in}

-- where line i begins in the text, where its unit begins in the image, its target and its frame
pub record Here (y : Layout) (l : Line) : Type 0 where
  pub at_is : l.at ≡ line_length y * l.i
  pub begins_is : l.begins ≡ y.u * l.i
  pub target_is : l.target ≡ line_target y l.i
  pub frame_is : l.frame ≡ line_frame y l.i

pub here_first : (y : Layout) → Here y (record { i = 0; at = 0; begins = 0; target = 0; frame = 0 })
here_first y =
    record { at_is = sym (mul-zero (line_length y)); begins_is = sym (mul-zero y.u); target_is = sym (zero-div (frames y)); frame_is = sym (zero-mod (frames y)) }

module _ (y : Layout) (v : Valid y) (l : Line) (h : Here y l) where
  pub here_frame_lt : l.frame < frames y
  here_frame_lt = subst (λ (f : ℕ). f < frames y) (sym h.frame_is) (frame_in y v l.i)

  place_next : l.at + 11 + 2 * y.u ≡ line_length y * (l.i + 1)
  place_next =
      let q : l.at + 11 + 2 * y.u ≡ l.at + line_length y = omega arith in
      q ∙ ap (λ (x : ℕ). x + line_length y) h.at_is ∙ sym (next_start (line_length y) l.i)

  unit_next : l.begins + y.u ≡ y.u * (l.i + 1)
  unit_next = ap (λ (x : ℕ). x + y.u) h.begins_is ∙ sym (next_start y.u l.i)

  -- the next frame of this target
  pub here_frame : (l.frame + 1 ≡ frames y → ⊥)
      → Here y (record { i = l.i + 1; at = l.at + 11 + 2 * y.u; begins = l.begins + y.u; target = l.target; frame = l.frame + 1 })
  here_frame f =
      let n = next_frame y l.i (let b = here_frame_lt in let e = h.frame_is in omega (arith, b, e)) in
      record { at_is = place_next; begins_is = unit_next; target_is = h.target_is ∙ sym n.0; frame_is = ap (λ (x : ℕ). x + 1) h.frame_is ∙ sym n.1 }

  -- the first frame of the next target
  pub here_target : l.frame + 1 ≡ frames y
      → Here y (record { i = l.i + 1; at = l.at + 11 + 2 * y.u; begins = l.begins + y.u; target = l.target + 1; frame = 0 })
  here_target e =
      let n = next_target y l.i (mul-pos (rows_pos y v) v.some_tiles) (ap (λ (x : ℕ). x + 1) (sym h.frame_is) ∙ e) in
      record { at_is = place_next; begins_is = unit_next; target_is = ap (λ (x : ℕ). x + 1) h.target_is ∙ sym n.0; frame_is = sym n.1 }
