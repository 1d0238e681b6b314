-- What each call of order 7 promises: one equation for each thing that it answers or changes. n is the refusal number.
use Rattle.std.specs.Prelude.{◌≡◌, List, ℕ, length}
use Rattle.numbers.specs.declared.Layout.{Layout}
use Rattle.homes.specs.declared.Record.{Record}
use Rattle.proposal.specs.Running.{plan_refusal, plan_image, plan_record, plan_count}
use Rattle.proposal.specs.Drawing.{draw_refusal, draw_count, draw_out}

-- the plan is only read
pub record RepairsBy (y : Layout) (R : Record) (img plan : List ℕ) (n count : ℕ) (R' : Record) (img' : List ℕ) : Type 0 where
  pub answer : n ≡ plan_refusal y R (length img) plan
  pub pairs : count ≡ plan_count y R (length img) plan
  pub rec : R' ≡ plan_record y R (length img) plan
  pub image : img' ≡ plan_image y R plan img

-- the image is lent for its length
pub record ChecksPlan (y : Layout) (R : Record) (img plan : List ℕ) (n : ℕ) : Type 0 where
  pub answer : n ≡ plan_refusal y R (length img) plan

pub record Draws (y : Layout) (R : Record) (img buf : List ℕ) (n count : ℕ) (buf' : List ℕ) : Type 0 where
  pub answer : n ≡ draw_refusal y R (length img) (length buf)
  pub written : count ≡ draw_count y R (length img) (length buf)
  pub numbers : buf' ≡ draw_out y R (length img) buf
