-- What each call of the pool promises: one equation for each thing that it answers or changes. n is the refusal number.
use Rattle.std.specs.Prelude.{◌≡◌, List, ℕ, length}
use Rattle.numbers.specs.declared.Layout.{Layout}
use Rattle.homes.specs.declared.Record.{Record}
use Rattle.pool.specs.Refusals.{range_refusal, fail_refusal, repair_refusal, look_refusal}
use Rattle.pool.specs.Reading.{read_out}
use Rattle.pool.specs.Writing.{write_image}
use Rattle.pool.specs.Failing.{fail_record}
use Rattle.pool.specs.Repairing.{repair_image, repair_record, repair_count}
use Rattle.pool.specs.Looking.{look_scratch, look_shown}
use Rattle.pool.specs.Auditing.{audit_refusal, panel_shows}

pub record Reads (y : Layout) (R : Record) (img : List ℕ) (offset size n : ℕ) (out : List ℕ) : Type 0 where
  pub answer : n ≡ range_refusal y R (length img) offset size
  pub bytes : out ≡ read_out y R img offset size

pub record Writes (y : Layout) (R : Record) (img : List ℕ) (offset : ℕ) (bytes : List ℕ) (n : ℕ) (img' : List ℕ) : Type 0 where
  pub answer : n ≡ range_refusal y R (length img) offset (length bytes)
  pub image : img' ≡ write_image y R img offset bytes

pub record Fails (y : Layout) (R : Record) (img : List ℕ) (target n : ℕ) (R' : Record) : Type 0 where
  pub answer : n ≡ fail_refusal y R (length img) target
  pub rec : R' ≡ fail_record y R (length img) target

pub record Repairs (y : Layout) (R : Record) (img : List ℕ) (n count : ℕ) (R' : Record) (img' : List ℕ) : Type 0 where
  pub answer : n ≡ repair_refusal y R (length img)
  pub pairs : count ≡ repair_count y R (length img)
  pub rec : R' ≡ repair_record y R (length img)
  pub image : img' ≡ repair_image y R img

pub record Prepares (y : Layout) (R : Record) (img : List ℕ) (room group content n : ℕ) (scratch : List ℕ) : Type 0 where
  pub answer : n ≡ look_refusal y R (length img) room group content
  pub bytes : scratch ≡ look_scratch y R img room group content

pub record Shows (y : Layout) (R : Record) (img scratch : List ℕ) (group content n : ℕ) (shown : List ℕ) : Type 0 where
  pub answer : n ≡ look_refusal y R (length img) (length scratch) group content
  pub bytes : shown ≡ look_shown y R img scratch group content

pub record Panels (y : Layout) (R : Record) (img : List ℕ) (n waiting failed repaired : ℕ) : Type 0 where
  pub answer : n ≡ repair_refusal y R (length img)
  pub waits : waiting ≡ panel_shows y R (length img) R.waiting
  pub fails : failed ≡ panel_shows y R (length img) R.k
  pub mends : repaired ≡ panel_shows y R (length img) R.q

pub record Audits (y : Layout) (R : Record) (img : List ℕ) (n : ℕ) : Type 0 where
  pub answer : n ≡ audit_refusal y R (length img)
