-- What the code's parts leave of an answer's buffer: a text laid at its beginning, with its length.
use Rattle.std.specs.Prelude.{◌≡◌, List, ℕ, length}
use Rattle.replay_line.specs.Play.{laid_first}

pub record Said (text old : List ℕ) (n : ℕ) (new : List ℕ) : Type 0 where
  pub long : n ≡ length text
  pub laid : new ≡ laid_first text old
