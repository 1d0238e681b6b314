-- read: the buffer of `size` bytes afterwards. "After a refusal: the output of a read .. is all zeros over its whole length"
use Rattle.std.specs.Prelude.{List, ℕ, ◌+◌, length}
use Rattle.lists.specs.Tabulate.{tabulate, zeros}
use Rattle.lists.specs.Refusal.{grant}
use Rattle.numbers.specs.declared.Layout.{Layout}
use Rattle.homes.specs.declared.Record.{Record}
use Rattle.pool.specs.Contents.{file_byte}
use Rattle.pool.specs.Refusals.{range_refusal}

unfoldable pub read_out : Layout → Record → List ℕ → ℕ → ℕ → List ℕ
read_out y R img offset size = grant (range_refusal y R (length img) offset size) (tabulate size (λ i. file_byte y R img (offset + i))) (zeros size)
