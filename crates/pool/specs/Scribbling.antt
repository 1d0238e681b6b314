-- "others scribble on failed drives only": any bytes there, `ink x` at image byte x, and the rest as it was.
use Rattle.std.specs.Prelude.{List, ℕ, length}
use Rattle.lists.specs.Pick.{pick}
use Rattle.lists.specs.Tabulate.{at, tabulate}
use Rattle.numbers.specs.declared.Layout.{Layout}
use Rattle.place.specs.Bytes.{target_here}
use Rattle.homes.specs.declared.Record.{Record}
use Rattle.homes.specs.Records.{failed}

unfoldable pub scribbled : Layout → Record → List ℕ → (ℕ → ℕ) → List ℕ
scribbled y R img ink = tabulate (length img) (λ x. pick (failed R (target_here y x)) (ink x) (at img x))
