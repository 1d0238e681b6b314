-- "A look at one content has two steps."
use Rattle.std.specs.Prelude.{List, [], ℕ, length, take, drop}
use Rattle.lists.specs.Pick.{pick}
use Rattle.lists.specs.Tabulate.{tabulate, zeros}
use Rattle.lists.specs.Refusal.{grant}
use Rattle.numbers.specs.declared.Layout.{Layout}
use Rattle.homes.specs.declared.Record.{Record}
use Rattle.homes.specs.Missing.{missing}
use Rattle.pool.specs.Contents.{home_spot, content_byte}
use Rattle.pool.specs.Refusals.{look_refusal}

-- prepare: "The first fills a scratch of U bytes with the rebuilt unit if it is missing, with zeros if present." A scratch of `room` bytes; after a
-- refusal "the output of .. a prepared look .. is all zeros over its whole length"
unfoldable pub look_scratch : Layout → Record → List ℕ → ℕ → ℕ → ℕ → List ℕ
look_scratch y R img room g c =
    grant (look_refusal y R (length img) room g c) (tabulate room (λ o. pick (missing y R g c) (content_byte y R img g o c) 0)) (zeros room)

-- show: "The second shows the unit as a part of the image, or of the scratch where it is missing"; after a refusal "a shown part is empty"
unfoldable pub look_shown : Layout → Record → List ℕ → List ℕ → ℕ → ℕ → List ℕ
look_shown y R img scratch g c =
    grant (look_refusal y R (length img) (length scratch) g c) (pick (missing y R g c) scratch (take y.u (drop (home_spot y R g 0 c) img))) []
