-- `hex_text::digit_or_16` meets its contract: the digits are two runs.
use mathlib.Core.Path.{◌∙◌, ap}
use Rattle.hex_text.specs.Runs.{decimal_or}
use Rattle.hex_text.specs.RunLaws.{by_two_runs}
use Rattle.hex_text.proofs.digit_or_16.Goals as goal

pub returns : goal.returns
returns c = c.decimal_or.ensures ∙ ap (decimal_or _) c.letter_or_16.ensures ∙ by_two_runs _
