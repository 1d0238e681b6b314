-- The call that answers a layout's numbers.
use Rattle.lists.specs.Refusal.{grant}
use Rattle.numbers.specs.declared.Layout.{Layout}
use Rattle.numbers.specs.declared.Numbers.{Numbers}
use Rattle.numbers.specs.Refused.{layout_refusal}
use Rattle.numbers.specs.Answers.{numbers_of}
use Rattle.layout.specs.declared.Measured.{Measured}

-- "returned numbers are 0 where no rule gives them another value"
abbrev pub no_numbers : Numbers
no_numbers = record { w = 0; b = 0; l = 0; c = 0; frames = 0; groups = 0; capacity = 0; image = 0 }

unfoldable pub measured_of : Layout → Measured
measured_of y = grant (layout_refusal y) (record { refusal = 0; numbers = numbers_of y }) (record { refusal = layout_refusal y; numbers = no_numbers })
