-- Whether the keys of a pass still rise after one record more.
use Rattle.std.specs.Prelude.{Bool}
use Rattle.lists.specs.Pick.{pick, both}

abbrev pub rises_of : Bool → Bool → Bool → Bool
rises_of rising begun above = pick begun (both rising above) rising
