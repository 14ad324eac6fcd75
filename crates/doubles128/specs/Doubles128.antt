-- The limits of Field128, for the definitions of a double as a field number, and back, over any field (`doubles`). Assumes nothing.
use Rattle.std.specs.Prelude.{ℕ, ◌-◌, ◌^◌}
use Rattle.field128.specs.Field128.{number_of}
use Rattle.doubles.specs.declared.Coordinate.{Coordinate}
use Rattle.doubles128.specs.declared.Coordinate128.{Coordinate128}

-- how far from 0 a floor may lie
abbrev pub floor_limit128 : ℕ
floor_limit128 = 2 ^ 64 - 1

-- how large an element may be as a centred number, to be decoded
abbrev pub size_limit128 : ℕ
size_limit128 = 2 ^ 64 - 1

-- with the number of the element's two words
abbrev pub coordinate_in : Coordinate128 → Coordinate
coordinate_in c = record { answer = c.answer; element = number_of c.element }
