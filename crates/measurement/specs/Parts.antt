-- What the writers of a measurement ask and give. No public contract cites these. Assumes nothing.
use Rattle.std.specs.Prelude.{◌≡◌, ℕ, List, [], ◌∷◌, ◌++◌, Float}
use Rattle.doubles.specs.Doubles.{coordinate_rule}
use Rattle.flp.specs.Bits.{bits}
use Rattle.flp.specs.Encode.{test_bits}

-- no coordinate is refused by rule 8 or 17
abbrev pub Usable : (limit f : ℕ) → List Float → Type 0
Usable limit f [] = Unit {0}
Usable limit f (x ∷ xs) = ((coordinate_rule limit x f).number ≡ 0) × Usable limit f xs

-- what follows the gradient in a measurement
abbrev pub checked_of : (p q v u w b k : ℕ) (results : List ℕ) → List ℕ
checked_of p q v u w b k results = bits q v ++ (bits q u ++ test_bits p w b k results)
