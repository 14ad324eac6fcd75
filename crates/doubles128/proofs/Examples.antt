-- Worked rows at the edges of the two limits, of 2 ^ 64, and of zero. Assumes nothing.
use Rattle.std.proofs.Common.{◌≡◌, ℕ, ◌+◌, ◌-◌, ◌/◌, true, false, pos, negsuc, refl}
use lib.Ieee.{Float, fin, round, div, neg, of_int}
use Rattle.rules.specs.Rules.{answer, accepted}
use Rattle.field64.specs.Field.{p64}
use Rattle.field128.specs.Field128.{p128}
use Rattle.doubles.specs.declared.Coordinate.{Coordinate}
use Rattle.doubles.specs.declared.Decoded.{Decoded}
use Rattle.doubles.specs.Doubles.{floor_div, mod_p, unusable, floor_of, element, coordinate, coordinate_of, centred, decoded, decoded_of, plus_zero}
use Rattle.doubles128.specs.declared.Limbs.{Limbs}
use Rattle.doubles128.specs.Doubles128.{floor_limit128, size_limit128, coordinate_in}
use Rattle.doubles128.specs.Steps.{limbs_of}

-- ---- from a double
abbrev given : Float → (f : ℕ) → Coordinate
given x f = coordinate_of p128 floor_limit128 x f

abbrev gives : ℕ → Coordinate
gives y = coordinate accepted y

abbrev refuses : ℕ → Coordinate
refuses r = coordinate (answer r 0) 0

record Encoded : Type 0 where
  -- the largest double below 2 ^ 64, 2 ^ 64 - 2048, and its negative
  top : given (fin false 9007199254740991 (pos 11)) 0 ≡ gives 18446744073709549568
  bottom : given (fin true 9007199254740991 (pos 11)) 0 ≡ gives 340282366920938462928419029294191216641
  -- 2 ^ 64, and its negative
  top_next : given (fin false 1 (pos 64)) 0 ≡ refuses 17
  bottom_next : given (fin true 1 (pos 64)) 0 ≡ refuses 17
  -- the same at f 30
  top_30 : given (fin false 9007199254740991 (negsuc 18)) 30 ≡ gives 18446744073709549568
  bottom_30 : given (fin true 9007199254740991 (negsuc 18)) 30 ≡ gives 340282366920938462928419029294191216641
  top_next_30 : given (fin false 1 (pos 34)) 30 ≡ refuses 17
  bottom_next_30 : given (fin true 1 (pos 34)) 30 ≡ refuses 17
  -- 2 ^ 63, and its negative: above half of Field64's modulus
  middle : given (fin false 1 (pos 63)) 0 ≡ gives 9223372036854775808
  minus_middle : given (fin true 1 (pos 63)) 0 ≡ gives 340282366920938462937642401331045990401
  -- -0.5, whose floor is -1, and 0.5
  minus_half : given (fin true 1 (negsuc 0)) 0 ≡ gives 340282366920938462946865773367900766208
  half : given (fin false 1 (negsuc 0)) 0 ≡ gives 0
  -- -0.0
  minus_zero : given (fin true 0 (pos 0)) 0 ≡ gives 0
  -- rule 4, before rule 17
  frac_bits : given (fin false 1 (pos 64)) 31 ≡ refuses 4

encoded_rows : Encoded
unfolding coordinate_of element unusable floor_of floor_div mod_p
encoded_rows = record { top = refl; bottom = refl; top_next = refl; bottom_next = refl; top_30 = refl; bottom_30 = refl; top_next_30 = refl; bottom_next_30 = refl; middle = refl; minus_middle = refl; minus_half = refl; half = refl; minus_zero = refl; frac_bits = refl }

-- ---- to a double
abbrev back : (y f : ℕ) → Decoded
back y f = decoded_of p128 size_limit128 y f

abbrev reads : Float → Decoded
reads x = record { answer = accepted; value = x }

abbrev none : ℕ → Decoded
none r = record { answer = answer r 0; value = plus_zero }

record Back : Type 0 where
  zero : back 0 0 ≡ reads (fin false 0 (pos 0))
  -- p - 1, which is -1; at f 2, -0.25
  last : back 340282366920938462946865773367900766208 0 ≡ reads (fin true 1 (pos 0))
  last_2 : back 340282366920938462946865773367900766208 2 ≡ reads (fin true 1 (negsuc 1))
  -- 2 ^ 64 - 1 and its negative: the nearest double is 2 ^ 64
  top : back 18446744073709551615 0 ≡ reads (fin false 1 (pos 64))
  bottom : back 340282366920938462928419029294191214594 0 ≡ reads (fin true 1 (pos 64))
  -- 2 ^ 64 and its negative
  top_next : back 18446744073709551616 0 ≡ none 23
  bottom_next : back 340282366920938462928419029294191214593 0 ≡ none 23
  -- 2 ^ 63 and its negative
  middle : back 9223372036854775808 0 ≡ reads (fin false 1 (pos 63))
  minus_middle : back 340282366920938462937642401331045990401 0 ≡ reads (fin true 1 (pos 63))
  -- the two numbers in the middle of the field
  half : back ((p128 - 1) / 2) 0 ≡ none 23
  half_next : back ((p128 - 1) / 2 + 1) 0 ≡ none 23
  -- a tie, to the even double: 2 ^ 53 + 1 and 2 ^ 53 + 3
  tie_down : back 9007199254740993 0 ≡ reads (fin false 1 (pos 53))
  tie_up : back 9007199254740995 0 ≡ reads (fin false 2251799813685249 (pos 2))
  -- rule 12 before rule 23, and rule 4 before both
  modulus : back p128 0 ≡ none 12
  far : back 340282366920938463463374607431768211455 0 ≡ none 12
  frac_bits : back p128 31 ≡ none 4

back_rows : Back
unfolding decoded_of decoded centred round div neg of_int
back_rows = record { zero = refl; last = refl; last_2 = refl; top = refl; bottom = refl; top_next = refl; bottom_next = refl; middle = refl; minus_middle = refl; half = refl; half_next = refl; tie_down = refl; tie_up = refl; modulus = refl; far = refl; frac_bits = refl }

-- ---- limbs, low first
abbrev limbs : (low high : ℕ) → Limbs
limbs l h = record { low = l; high = h }

record Parts : Type 0 where
  small : limbs_of (pos 5) ≡ limbs 5 0
  word : limbs_of (pos 4294967296) ≡ limbs 0 1
  top : limbs_of (pos 18446744073709549568) ≡ limbs 4294965248 4294967295
  minus_one : limbs_of (negsuc 0) ≡ limbs 4294967295 (p64 - 1)
  minus_word : limbs_of (negsuc 4294967295) ≡ limbs 0 (p64 - 1)
  bottom : limbs_of (negsuc 18446744073709549567) ≡ limbs 2048 (p64 - 4294967296)

part_rows : Parts
unfolding mod_p floor_div
part_rows = record { small = refl; word = refl; top = refl; minus_one = refl; minus_word = refl; bottom = refl }

-- the words of an element, low first
words : coordinate_in (record { answer = accepted; element = record { low = 7; high = 1 } }) ≡ record { answer = accepted; element = 18446744073709551623 }
words = refl

limits : (floor_limit128 ≡ 18446744073709551615) × (size_limit128 ≡ 18446744073709551615)
limits = (refl, refl)
