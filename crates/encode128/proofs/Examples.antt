-- Worked rows of encoding over Field128, with rows of words that held sevens. Assumes nothing.
use mathlib.Core.Path.{◌≡◌, refl}
use mathlib.Core.List.{[], ◌∷◌}
use Prim.Native.Nat.{ℕ, ◌-◌}
use lib.ListN.{replicate}
use lib.Ieee.{Float, binary64, of_bits}
use Rattle.rules.specs.Rules.{answer, accepted}
use Rattle.doubles.specs.Doubles.{unusable, floor_div, mod_p, floor_of}
use Rattle.doubles.specs.Doubles as doubles
use Rattle.field64.specs.Sums.{evaluate}
use Rattle.pine.specs.Param.{param_rules, param_answer, standard}
use Rattle.pine.specs.Record.{halvings, digits, sq_norm_bound_of, sq_norm_bits_of, wr_test_bound, wr_test_bits_of, bit_checked_len_of, encoded_input_len_of}
use Rattle.flp.specs.Bits.{bits, groups}
use Rattle.flp.specs.Tests.{pairs, weighed, weigh, test_of, tests_of}
use Rattle.flp.specs.Encode.{elements, sq_norm, true_sq_norm_of, test_bits, results_of, measurement_of, coordinates_rule, every_rule, range_rule, Encoded, encode_outcome, encode_rules, encode_of}
use Rattle.field128.specs.Field128.{p128}
use Rattle.params128.specs.Field128.{Field128}

-- 0.0, 1.0 and -1.0; 2 ^ 32, 2 ^ 63 and 2 ^ 64
abbrev none : Float
none = of_bits binary64 0

abbrev one : Float
one = of_bits binary64 0x3ff0_0000_0000_0000

abbrev minus_one : Float
minus_one = of_bits binary64 0xbff0_0000_0000_0000

abbrev large : Float
large = of_bits binary64 0x41f0_0000_0000_0000

abbrev larger : Float
larger = of_bits binary64 0x43e0_0000_0000_0000

abbrev beyond : Float
beyond = of_bits binary64 0x43f0_0000_0000_0000

-- n 1, d 4, f 0, T 2, K 2, this and three zeros, stream 0x03 0x00, rows of so many words
abbrev small : Float → (m r : ℕ) → Encoded
small x m r = encode_of Field128 (standard 1 4 0 1 1 2 2) (x ∷ none ∷ none ∷ none ∷ []) (3 ∷ 0 ∷ []) (replicate m 7) (replicate r 7)

-- n 65536, d 1, f 0, T 1, K 1, this coordinate, stream 0x01
abbrev alone : Float → Encoded
alone x = encode_of Field128 (standard 65536 1 0 1 1 1 1) (x ∷ []) (1 ∷ []) (replicate 178 7) (replicate 2 7)

record Rows : Type 0 where
  -- as over Field64; the words of p - 1 are 0 and 2 ^ 64 - 28
  short : small one 36 4 ≡ encode_outcome accepted (Field128.words (1 ∷ 0 ∷ 0 ∷ 0 ∷ 1 ∷ 0 ∷ 0 ∷ 0 ∷ 0 ∷ 0 ∷ 1 ∷ 1 ∷ 0 ∷ 1 ∷ 1 ∷ 1 ∷ 0 ∷ 1 ∷ [])) (1 ∷ 0 ∷ 0 ∷ 18446744073709551588 ∷ [])
  -- a negative coordinate
  negative : small minus_one 36 4 ≡ encode_outcome accepted (Field128.words ((p128 - 1) ∷ 0 ∷ 0 ∷ 0 ∷ 1 ∷ 0 ∷ 0 ∷ 1 ∷ 1 ∷ 1 ∷ 0 ∷ 1 ∷ 0 ∷ 0 ∷ 0 ∷ 0 ∷ 1 ∷ 1 ∷ [])) (0 ∷ 18446744073709551588 ∷ 1 ∷ 0 ∷ [])
  -- lengths are in words
  measurement_short : small one 18 4 ≡ encode_outcome (answer 7 3) (replicate 18 7) (replicate 4 7)
  results_short : small one 36 2 ≡ encode_outcome (answer 7 4) (replicate 36 7) (replicate 2 7)
  -- 2 ^ 32 is accepted over Field64, where its square wraps; here it does not
  long : alone large ≡ encode_outcome (answer 10 0) (replicate 178 7) (replicate 2 7)
  -- 2 ^ 63 is beyond a floor's limit over Field64, here 2 ^ 64 is
  longer : (alone larger).answer ≡ answer 10 0
  far : (alone beyond).answer ≡ answer 17 0

rows : Rows
unfolding evaluate of_bits unusable doubles.element floor_of floor_div mod_p encode_of encode_rules measurement_of results_of coordinates_rule every_rule range_rule elements sq_norm true_sq_norm_of test_bits bits groups pairs weighed weigh test_of tests_of halvings digits sq_norm_bound_of sq_norm_bits_of wr_test_bound wr_test_bits_of bit_checked_len_of encoded_input_len_of param_answer param_rules
rows = record { short = refl; negative = refl; measurement_short = refl; results_short = refl; long = refl; longer = refl; far = refl }
