-- The worked examples (docs/PINE.md, "Worked rows"), over the definitions that the contracts cite. A double is given by its bit pattern. Assumes nothing.
use Rattle.std.specs.Prelude.{ℕ, ◌+◌, ◌-◌, ◌*◌, ◌/◌, ◌^◌, ◌≤◌, ◌≡◌, true, false, [], ◌∷◌, take, drop, replicate, Float}
use Rattle.std.specs.Float.{binary64}
use Rattle.std.specs.Float.Ieee.{of_bits}
use Rattle.rules.specs.Rules.{answer, accepted}
use Rattle.field64.specs.Field.{p64}
use Rattle.doubles.specs.Doubles.{floor_limit64, size_limit64, coordinate_of, decoded_of}
use Rattle.doubles.specs.declared.Coordinate.{Coordinate}
use Rattle.doubles.specs.declared.Decoded.{Decoded}
use Rattle.field64.specs.Sums.{number}
use Rattle.pine.specs.declared.PineParam.{PineParam}
use Rattle.pine.specs.declared.WrTestRule.{WrTestRule}
use Rattle.pine.specs.declared.WrTestRule.TheVariants.{Every, Enough}
use Rattle.pine.specs.Param.{Field64, standard, with_later, with_alpha}
use Rattle.pine.specs.Record.{wr_test_bound}
use Rattle.rows.specs.Outcome.{outcome}
use Rattle.flp.specs.Encode.{encode_outcome, encode_of}
use Rattle.vdaf.specs.Aggregates.{accumulate_of}

abbrev pub double : (pattern : ℕ) → Float
double b = of_bits binary64 b

-- accepted, with this element
abbrev pub element : ℕ → Coordinate
element y = record { answer = accepted; element = y }

-- refused by rule 17
abbrev pub beyond : Coordinate
beyond = record { answer = answer 17 0; element = 0 }

-- accepted, with this double
abbrev pub value : (pattern : ℕ) → Decoded
value b = record { answer = accepted; value = double b }

-- f 0, and c = e = 1
abbrev pub param : (n d T K : ℕ) → PineParam
param n d T K = standard n d 0 1 1 T K

-- the same with the switch for the true squared norm on
abbrev pub switched_on : PineParam → PineParam
switched_on i = with_later i.alpha_numerator i.alpha_denominator i.wr_test_rule true i

-- 0.0, 1.0 and 4294967296.0
abbrev pub none : Float
none = double 0

abbrev pub one : Float
one = double 0x3ff0_0000_0000_0000

abbrev pub large : Float
large = double 0x41f0_0000_0000_0000

-- n 4, d 2, f 0, c = e = 1 and the multiplier 1 / 4: B is 16 of five bits, b is 2, so that a test is in range from -1 to 2, and w is 2
abbrev pub narrow : WrTestRule → (T K : ℕ) → PineParam
narrow rule T K = with_later 1 4 rule false (param 4 2 T K)

-- 2.0, 3.0 and 4.0
abbrev pub two : Float
two = double 0x4000_0000_0000_0000

abbrev pub three : Float
three = double 0x4008_0000_0000_0000

abbrev pub four : Float
four = double 0x4010_0000_0000_0000

pub record Table : Type 0 where
  -- -0.25, f 0
  pub minus_quarter : coordinate_of p64 floor_limit64 (double 0xbfd0_0000_0000_0000) 0 ≡ element 18446744069414584320
  -- 0.75, f 0 and f 2
  pub three_quarters : coordinate_of p64 floor_limit64 (double 0x3fe8_0000_0000_0000) 0 ≡ element 0
  pub three_quarters_2 : coordinate_of p64 floor_limit64 (double 0x3fe8_0000_0000_0000) 2 ≡ element 3
  -- -0.3, f 2
  pub three_tenths : coordinate_of p64 floor_limit64 (double 0xbfd3_3333_3333_3333) 2 ≡ element (p64 - 2)
  -- -0.0, every f
  pub minus_zero : (f : ℕ) → f ≤ 30 → coordinate_of p64 floor_limit64 (double 0x8000_0000_0000_0000) f ≡ element 0
  -- 1e300, f 0
  pub huge : coordinate_of p64 floor_limit64 (double 0x7e37_e43c_8800_759c) 0 ≡ beyond
  -- the largest double, whose product with 2 ^ 30 is none, f 30
  pub largest : coordinate_of p64 floor_limit64 (double 0x7fef_ffff_ffff_ffff) 30 ≡ beyond
  -- the limit is (p - 1) / 2
  pub limit : Field64.floor_limit ≡ 9223372034707292160
  -- 9223372034707292160.0 and the next double, and their negatives, f 0
  pub top : coordinate_of p64 floor_limit64 (double 0x43df_ffff_ffe0_0000) 0 ≡ element 9223372034707292160
  pub top_next : coordinate_of p64 floor_limit64 (double 0x43df_ffff_ffe0_0001) 0 ≡ beyond
  pub bottom : coordinate_of p64 floor_limit64 (double 0xc3df_ffff_ffe0_0000) 0 ≡ element 9223372034707292161
  pub bottom_next : coordinate_of p64 floor_limit64 (double 0xc3df_ffff_ffe0_0001) 0 ≡ beyond
  -- 8589934590.0 and the next double, and their negatives, f 30
  pub top_30 : coordinate_of p64 floor_limit64 (double 0x41ff_ffff_ffe0_0000) 30 ≡ element 9223372034707292160
  pub top_next_30 : coordinate_of p64 floor_limit64 (double 0x41ff_ffff_ffe0_0001) 30 ≡ beyond
  pub bottom_30 : coordinate_of p64 floor_limit64 (double 0xc1ff_ffff_ffe0_0000) 30 ≡ element 9223372034707292161
  pub bottom_next_30 : coordinate_of p64 floor_limit64 (double 0xc1ff_ffff_ffe0_0001) 30 ≡ beyond
  -- the same at every f: the exponent is f less
  pub top_at : (f : ℕ) → f ≤ 30 → coordinate_of p64 floor_limit64 (double (0x43df_ffff_ffe0_0000 - f * 2 ^ 52)) f ≡ element 9223372034707292160
  pub top_next_at : (f : ℕ) → f ≤ 30 → coordinate_of p64 floor_limit64 (double (0x43df_ffff_ffe0_0001 - f * 2 ^ 52)) f ≡ beyond
  pub bottom_at : (f : ℕ) → f ≤ 30 → coordinate_of p64 floor_limit64 (double (0xc3df_ffff_ffe0_0000 - f * 2 ^ 52)) f ≡ element 9223372034707292161
  pub bottom_next_at : (f : ℕ) → f ≤ 30 → coordinate_of p64 floor_limit64 (double (0xc3df_ffff_ffe0_0001 - f * 2 ^ 52)) f ≡ beyond
  -- decode p - 1, f 2: -0.25
  pub last : decoded_of p64 size_limit64 (p64 - 1) 2 ≡ value 0xbfd0_0000_0000_0000
  -- decode (p - 1) / 2 and (p + 1) / 2, f 0: 9223372034707292160.0 and its negative
  pub middle : decoded_of p64 size_limit64 ((p64 - 1) / 2) 0 ≡ value 0x43df_ffff_ffe0_0000
  pub middle_1 : decoded_of p64 size_limit64 ((p64 + 1) / 2) 0 ≡ value 0xc3df_ffff_ffe0_0000
  -- decode 2 ^ 53 + 1 and 2 ^ 53 + 3, f 0: ties, to 9007199254740992.0 and 9007199254740996.0
  pub tie_down : decoded_of p64 size_limit64 (2 ^ 53 + 1) 0 ≡ value 0x4340_0000_0000_0000
  pub tie_up : decoded_of p64 size_limit64 (2 ^ 53 + 3) 0 ≡ value 0x4340_0000_0000_0002
  -- n 1, d 4, f 0, T 2, K 2, gradient 1 0 0 0, stream 0x03 0x00; the rows held sevens before
  pub short : encode_of Field64 (param 1 4 2 2) (one ∷ none ∷ none ∷ none ∷ []) (3 ∷ 0 ∷ []) (replicate 18 7) (replicate 2 7)
      ≡ encode_outcome accepted (1 ∷ 0 ∷ 0 ∷ 0 ∷ 1 ∷ 0 ∷ 0 ∷ 0 ∷ 0 ∷ 0 ∷ 1 ∷ 1 ∷ 0 ∷ 1 ∷ 1 ∷ 1 ∷ 0 ∷ 1 ∷ []) (1 ∷ (p64 - 1) ∷ [])
  -- the same, gradient 1 1 0 0: 10
  pub long : encode_of Field64 (param 1 4 2 2) (one ∷ one ∷ none ∷ none ∷ []) (3 ∷ 0 ∷ []) (replicate 18 7) (replicate 2 7) ≡ encode_outcome (answer 10 0) (replicate 18 7) (replicate 2 7)
  -- n 65536, d 1, T 1, K 1, f 0, gradient 4294967296.0, stream 0x01: accepted, v 4294967295, b 1048576
  pub wraps : (encode_of Field64 (param 65536 1 1 1) (large ∷ []) (1 ∷ []) (replicate 89 7) (replicate 1 7)).answer ≡ accepted
  pub wraps_v : number p64 (take 33 (drop 1 (encode_of Field64 (param 65536 1 1 1) (large ∷ []) (1 ∷ []) (replicate 89 7) (replicate 1 7)).measurement)) ≡ 4294967295
  pub wraps_b : wr_test_bound (param 65536 1 1 1) ≡ 1048576
  -- the same, stream 0x03: 11, 0
  pub far : encode_of Field64 (param 65536 1 1 1) (large ∷ []) (3 ∷ []) (replicate 89 7) (replicate 1 7) ≡ encode_outcome (answer 11 0) (replicate 89 7) (replicate 1 7)
  -- places other than 0: the second of three tests is the first out of range; the third coordinate is the first that is refused, in a gradient too long; the second element of the share is not below p
  pub later_test : encode_of Field64 (param 65536 1 3 1) (large ∷ []) (1 ∷ 3 ∷ 3 ∷ []) (replicate 133 7) (replicate 3 7) ≡ encode_outcome (answer 11 1) (replicate 133 7) (replicate 3 7)
  pub later_coordinate : encode_of Field64 (param 1 4 2 2) (one ∷ none ∷ double 0x7ff0_0000_0000_0000 ∷ one ∷ double 1 ∷ []) (3 ∷ 0 ∷ []) (replicate 18 7) (replicate 2 7) ≡ encode_outcome (answer 8 2) (replicate 18 7) (replicate 2 7)
  pub second_row : accumulate_of Field64 (param 1 2 1 1) (1 ∷ 2 ∷ []) (3 ∷ p64 ∷ []) ≡ outcome (answer 12 3) (1 ∷ 2 ∷ [])
  -- the first row of encoding with the multiplier 1 / 1: b is 2, and a test's number has 2 bits
  pub tighter : encode_of Field64 (with_alpha 1 1 (param 1 4 2 2)) (one ∷ none ∷ none ∷ none ∷ []) (3 ∷ 0 ∷ []) (replicate 12 7) (replicate 2 7)
      ≡ encode_outcome accepted (1 ∷ 0 ∷ 0 ∷ 0 ∷ 1 ∷ 0 ∷ 0 ∷ 1 ∷ 1 ∷ 0 ∷ 0 ∷ 1 ∷ []) (1 ∷ (p64 - 1) ∷ [])
  -- n 65536, gradient 4294967296.0, stream 0x03 with 65535 / 1: b is 4294967296, and the result just in range, though the squared norm has wrapped
  pub wide : (encode_of Field64 (with_alpha 65535 1 (param 65536 1 1 1)) (large ∷ []) (3 ∷ []) (replicate 101 7) (replicate 1 7)).answer ≡ accepted
  -- a denominator of 0, and rows of other lengths: 19 before 7
  pub no_multiplier : encode_of Field64 (with_alpha 87 0 (param 1 4 2 2)) (one ∷ none ∷ none ∷ none ∷ []) (3 ∷ []) (replicate 5 7) (replicate 2 7) ≡ encode_outcome (answer 19 0) (replicate 5 7) (replicate 2 7)
  -- the gradient 3 2, with v 13, and six tests: 2, 5, -2, -1, 1 and 0; the second and the third miss. Of at least two the first two in range have success bit 1: the fourth, and not the fifth and sixth
  pub missed : encode_of Field64 (narrow Enough 6 2) (three ∷ two ∷ []) (13 ∷ 15 ∷ 1 ∷ 12 ∷ 3 ∷ 5 ∷ []) (replicate 30 7) (replicate 6 7)
      ≡ encode_outcome accepted (3 ∷ 2 ∷ 1 ∷ 0 ∷ 1 ∷ 1 ∷ 0 ∷ 1 ∷ 1 ∷ 0 ∷ 0 ∷ 0 ∷ 1 ∷ 1 ∷ 1 ∷ 0 ∷ 0 ∷ 0 ∷ 0 ∷ 0 ∷ 0 ∷ 0 ∷ 0 ∷ 1 ∷ 0 ∷ 1 ∷ 0 ∷ 1 ∷ 0 ∷ 0 ∷ []) (2 ∷ 5 ∷ (p64 - 2) ∷ (p64 - 1) ∷ 1 ∷ 0 ∷ [])
  -- the same, every one in range: 11, 1
  pub missed_every : encode_of Field64 (narrow Every 6 2) (three ∷ two ∷ []) (13 ∷ 15 ∷ 1 ∷ 12 ∷ 3 ∷ 5 ∷ []) (replicate 30 7) (replicate 6 7) ≡ encode_outcome (answer 11 1) (replicate 30 7) (replicate 6 7)
  -- four are in range: K 4 is enough, K 5 and K 6 are refused by 20, 4
  pub just_enough : (encode_of Field64 (narrow Enough 6 4) (three ∷ two ∷ []) (13 ∷ 15 ∷ 1 ∷ 12 ∷ 3 ∷ 5 ∷ []) (replicate 30 7) (replicate 6 7)).answer ≡ accepted
  pub too_few : encode_of Field64 (narrow Enough 6 5) (three ∷ two ∷ []) (13 ∷ 15 ∷ 1 ∷ 12 ∷ 3 ∷ 5 ∷ []) (replicate 30 7) (replicate 6 7) ≡ encode_outcome (answer 20 4) (replicate 30 7) (replicate 6 7)
  pub all_asked : encode_of Field64 (narrow Enough 6 6) (three ∷ two ∷ []) (13 ∷ 15 ∷ 1 ∷ 12 ∷ 3 ∷ 5 ∷ []) (replicate 30 7) (replicate 6 7) ≡ encode_outcome (answer 20 4) (replicate 30 7) (replicate 6 7)
  -- K = T, both in range: 2 and 1, the same by either rule
  pub all_in_range : encode_of Field64 (narrow Enough 2 2) (three ∷ two ∷ []) (13 ∷ 3 ∷ []) (replicate 18 7) (replicate 2 7) ≡ encode_outcome accepted (3 ∷ 2 ∷ 1 ∷ 0 ∷ 1 ∷ 1 ∷ 0 ∷ 1 ∷ 1 ∷ 0 ∷ 0 ∷ 0 ∷ 1 ∷ 1 ∷ 1 ∷ 0 ∷ 1 ∷ 1 ∷ []) (2 ∷ 1 ∷ [])
  pub all_in_range_every : encode_of Field64 (narrow Every 2 2) (three ∷ two ∷ []) (13 ∷ 3 ∷ []) (replicate 18 7) (replicate 2 7) ≡ encode_of Field64 (narrow Enough 2 2) (three ∷ two ∷ []) (13 ∷ 3 ∷ []) (replicate 18 7) (replicate 2 7)
  -- K = 0, and neither is in range: 5 and -5
  pub none_in_range : encode_of Field64 (narrow Enough 2 0) (three ∷ two ∷ []) (15 ∷ 0 ∷ []) (replicate 18 7) (replicate 2 7) ≡ encode_outcome accepted (3 ∷ 2 ∷ 1 ∷ 0 ∷ 1 ∷ 1 ∷ 0 ∷ 1 ∷ 1 ∷ 0 ∷ 0 ∷ 0 ∷ 0 ∷ 0 ∷ 0 ∷ 0 ∷ 0 ∷ 0 ∷ []) (5 ∷ (p64 - 5) ∷ [])
  pub none_in_range_every : encode_of Field64 (narrow Every 2 0) (three ∷ two ∷ []) (15 ∷ 0 ∷ []) (replicate 18 7) (replicate 2 7) ≡ encode_outcome (answer 11 0) (replicate 18 7) (replicate 2 7)
  -- K = 1, neither in range: 20, 0; the gradient 4 1, with v 17 and the same tests, is refused by 10 first
  pub none_found : encode_of Field64 (narrow Enough 2 1) (three ∷ two ∷ []) (15 ∷ 0 ∷ []) (replicate 18 7) (replicate 2 7) ≡ encode_outcome (answer 20 0) (replicate 18 7) (replicate 2 7)
  pub long_first : encode_of Field64 (narrow Enough 2 1) (four ∷ one ∷ []) (15 ∷ 0 ∷ []) (replicate 18 7) (replicate 2 7) ≡ encode_outcome (answer 10 0) (replicate 18 7) (replicate 2 7)
  -- with the switch on: 4294967296.0 at n 65536, whose squared norm wraps, is 21; and two squares of 1 at n 1, one of them of the floor -1, are 21 before 10
  pub true_wraps : encode_of Field64 (switched_on (param 65536 1 1 1)) (large ∷ []) (1 ∷ []) (replicate 89 7) (replicate 1 7) ≡ encode_outcome (answer 21 0) (replicate 89 7) (replicate 1 7)
  pub true_long : encode_of Field64 (switched_on (param 1 4 2 2)) (one ∷ double 0xbfd0_0000_0000_0000 ∷ none ∷ none ∷ []) (3 ∷ 0 ∷ []) (replicate 18 7) (replicate 2 7) ≡ encode_outcome (answer 21 0) (replicate 18 7) (replicate 2 7)
  -- the first row of encoding, whose norm is within its bound, is the same with it on
  pub true_short : encode_of Field64 (switched_on (param 1 4 2 2)) (one ∷ none ∷ none ∷ none ∷ []) (3 ∷ 0 ∷ []) (replicate 18 7) (replicate 2 7) ≡ encode_of Field64 (param 1 4 2 2) (one ∷ none ∷ none ∷ none ∷ []) (3 ∷ 0 ∷ []) (replicate 18 7) (replicate 2 7)
