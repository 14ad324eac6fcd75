-- Worked rows of Field128: its limits, rule 2 beside Field64's, the record and the lengths of the greatest norm bound, and rows of words. Assumes nothing.
use mathlib.Core.Path.{◌≡◌, refl}
use mathlib.Core.List.{[], ◌∷◌}
use Prim.Native.Nat.{ℕ, ◌-◌, ◌*◌, ◌^◌}
use Rattle.rules.specs.Rules.{answer, accepted}
use Rattle.field128.specs.Field128.{p128}
use Rattle.pine.specs.declared.PineParam.{PineParam}
use Rattle.pine.specs.Param.{Field64, param_rules, param_answer, standard, with_alpha}
use Rattle.pine.specs.Record.{halvings, digits, sq_norm_bound_of, sq_norm_bits_of, wr_test_bound, wr_test_exponent_of, wr_test_bits_of, bit_checked_len_of, encoded_input_len_of, input_len_of, pine_of, lengths_main, derive_of}
use Rattle.params128.specs.Field128.{Field128}

-- d 4, f 0, c = e = 1, T = K = 2
abbrev inputs : (n num den : ℕ) → PineParam
inputs n num den = with_alpha num den (standard n 4 0 1 1 2 2)

record Rule2 : Type 0 where
  greatest : param_answer Field128 (inputs 4294967295 87 10) ≡ accepted
  one_more : param_answer Field128 (inputs 4294967296 87 10) ≡ answer 2 0
  none : param_answer Field128 (inputs 0 87 10) ≡ answer 2 0
  -- Field64's greatest is 3037000499
  wide : param_answer Field128 (inputs 3037000500 87 10) ≡ accepted
  narrow : param_answer Field64 (inputs 3037000500 87 10) ≡ answer 2 0

rule_2 : Rule2
unfolding param_answer param_rules
rule_2 = record { greatest = refl; one_more = refl; none = refl; wide = refl; narrow = refl }

-- of n 4294967295, whose square is 2 ^ 64 - 2 ^ 33 + 1
record Greatest : Type 0 where
  square : sq_norm_bound_of (inputs 4294967295 87 10) ≡ 18446744065119617025
  square_bits : sq_norm_bits_of (inputs 4294967295 87 10) ≡ 64
  -- 8.7 · 4294967295 is between 2 ^ 35 and 2 ^ 36
  bound : wr_test_bound (inputs 4294967295 87 10) ≡ 2 ^ 36
  bits : wr_test_bits_of (inputs 4294967295 87 10) ≡ 37
  -- the greatest multiplier
  most : wr_test_bound (inputs 4294967295 65535 1) ≡ 2 ^ 48
  most_bits : wr_test_bits_of (inputs 4294967295 65535 1) ≡ 49

greatest : Greatest
unfolding wr_test_bits_of wr_test_bound sq_norm_bits_of sq_norm_bound_of digits halvings
greatest = record { square = refl; square_bits = refl; bound = refl; bits = refl; most = refl; most_bits = refl }

-- lengths are in elements: 128 + 38 · 2 checked, 4 of the gradient, 2 results
record Lengths : Type 0 where
  bound : (derive_of Field128 (inputs 4294967295 87 10)).pine.sq_norm_bound ≡ 18446744065119617025
  exponent : (derive_of Field128 (inputs 4294967295 87 10)).pine.wr_test_exponent ≡ 36
  encoded : (derive_of Field128 (inputs 4294967295 87 10)).pine.encoded_input_len ≡ 208
  full : (derive_of Field128 (inputs 4294967295 87 10)).flp.input_len ≡ 210
  joint : (derive_of Field128 (inputs 4294967295 87 10)).flp.joint_rand_len ≡ 3
  stream : (derive_of Field128 (inputs 4294967295 87 10)).stream_len ≡ 2
  most : (derive_of Field128 (inputs 4294967295 65535 1)).flp.input_len ≡ 234

lengths : Lengths
unfolding derive_of param_answer param_rules pine_of lengths_main input_len_of encoded_input_len_of bit_checked_len_of wr_test_bits_of wr_test_bound wr_test_exponent_of sq_norm_bits_of sq_norm_bound_of digits halvings
lengths = record { bound = refl; exponent = refl; encoded = refl; full = refl; joint = refl; stream = refl; most = refl }

-- an element is its low word and its high one; the high word of p - 1 is 2 ^ 64 - 28
record Rows : Type 0 where
  long : Field128.words_in 3 ≡ 6
  words : Field128.words (1 ∷ (2 ^ 64) ∷ (p128 - 1) ∷ []) ≡ (1 ∷ 0 ∷ 0 ∷ 1 ∷ 0 ∷ 18446744073709551588 ∷ [])
  elements : Field128.elements (5 ∷ 0 ∷ 0 ∷ 7 ∷ []) ≡ (5 ∷ (7 * 2 ^ 64) ∷ [])

rows : Rows
rows = record { long = refl; words = refl; elements = refl }
