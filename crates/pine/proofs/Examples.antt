-- Worked examples of the multiplier: the bound of the tests and what follows from it, rule 19 and its place among the others, and the standard setting. Assumes nothing.
use mathlib.Core.Bool.{false}
use mathlib.Core.Path.{◌≡◌, refl}
use Prim.Native.Nat.{ℕ, ◌^◌}
use Rattle.rules.specs.Rules.{answer, accepted}
use Rattle.pine.specs.declared.PineParam.{PineParam}
use Rattle.pine.specs.declared.WrTestRule.TheVariants.{Every}
use Rattle.pine.specs.Param.{Field64, param_rules, param_answer, standard, with_alpha}
use Rattle.pine.specs.Record.{halvings, digits, sq_norm_bound_of, sq_norm_bits_of, wr_test_bound, wr_test_exponent_of, wr_test_bits_of, bit_checked_len_of, encoded_input_len_of, input_len_of}

-- d 4, f 0, c = e = 1, K 2
abbrev inputs : (n T num den : ℕ) → PineParam
inputs n T num den = with_alpha num den (standard n 4 0 1 1 T 2)

record Bounds : Type 0 where
  -- ceil (1 / 65535) + 1 = 2, the least that there is
  least : wr_test_bound (inputs 1 2 1 65535) ≡ 2
  -- 65535 · 3037000499 + 1 is above 2 ^ 47, the greatest that there is
  greatest : wr_test_bound (inputs 3037000499 2 65535 1) ≡ 2 ^ 48
  -- 20 / 3 is rounded up to 7, and 7 + 1 is 8; 22 / 3 is rounded up to 8, and 8 + 1 is above 8
  remainder : wr_test_bound (inputs 10 2 2 3) ≡ 8
  remainder_1 : wr_test_bound (inputs 11 2 2 3) ≡ 16
  -- 12 / 3 + 1 = 5
  whole : wr_test_bound (inputs 6 2 2 3) ≡ 8
  -- 3 · 4096 / 2 + 1, where 2 · 4096 / 3 would give 4096
  fraction : wr_test_bound (inputs 4096 2 3 2) ≡ 8192
  -- the product is a power of two, and one less than one
  power : wr_test_bound (inputs 1024 2 8 1) ≡ 16384
  power_less_1 : wr_test_bound (inputs 8191 2 1 1) ≡ 8192
  -- the original's own: 8.7 · 15427325 = 2 ^ 27 - 1 / 2
  original : wr_test_bound (inputs 15427325 2 87 10) ≡ 2 ^ 28

bounds : Bounds
unfolding wr_test_bound digits halvings
bounds = record { least = refl; greatest = refl; remainder = refl; remainder_1 = refl; whole = refl; fraction = refl; power = refl; power_less_1 = refl; original = refl }

-- of n 11 and 2 / 3: q 7, b 16; and of the greatest
record Lengths : Type 0 where
  exponent : wr_test_exponent_of (inputs 11 2 2 3) ≡ 4
  bits : wr_test_bits_of (inputs 11 2 2 3) ≡ 5
  checked : bit_checked_len_of (inputs 11 2 2 3) ≡ 26
  encoded : encoded_input_len_of (inputs 11 2 2 3) ≡ 30
  full : input_len_of (inputs 11 2 2 3) ≡ 32
  greatest_exponent : wr_test_exponent_of (inputs 3037000499 2 65535 1) ≡ 48
  greatest_bits : wr_test_bits_of (inputs 3037000499 2 65535 1) ≡ 49
  greatest_full : input_len_of (inputs 3037000499 2 65535 1) ≡ 232

lengths : Lengths
unfolding input_len_of encoded_input_len_of bit_checked_len_of wr_test_bits_of wr_test_bound wr_test_exponent_of sq_norm_bits_of sq_norm_bound_of digits halvings
lengths = record { exponent = refl; bits = refl; checked = refl; encoded = refl; full = refl; greatest_exponent = refl; greatest_bits = refl; greatest_full = refl }

record Rule19 : Type 0 where
  no_numerator : param_answer Field64 (inputs 1 2 0 10) ≡ answer 19 0
  no_denominator : param_answer Field64 (inputs 1 2 87 0) ≡ answer 19 0
  neither : param_answer Field64 (inputs 1 2 0 0) ≡ answer 19 0
  -- after 6, and after those before it
  no_tests : param_answer Field64 (inputs 1 257 0 0) ≡ answer 6 0
  no_norm : param_answer Field64 (inputs 0 257 0 0) ≡ answer 2 0
  -- 16 bits
  largest : param_answer Field64 (inputs 1 2 65535 65535) ≡ accepted
  numerator_17 : param_answer Field64 (inputs 1 2 65536 1) ≡ answer 19 0
  denominator_17 : param_answer Field64 (inputs 1 2 1 65536) ≡ answer 19 0
  one : param_answer Field64 (inputs 1 2 1 1) ≡ accepted

rule_19 : Rule19
unfolding param_answer param_rules
rule_19 = record { no_numerator = refl; no_denominator = refl; neither = refl; no_tests = refl; no_norm = refl; largest = refl; numerator_17 = refl; denominator_17 = refl; one = refl }

-- a contract has `standard` on both sides, where nothing holds it to its sense
in_order_lem : standard 1 2 3 4 5 6 7
    ≡ record {
      norm_bound = 1;
      dimension = 2;
      frac_bits = 3;
      chunk_len = 4;
      chunk_len_sq_norm_equal = 5;
      num_wr_tests = 6;
      num_wr_successes = 7;
      alpha_numerator = 87;
      alpha_denominator = 10;
      wr_test_rule = Every;
      true_sq_norm = false;
    }
in_order_lem = refl
