-- The inputs as C has them, and what they stand for: the rule of the tests and the switch are one byte each, 0 for the first rule or off, any other for the second or on. Assumes nothing.
use Rattle.std.specs.Prelude.{ℕ, Bool, true, false, cond, eqb}
use Rattle.pine.specs.declared.PineParam.{PineParam}
use Rattle.pine.specs.declared.WrTestRule.{WrTestRule}
use Rattle.pine.specs.declared.WrTestRule.TheVariants.{Every, Enough}
use Rattle.c_inputs.specs.declared.Inputs.{Inputs}

abbrev pub rule_of : (byte : ℕ) → WrTestRule
rule_of byte = cond (eqb byte 0) Every Enough

abbrev pub switch_of : (byte : ℕ) → Bool
switch_of byte = cond (eqb byte 0) false true

abbrev pub param_of : Inputs → PineParam
param_of i = record {
  norm_bound = i.norm_bound;
  dimension = i.dimension;
  frac_bits = i.frac_bits;
  chunk_len = i.chunk_len;
  chunk_len_sq_norm_equal = i.chunk_len_sq_norm_equal;
  num_wr_tests = i.num_wr_tests;
  num_wr_successes = i.num_wr_successes;
  alpha_numerator = i.alpha_numerator;
  alpha_denominator = i.alpha_denominator;
  wr_test_rule = rule_of i.wr_test_rule;
  true_sq_norm = switch_of i.true_sq_norm;
}
