-- The inputs as C has them, by fields: `param_of` stands on both sides of a contract, where nothing holds it to its sense. Assumes nothing.
use Prim.Native.Nat.{ℕ}
use mathlib.Core.Path.{◌≡◌, refl}
use mathlib.Core.Bool.{Bool, true, false}
use Rattle.pine.specs.declared.PineParam.{PineParam}
use Rattle.pine.specs.declared.WrTestRule.{WrTestRule}
use Rattle.pine.specs.declared.WrTestRule.TheVariants.{Every, Enough}
use Rattle.c_inputs.specs.declared.Inputs.{Inputs}
use Rattle.c_inputs.specs.Bytes.{param_of}

-- with these two bytes
abbrev inputs : (rule switch : ℕ) → Inputs
inputs rule switch = record {
  norm_bound = 1;
  dimension = 2;
  frac_bits = 3;
  chunk_len = 4;
  chunk_len_sq_norm_equal = 5;
  num_wr_tests = 6;
  num_wr_successes = 7;
  alpha_numerator = 8;
  alpha_denominator = 9;
  wr_test_rule = rule;
  true_sq_norm = switch;
}

abbrev param : WrTestRule → Bool → PineParam
param rule on = record {
  norm_bound = 1;
  dimension = 2;
  frac_bits = 3;
  chunk_len = 4;
  chunk_len_sq_norm_equal = 5;
  num_wr_tests = 6;
  num_wr_successes = 7;
  alpha_numerator = 8;
  alpha_denominator = 9;
  wr_test_rule = rule;
  true_sq_norm = on;
}

record Bytes : Type 0 where
  neither : param_of (inputs 0 0) ≡ param Every false
  rule : param_of (inputs 1 0) ≡ param Enough false
  switch : param_of (inputs 0 1) ≡ param Every true
  -- any byte but 0
  others : param_of (inputs 2 255) ≡ param Enough true

bytes : Bytes
bytes = record { neither = refl; rule = refl; switch = refl; others = refl }
