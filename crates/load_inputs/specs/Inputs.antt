-- The inputs of a load and the rules on them (docs/PINE.md, "A load"). Assumes nothing.
use Rattle.std.specs.Prelude.{ℕ, not, cond, List, [], ◌∷◌, get_or, eqb}
use Rattle.rules.specs.declared.Answer.{Answer}
use Rattle.rules.specs.Rules.{refuse, in_order}
use Rattle.pine.specs.declared.PineParam.{PineParam}
use Rattle.pine.specs.declared.WrTestRule.TheVariants.{Every, Enough}
use Rattle.pine.specs.Param.{Field64, param_rules_up_to}

-- the inputs by the numbers of the lines, of which the seed is the first
abbrev pub param_of : List ℕ → PineParam
param_of ns = record {
  norm_bound = get_or ns 1 0;
  dimension = get_or ns 2 0;
  frac_bits = get_or ns 3 0;
  chunk_len = get_or ns 4 0;
  chunk_len_sq_norm_equal = get_or ns 5 0;
  num_wr_tests = get_or ns 6 0;
  num_wr_successes = get_or ns 7 0;
  alpha_numerator = get_or ns 8 0;
  alpha_denominator = get_or ns 9 0;
  wr_test_rule = cond (eqb (get_or ns 10 0) 0) Every Enough;
  true_sq_norm = not (eqb (get_or ns 11 0) 0);
}

-- 1 to 6 and 19, for a dimension up to 1024 and up to 16 tests; then 22
abbrev pub early_rules : (seed : ℕ) → PineParam → List Answer
early_rules seed i = in_order (param_rules_up_to Field64 1024 16 i) ∷ refuse (eqb seed 0) 22 0 ∷ []
