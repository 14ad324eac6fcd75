-- The inputs and the rules on them: 1 to 6, then 19 (docs/PINE.md, "The inputs", "The rules"). Assumes nothing.
use Rattle.std.specs.Prelude.{ℕ, List, [], ◌∷◌, Bool, false, ltb}
use Rattle.rules.specs.declared.Answer.{Answer}
use Rattle.rules.specs.Rules.{refuse, in_order, out_of}
use Rattle.field64.specs.Field.{p64}
use Rattle.doubles.specs.Doubles.{frac_bits_rule, floor_limit64, size_limit64}
use Rattle.pine.specs.declared.PineParam.{PineParam}
use Rattle.pine.specs.declared.WrTestRule.{WrTestRule}
use Rattle.pine.specs.declared.WrTestRule.TheVariants.{Every}

-- what the calls need to know of a field: its modulus; how far from 0 the floor of a coordinate may lie, and a centred number that is decoded; the largest norm bound
-- that is allowed over it; and its rows. A caller's row of elements is a row of words: how many words n elements have, the elements of a row of words, and the words of elements
pub record Field : Type 0 where
  pub p : ℕ
  pub floor_limit : ℕ
  pub size_limit : ℕ
  pub norm_limit : ℕ
  pub words_in : ℕ → ℕ
  pub elements : List ℕ → List ℕ
  pub words : List ℕ → List ℕ

-- an element is one word
abbrev pub Field64 : Field
Field64 = record {
  p = p64;
  floor_limit = floor_limit64;
  size_limit = size_limit64;
  norm_limit = 3037000499;
  words_in = λ n. n;
  elements = λ row. row;
  words = λ xs. xs;
}

-- the inputs with which all is as in the original: the multiplier 87 / 10, which its ALPHA is; every test in range; no bound of the true squared norm
abbrev pub standard : (n d f c e T K : ℕ) → PineParam
standard n d f c e T K = record {
  norm_bound = n;
  dimension = d;
  frac_bits = f;
  chunk_len = c;
  chunk_len_sq_norm_equal = e;
  num_wr_tests = T;
  num_wr_successes = K;
  alpha_numerator = 87;
  alpha_denominator = 10;
  wr_test_rule = Every;
  true_sq_norm = false;
}

-- the same inputs with these later ones: the multiplier num / den, the rule of the tests, the switch
abbrev pub with_later : (num den : ℕ) (rule : WrTestRule) (on : Bool) → PineParam → PineParam
with_later num den rule on i = record {
  norm_bound = i.norm_bound;
  dimension = i.dimension;
  frac_bits = i.frac_bits;
  chunk_len = i.chunk_len;
  chunk_len_sq_norm_equal = i.chunk_len_sq_norm_equal;
  num_wr_tests = i.num_wr_tests;
  num_wr_successes = i.num_wr_successes;
  alpha_numerator = num;
  alpha_denominator = den;
  wr_test_rule = rule;
  true_sq_norm = on;
}

-- the same with the multiplier alone
abbrev pub with_alpha : (num den : ℕ) → PineParam → PineParam
with_alpha num den i = with_later num den i.wr_test_rule i.true_sq_norm i

-- one chunk length
abbrev pub chunk_rule : ℕ → Answer
chunk_rule c = refuse (out_of c 65536) 5 0

-- one number of the multiplier. It has 16 bits, so that it is refused where it is 0
abbrev pub alpha_rule : ℕ → Answer
alpha_rule a = refuse (out_of a 65535) 19 0

-- the rules on the inputs, in their order, for a norm bound up to N, a dimension up to D and up to M tests
abbrev pub param_rules_within : (N D M : ℕ) → PineParam → List Answer
param_rules_within N D M i =
    refuse (ltb i.num_wr_tests i.num_wr_successes) 1 0
    ∷ refuse (out_of i.norm_bound N) 2 0
    ∷ refuse (out_of i.dimension D) 3 0
    ∷ frac_bits_rule i.frac_bits
    ∷ chunk_rule i.chunk_len
    ∷ chunk_rule i.chunk_len_sq_norm_equal
    ∷ refuse (out_of i.num_wr_tests M) 6 0
    ∷ alpha_rule i.alpha_numerator
    ∷ alpha_rule i.alpha_denominator
    ∷ []

-- the same over a field
abbrev pub param_rules_up_to : Field → (D M : ℕ) → PineParam → List Answer
param_rules_up_to F D M i = param_rules_within F.norm_limit D M i

-- the same for as many as every call takes
unfoldable pub param_rules : Field → PineParam → List Answer
param_rules F i = param_rules_up_to F 65536 256 i

unfoldable pub param_answer : Field → PineParam → Answer
param_answer F i = in_order (param_rules F i)
