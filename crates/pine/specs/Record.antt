-- What is derived from the inputs (docs/PINE.md, "The record"). Assumes nothing.
use Rattle.std.specs.Prelude.{ℕ, zero, suc, ◌+◌, ◌-◌, ◌*◌, ◌/◌, ◌^◌, ◌≤◌, cond, ◌≡◌, eqb}
use Rattle.rules.specs.declared.Answer.{Answer}
use Rattle.rules.specs.Rules.{accepted, out_of}
use Rattle.doubles.specs.Doubles.{power, plus_zero}
use Rattle.pine.specs.declared.PineParam.{PineParam}
use Rattle.pine.specs.declared.record.Pine.{Pine}
use Rattle.pine.specs.declared.record.Lengths.{Lengths}
use Rattle.pine.specs.declared.Derived.{Derived}
use Rattle.pine.specs.Param.{Field, param_answer}

-- ---- numbers

-- ceil (a / c), for c above 0
abbrev pub ceil_div : (a c : ℕ) → ℕ
ceil_div a c = (a + (c - 1)) / c

-- how often n is halved until it is 0, at most k times
unfoldable pub halvings : (k n : ℕ) → ℕ
halvings zero n = 0
halvings (suc k) zero = 0
halvings (suc k) (suc n) = suc (halvings k (suc n / 2))

-- the number of binary digits of n, none for 0
unfoldable pub digits : ℕ → ℕ
digits n = halvings n n

-- the smallest power of two not below n + 1
abbrev pub power_above : ℕ → ℕ
power_above n = 2 ^ digits n

-- the smallest power of two not below ceil (num · n / den) + 1
abbrev pub test_bound_of : (num den n : ℕ) → ℕ
test_bound_of num den n = power_above (ceil_div (num * n) den)

-- its exponent
abbrev pub test_exponent_of : (num den n : ℕ) → ℕ
test_exponent_of num den n = digits (ceil_div (num * n) den)

-- the stream's bytes for one test of d coordinates, two bits each, and for T tests
abbrev pub bytes_per_test : (d : ℕ) → ℕ
bytes_per_test d = ceil_div d 4

abbrev pub stream_len_of : (T d : ℕ) → ℕ
stream_len_of T d = T * bytes_per_test d

-- ---- the record

module _ (i : PineParam) where
  -- B, the squared bound
  unfoldable pub sq_norm_bound_of : ℕ
  sq_norm_bound_of = i.norm_bound * i.norm_bound

  -- q
  unfoldable pub sq_norm_bits_of : ℕ
  sq_norm_bits_of = digits sq_norm_bound_of

  -- b
  unfoldable pub wr_test_bound : ℕ
  wr_test_bound = test_bound_of i.alpha_numerator i.alpha_denominator i.norm_bound

  -- b's power of two, which the record holds in its place
  unfoldable pub wr_test_exponent_of : ℕ
  wr_test_exponent_of = test_exponent_of i.alpha_numerator i.alpha_denominator i.norm_bound

  -- w
  unfoldable pub wr_test_bits_of : ℕ
  wr_test_bits_of = digits (2 * wr_test_bound - 1)

  -- L: v and u of q bits each; for each test w bits and a success bit
  unfoldable pub bit_checked_len_of : ℕ
  bit_checked_len_of = 2 * sq_norm_bits_of + (1 + wr_test_bits_of) * i.num_wr_tests

  -- of a measurement
  unfoldable pub encoded_input_len_of : ℕ
  encoded_input_len_of = i.dimension + bit_checked_len_of

  -- of a full vector
  unfoldable pub input_len_of : ℕ
  input_len_of = encoded_input_len_of + i.num_wr_tests

  -- of the main circuit: a call for each chunk of the checked elements, and for each chunk of the tests
  unfoldable pub gadget_calls_of : ℕ
  gadget_calls_of = ceil_div bit_checked_len_of i.chunk_len + ceil_div i.num_wr_tests i.chunk_len

  -- of the norm circuit: a call for each chunk of the gradient
  unfoldable pub gadget_calls_norm : ℕ
  gadget_calls_norm = ceil_div i.dimension i.chunk_len_sq_norm_equal

  unfoldable pub pine_of : Pine
  pine_of = record {
    dimension = i.dimension;
    frac_bits = i.frac_bits;
    scale = power i.frac_bits;
    chunk_len = i.chunk_len;
    chunk_len_sq_norm_equal = i.chunk_len_sq_norm_equal;
    num_wr_tests = i.num_wr_tests;
    num_wr_successes = i.num_wr_successes;
    sq_norm_bound = sq_norm_bound_of;
    sq_norm_bits = sq_norm_bits_of;
    wr_test_exponent = wr_test_exponent_of;
    wr_test_bits = wr_test_bits_of;
    bit_checked_len = bit_checked_len_of;
    encoded_input_len = encoded_input_len_of;
    input_len = input_len_of;
    gadget_calls = gadget_calls_of;
    gadget_calls_sq_norm_equal = gadget_calls_norm;
  }

-- b, as a record answers for it: 0 where it holds none, as beside a refusal, or one of more than 64 bits
unfoldable pub bound_in : Pine → ℕ
bound_in r = cond (out_of r.wr_test_exponent 63) 0 (2 ^ r.wr_test_exponent)

-- a record that was derived from accepted inputs
pub record FromAccepted (F : Field) (r : Pine) : Type 0 where
  pub param : PineParam
  pub accepts : param_answer F param ≡ accepted
  pub is : r ≡ pine_of param

-- inputs from which a record can be derived, whatever the field: accepted over one whose norm bounds have 32 bits, so that a squared one has 64
pub record Derivable (i : PineParam) : Type 0 where
  pub F : Field
  pub narrow : F.norm_limit ≤ 4294967295
  pub accepts : param_answer F i ≡ accepted

-- the answer a on the inputs, over such a field
pub record Answered (i : PineParam) (a : Answer) : Type 0 where
  pub F : Field
  pub narrow : F.norm_limit ≤ 4294967295
  pub is : a ≡ param_answer F i

-- a record that was derived from inputs from which it can be
pub record FromDerivable (r : Pine) : Type 0 where
  pub param : PineParam
  pub derivable : Derivable param
  pub is : r ≡ pine_of param

-- ---- lengths of a circuit whose one gadget, of degree 2, has `arity` inputs and is called `calls` times (as in each `Type` of the Rust)

abbrev pub proof_len_of : (arity calls : ℕ) → ℕ
proof_len_of arity calls = arity + 2 * (power_above calls - 1) + 1

abbrev pub verifier_len_of : (arity : ℕ) → ℕ
verifier_len_of arity = arity + 2

abbrev pub prove_rand_len_of : (arity : ℕ) → ℕ
prove_rand_len_of arity = arity

-- of `PineType`: chunks of products, each of two factors; three elements of joint randomness
unfoldable pub lengths_main : Pine → Lengths
lengths_main r = record {
  input_len = r.input_len;
  proof_len = proof_len_of (2 * r.chunk_len) r.gadget_calls;
  verifier_len = verifier_len_of (2 * r.chunk_len);
  joint_rand_len = 3;
  prove_rand_len = prove_rand_len_of (2 * r.chunk_len);
  query_rand_len = 1;
}

-- of `PineTypeSquaredNormEqual`: chunks of squares; no joint randomness
unfoldable pub lengths_norm : Pine → Lengths
lengths_norm r = record {
  input_len = r.input_len;
  proof_len = proof_len_of r.chunk_len_sq_norm_equal r.gadget_calls_sq_norm_equal;
  verifier_len = verifier_len_of r.chunk_len_sq_norm_equal;
  joint_rand_len = 0;
  prove_rand_len = prove_rand_len_of r.chunk_len_sq_norm_equal;
  query_rand_len = 1;
}

-- ---- the public call

-- beside a refusal every number is 0
abbrev pub no_pine : Pine
no_pine = record {
  dimension = 0;
  frac_bits = 0;
  scale = plus_zero;
  chunk_len = 0;
  chunk_len_sq_norm_equal = 0;
  num_wr_tests = 0;
  num_wr_successes = 0;
  sq_norm_bound = 0;
  sq_norm_bits = 0;
  wr_test_exponent = 0;
  wr_test_bits = 0;
  bit_checked_len = 0;
  encoded_input_len = 0;
  input_len = 0;
  gadget_calls = 0;
  gadget_calls_sq_norm_equal = 0;
}

abbrev pub no_lengths : Lengths
no_lengths = record { input_len = 0; proof_len = 0; verifier_len = 0; joint_rand_len = 0; prove_rand_len = 0; query_rand_len = 0 }

-- what is derived from the inputs, beside the answer a on them
abbrev pub derived_beside : Answer → PineParam → Derived
derived_beside a i =
    cond (eqb a.number 0)
    (record { answer = accepted; pine = pine_of i; stream_len = stream_len_of i.num_wr_tests i.dimension; flp = lengths_main (pine_of i); flp_sq_norm_equal = lengths_norm (pine_of i) })
    (record { answer = a; pine = no_pine; stream_len = 0; flp = no_lengths; flp_sq_norm_equal = no_lengths })

-- what `derive` answers
unfoldable pub derive_of : Field → PineParam → Derived
derive_of F i = derived_beside (param_answer F i) i
