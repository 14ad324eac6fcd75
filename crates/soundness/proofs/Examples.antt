-- What `Soundness` speaks of is there: numbers and triples counted, a well-formed vector and a false one, false ones with their triples counted over 5 numbers. The bound in numbers; Field128's modulus is prime by the same test. Assumes nothing.
use mathlib.Core.Path.{◌≡◌, refl}
use mathlib.Core.List.{List, [], ◌∷◌}
use mathlib.Core.Logic.{⊎_elim}
use Prim.Native.Nat.{ℕ, ◌+◌, ◌*◌, ◌%◌, ◌^◌, ◌≤◌, ◌<◌}
use native.Mathlib.Nat.{dvd-mul_right, le_trans, mul-le-mul_left, mul-le-mul_right}
use native.Mathlib.Omega.{arith}
use lib.Dec.{eqb, lit<}
use Rattle.field64.specs.Field.{p64, inverse_from}
use Rattle.field64.specs.Prime.{Prime}
use Rattle.field64.specs.Sums.{evaluate}
use Rattle.field64.proofs.Powers.{squared}
use Rattle.field64.proofs.Primes.{prime_by}
use Rattle.pine.specs.declared.PineParam.{PineParam}
use Rattle.pine.specs.Param.{Field, Field64, param_rules, param_answer, standard}
use Rattle.pine.specs.Record.{halvings, digits, sq_norm_bound_of, sq_norm_bits_of, wr_test_bound, wr_test_bits_of, bit_checked_len_of, encoded_input_len_of, input_len_of}
use Rattle.pine.proofs.Sizes.{sizes_64, limits_64}
use Rattle.flp.specs.Bits.{groups}
use Rattle.flp.specs.Circuits.{checked_part, results_part, test_parts, test_number, success_bit, norm_v, norm_u, term_a, term_n, test_terms, term_w, term_g, valid_value, valid_rules, valid_of, chunks_taken, valid_calls, FullVector, WellFormed}
use Rattle.soundness.specs.Soundness.{sum_below, count, triples, looks_true, worst, Soundness}
use Rattle.soundness.proofs.Soundness.{soundness, soundness_64}

-- ---- primes

prime_5 : Prime 5
unfolding squared
prime_5 = prime_by 5 2 1 (lit< tt) refl (lit< tt) refl

-- no product of two numbers above 1 is prime
product : (a b : ℕ) → 1 < a → 1 < b → Prime (a * b) → ⊥
product a b h k prime =
    let l : a * 2 ≤ a * b = mul-le-mul_left a k in
    ⊎_elim (λ e. omega arith) (λ e. omega arith) (prime.divisors a (dvd-mul_right a b))

-- ---- counting

-- 0 + 1 + 4 + 9
squares : sum_below 4 (λ x. x * x) ≡ 14
unfolding sum_below
squares = refl

-- 0, 3, 6 and 9
threes : count 10 (λ x. eqb (x % 3) 0) ≡ 4
unfolding count sum_below
threes = refl

-- r1 + 2 · r2 + 4 · r3 is 3: 3, 0, 0 and 1, 1, 0
threes_in_bits : triples 4 (λ r1 r2 r3. eqb (r1 + 2 * r2 + 4 * r3) 3) ≡ 2
unfolding triples count sum_below
threes_in_bits = refl

-- ---- vectors

-- n = 1, so B = 1 of one bit and b = 16; d = 1; tests of 5 bits and a success bit each, of which K are to succeed
abbrev inputs : (T K : ℕ) → PineParam
inputs T K = standard 1 1 0 1 1 T K

-- a coordinate; v and u; a test's bits and success bit; its result
abbrev with_norm_lem : (v u : ℕ) → List ℕ
with_norm_lem v u = 0 ∷ v ∷ u ∷ 0 ∷ 0 ∷ 0 ∷ 0 ∷ 0 ∷ 0 ∷ 0 ∷ []

is_vector : (v u : ℕ) → v < p64 → u < p64 → FullVector Field64 (inputs 1 0) (with_norm_lem v u)
unfolding param_answer param_rules input_len_of encoded_input_len_of bit_checked_len_of sq_norm_bits_of sq_norm_bound_of wr_test_bits_of wr_test_bound digits halvings
is_vector v u h k = record { inputs = refl; long = refl; below = (lit< tt, (h, (k, (lit< tt, (lit< tt, (lit< tt, (lit< tt, (lit< tt, (lit< tt, (lit< tt, tt)))))))))) }

-- v + u = 1
right_norm : WellFormed p64 (inputs 1 0) (with_norm_lem 1 0)
unfolding checked_part bit_checked_len_of encoded_input_len_of sq_norm_bits_of sq_norm_bound_of wr_test_bits_of wr_test_bound digits halvings norm_v norm_u term_n test_terms test_parts results_part test_number success_bit term_g groups evaluate
right_norm = record {
  bits = (lit< tt, (lit< tt, (lit< tt, (lit< tt, (lit< tt, (lit< tt, (lit< tt, (lit< tt, tt))))))));
  norm = refl;
  tests = (lit< tt, tt);
  successes = refl;
}

-- v + u = 0
wrong_norm : WellFormed p64 (inputs 1 0) (with_norm_lem 0 0) → ⊥
unfolding checked_part bit_checked_len_of encoded_input_len_of sq_norm_bits_of sq_norm_bound_of wr_test_bits_of wr_test_bound digits halvings norm_v norm_u term_n evaluate
wrong_norm w = omega (arith, w.norm)

-- ---- triples counted, over a field of 5 numbers

abbrev Field5 : Field
Field5 = record { p = 5; floor_limit = 2; size_limit = 2; norm_limit = 1; words_in = λ n. n; elements = λ row. row; words = λ xs. xs }

abbrev zeros : (T K : ℕ) (full : List ℕ) → ℕ
zeros T K full = triples 5 (looks_true Field5 (inputs T K) full)

record Counted : Type 0 where
  -- well formed: all 125
  right : zeros 1 0 (0 ∷ 1 ∷ 0 ∷ 0 ∷ 0 ∷ 0 ∷ 0 ∷ 0 ∷ 0 ∷ 0 ∷ []) ≡ 125
  -- v + u = 0, so N = -1 and the value -r3
  norm : zeros 1 0 (0 ∷ 0 ∷ 0 ∷ 0 ∷ 0 ∷ 0 ∷ 0 ∷ 0 ∷ 0 ∷ 0 ∷ []) ≡ 25
  -- a success too many besides: r3³ - r3 is zero at 0, 1 and 4, and 3 · 5² the most for a wrong N or G
  norm_and_successes : zeros 1 0 (0 ∷ 0 ∷ 0 ∷ 0 ∷ 0 ∷ 0 ∷ 0 ∷ 0 ∷ 1 ∷ 0 ∷ []) ≡ 75
  -- of two tests that succeed both results are 1, and should be 0: r3² · (1 + r2)
  tests : zeros 2 2 (0 ∷ 1 ∷ 0 ∷ 0 ∷ 0 ∷ 0 ∷ 0 ∷ 0 ∷ 1 ∷ 0 ∷ 0 ∷ 0 ∷ 0 ∷ 0 ∷ 1 ∷ 1 ∷ 1 ∷ []) ≡ 45
  -- four checked elements are 3, and 3 · (3 - 1) is 1: r1² + r1³ + r1⁴ + r1⁵ is zero at 0, 2, 3 and 4
  bits : zeros 1 0 (0 ∷ 1 ∷ 0 ∷ 3 ∷ 3 ∷ 3 ∷ 3 ∷ 0 ∷ 0 ∷ 0 ∷ []) ≡ 100

counted : Counted
unfolding triples count sum_below valid_of valid_rules valid_value valid_calls chunks_taken param_answer param_rules input_len_of encoded_input_len_of bit_checked_len_of sq_norm_bits_of sq_norm_bound_of wr_test_bits_of wr_test_bound digits halvings checked_part norm_v norm_u term_a term_n test_terms test_parts results_part test_number success_bit term_w term_g groups evaluate inverse_from
counted = record { right = refl; norm = refl; norm_and_successes = refl; tests = refl; bits = refl }

-- the theorem holds there too; the bound is 7 · 5², L being 8
soundness_5 : Soundness Field5
soundness_5 = soundness Field5 (record { read_back = λ xs h. refl; as_many = λ xs. refl; counted = λ row n h. h }) prime_5

worst_5 : worst (inputs 1 0) ≡ 7
unfolding bit_checked_len_of sq_norm_bits_of sq_norm_bound_of wr_test_bits_of wr_test_bound digits halvings
worst_5 = refl

-- ---- the bound over Field64

-- T = 100, n = 2 ^ 20: q = 41, w = 25, L = 2682
abbrev usual : PineParam
usual = standard 1048576 1000 15 50 32 100 100

record Usual : Type 0 where
  inputs : (param_answer Field64 usual).number ≡ 0
  q : sq_norm_bits_of usual ≡ 41
  w : wr_test_bits_of usual ≡ 25
  L : bit_checked_len_of usual ≡ 2682
  worst_is : worst usual ≡ 2681
  -- 2681 / p is below 2 ^ -52.6, its fifth power being below 2 ^ -263; and its square, for two proofs, below 2 ^ -105.2
  one_proof : 2681 ^ 5 * 2 ^ 263 < p64 ^ 5
  two_proofs : (2681 * 2681) ^ 5 * 2 ^ 526 < (p64 * p64) ^ 5

usual_is : Usual
unfolding param_answer param_rules bit_checked_len_of sq_norm_bits_of sq_norm_bound_of wr_test_bits_of wr_test_bound digits halvings
usual_is = record { inputs = refl; q = refl; w = refl; L = refl; worst_is = refl; one_proof = lit< tt; two_proofs = lit< tt }

-- whatever the accepted inputs are: less than one triple in 2 ^ 50
rate_64 : (i : PineParam) (full : List ℕ) → FullVector Field64 i full → (WellFormed p64 i full → ⊥) → triples p64 (looks_true Field64 i full) * 2 ^ 50 < p64 * (p64 * p64)
rate_64 i full v bad =
    let l : worst i ≤ 12927 = omega (arith, (sizes_64 i v.inputs).checked, (limits_64 i v.inputs).tests.1) in
    scaled (triples p64 (looks_true Field64 i full)) (p64 * p64) (lit< tt) (le_trans (soundness_64.rarely i full v bad) (mul-le-mul_right (p64 * p64) l))
  where
    scaled : (a s : ℕ) → 0 < s → a ≤ 12927 * s → a * 2 ^ 50 < p64 * s
    scaled a s some h = omega arith
