-- What follows for the record of accepted inputs: the derived numbers are what they are called, and none of them can overflow. Assumes nothing.
use mathlib.Core.Path.{◌≡◌, refl, sym, ap, ◌∙◌}
use Prim.Native.Nat.{ℕ, ◌+◌, ◌*◌, ◌^◌, ◌≤◌, ◌<◌}
use native.Mathlib.Nat.{le_of_eq, mul-le-mul, mul-pos, le_trans, lt_of_le_of_lt}
use native.Mathlib.Omega.{arith}
use lib.Dec.{lit<, lit≤}
use lib.Pow.{pow_pos, pow_mono}
use Rattle.field64.specs.Field.{p64}
use Rattle.rules.specs.declared.Answer.{Answer}
use Rattle.rules.specs.Rules.{accepted}
use Rattle.rules.proofs.Chain.{none}
use Rattle.doubles.specs.Doubles.{power}
use Rattle.pine.specs.declared.PineParam.{PineParam}
use Rattle.pine.specs.declared.record.Pine.{Pine}
use Rattle.pine.specs.Param.{Field, Field64, param_answer}
use Rattle.pine.specs.Record.{ceil_div, digits, sq_norm_bound_of, sq_norm_bits_of, wr_test_bound, wr_test_exponent_of, wr_test_bits_of, bit_checked_len_of, encoded_input_len_of, input_len_of, gadget_calls_of, gadget_calls_norm, pine_of, bound_in, FromAccepted, Derivable, Answered, FromDerivable, proof_len_of, lengths_main}
use Rattle.pine.proofs.Digits.{digits_above, digits_least, digits_twice, digits_power, digits_positive, ceil_le, ceil_pos}
use Rattle.pine.proofs.Exponent.{digits_below, bound_some, exponent_room}
use Rattle.pine.proofs.Limits.{Limits, limits, param_accepted}

-- ---- the derived numbers are what they are called
module _ (i : PineParam) where
  -- ceil (alpha · n)
  abbrev scaled_bound : ℕ
  scaled_bound = ceil_div (i.alpha_numerator * i.norm_bound) i.alpha_denominator

  -- b is a power of two not below ceil (alpha · n) + 1, and no greater than any other such
  pub bound_above : ceil_div (i.alpha_numerator * i.norm_bound) i.alpha_denominator + 1 ≤ wr_test_bound i
  unfolding wr_test_bound
  bound_above = omega (arith, digits_above scaled_bound)

  pub bound_least : (k : ℕ) → ceil_div (i.alpha_numerator * i.norm_bound) i.alpha_denominator + 1 ≤ 2 ^ k → wr_test_bound i ≤ 2 ^ k
  unfolding wr_test_bound
  bound_least k h = pow_mono (digits_least scaled_bound k (omega arith))

  pub bound_power : (k : ℕ) × (wr_test_bound i ≡ 2 ^ k)
  unfolding wr_test_bound
  bound_power = (digits scaled_bound, refl)

  pub bound_positive : 0 < wr_test_bound i
  unfolding wr_test_bound
  bound_positive = pow_pos (digits scaled_bound)

  -- 2 ^ w is 2b
  pub bits_power : 2 ^ wr_test_bits_of i ≡ 2 * wr_test_bound i
  unfolding wr_test_bits_of wr_test_bound
  bits_power = digits_power (digits scaled_bound)

  -- the record's byte: b is 2 to it, and w one more
  pub bound_recovered : 2 ^ wr_test_exponent_of i ≡ wr_test_bound i
  unfolding wr_test_bound wr_test_exponent_of
  bound_recovered = refl

  pub bits_recovered : wr_test_exponent_of i + 1 ≡ wr_test_bits_of i
  unfolding wr_test_bits_of wr_test_bound wr_test_exponent_of
  bits_recovered = sym (digits_below (digits scaled_bound))

  -- B has q digits
  pub norm_digits : 0 < i.norm_bound → (2 ^ sq_norm_bits_of i ≤ 2 * sq_norm_bound_of i) × (sq_norm_bound_of i < 2 ^ sq_norm_bits_of i)
  unfolding sq_norm_bits_of sq_norm_bound_of
  norm_digits h = (digits_twice _ (mul-pos h h), digits_above _)

-- ---- how large they are, where the norm bound has 32 bits
pub record Sizes (i : PineParam) : Type 0 where
  pub norm : sq_norm_bound_of i < 2 ^ 64
  pub norm_bits : sq_norm_bits_of i ≤ 64
  pub bound : wr_test_bound i ≤ 2 ^ 48
  pub bound_bits : wr_test_bits_of i ≤ 49
  pub test_bits_lem : (1 + wr_test_bits_of i) * i.num_wr_tests ≤ 50 * 256
  pub checked : bit_checked_len_of i ≤ 2 * 64 + 50 * 256
  pub encoded : encoded_input_len_of i ≤ 65536 + (2 * 64 + 50 * 256)
  pub input : input_len_of i ≤ 65536 + (2 * 64 + 50 * 256) + 256
  pub calls : gadget_calls_of i ≤ 2 * 64 + 50 * 256 + 256
  pub calls_norm : gadget_calls_norm i ≤ 65536

module _ (F : Field) (i : PineParam) (narrow : F.norm_limit ≤ 4294967295) (l : Limits F i) where
  norm : sq_norm_bound_of i < 2 ^ 64
  unfolding sq_norm_bound_of
  norm = lt_of_le_of_lt (mul-le-mul (le_trans l.norm.1 narrow) (le_trans l.norm.1 narrow)) (lit< tt)

  norm_bits : sq_norm_bits_of i ≤ 64
  unfolding sq_norm_bits_of
  norm_bits = digits_least _ 64 norm

  exponent_small : wr_test_exponent_of i ≤ 48
  unfolding wr_test_exponent_of
  exponent_small = exponent_room i.alpha_numerator i.alpha_denominator i.norm_bound l.alpha.1 l.alpha_over.0 (le_trans l.norm.1 narrow)

  bound : wr_test_bound i ≤ 2 ^ 48
  bound = le_trans (le_of_eq (sym (bound_recovered i))) (pow_mono exponent_small)

  bound_bits : wr_test_bits_of i ≤ 49
  unfolding wr_test_bits_of
  bound_bits = digits_least _ 49 (omega (arith, bound, bound_positive i))

  test_bits_lem : (1 + wr_test_bits_of i) * i.num_wr_tests ≤ 50 * 256
  test_bits_lem =
      let h : 1 + wr_test_bits_of i ≤ 50 = omega (arith, bound_bits) in
      mul-le-mul h l.tests.1

  checked : bit_checked_len_of i ≤ 2 * 64 + 50 * 256
  unfolding bit_checked_len_of
  checked = omega (arith, norm_bits, test_bits_lem)

  encoded : encoded_input_len_of i ≤ 65536 + (2 * 64 + 50 * 256)
  unfolding encoded_input_len_of
  encoded = omega (arith, checked, l.dimension.1)

  input : input_len_of i ≤ 65536 + (2 * 64 + 50 * 256) + 256
  unfolding input_len_of
  input = omega (arith, encoded, l.tests.1)

  calls : gadget_calls_of i ≤ 2 * 64 + 50 * 256 + 256
  unfolding gadget_calls_of
  calls = omega (arith, ceil_le (bit_checked_len_of i) i.chunk_len l.chunk.0, ceil_le i.num_wr_tests i.chunk_len l.chunk.0, checked, l.tests.1)

  calls_norm : gadget_calls_norm i ≤ 65536
  unfolding gadget_calls_norm
  calls_norm = omega (arith, ceil_le i.dimension i.chunk_len_sq_norm_equal l.chunk_norm.0, l.dimension.1)

  pub sizes : Sizes i
  sizes = record {
    norm = norm;
    norm_bits = norm_bits;
    bound = bound;
    bound_bits = bound_bits;
    test_bits_lem = test_bits_lem;
    checked = checked;
    encoded = encoded;
    input = input;
    calls = calls;
    calls_norm = calls_norm;
  }

-- ---- all that follows from the test bound, from its exponent
module _ (i : PineParam) where
  abbrev checked_from : (e : ℕ) → ℕ
  checked_from e = 2 * sq_norm_bits_of i + (1 + (e + 1)) * i.num_wr_tests

  abbrev calls_from : (e : ℕ) → ℕ
  calls_from e = ceil_div (checked_from e) i.chunk_len + ceil_div i.num_wr_tests i.chunk_len

  pub record Recovered : Type 0 where
    pub byte : (pine_of i).wr_test_exponent < 2 ^ 8
    pub bound : bound_in (pine_of i) ≡ wr_test_bound i
    pub bits : (pine_of i).wr_test_exponent + 1 ≡ wr_test_bits_of i
    pub checked : checked_from (pine_of i).wr_test_exponent ≡ bit_checked_len_of i
    pub encoded : i.dimension + checked_from (pine_of i).wr_test_exponent ≡ encoded_input_len_of i
    pub input : i.dimension + checked_from (pine_of i).wr_test_exponent + i.num_wr_tests ≡ input_len_of i
    pub calls : calls_from (pine_of i).wr_test_exponent ≡ gadget_calls_of i
    pub proof : proof_len_of (2 * i.chunk_len) (calls_from (pine_of i).wr_test_exponent) ≡ (lengths_main (pine_of i)).proof_len

  -- ceil (alpha · n) is not 0
  exponent_positive : 0 < i.alpha_numerator * i.norm_bound → 0 < i.alpha_denominator → 0 < wr_test_exponent_of i
  unfolding wr_test_exponent_of
  exponent_positive h g = digits_positive _ (ceil_pos _ _ h g)

module _ (F : Field) (i : PineParam) (narrow : F.norm_limit ≤ 4294967295) (l : Limits F i) where
  bound_in_lem : bound_in (pine_of i) ≡ wr_test_bound i
  unfolding bound_in pine_of
  bound_in_lem = bound_some (wr_test_exponent_of i) (exponent_positive i (mul-pos l.alpha.0 l.norm.0) l.alpha_over.0) (omega (arith, exponent_small F i narrow l)) ∙ bound_recovered i

  pub recovered : Recovered i
  unfolding pine_of bit_checked_len_of encoded_input_len_of input_len_of gadget_calls_of lengths_main
  recovered =
      let w = bits_recovered i in
      record {
        byte = omega (arith, exponent_small F i narrow l);
        bound = bound_in_lem;
        bits = w;
        checked = rw w refl;
        encoded = rw w refl;
        input = rw w refl;
        calls = rw w refl;
        proof = rw w refl;
      }

-- ---- inputs from which a record can be derived
module _ (F : Field) (narrow : F.norm_limit ≤ 4294967295) where
  pub derivable : {i : PineParam} → param_answer F i ≡ accepted → Derivable i
  derivable e = record { F = F; narrow = narrow; accepts = e }

  pub derived : {r : Pine} → FromAccepted F r → FromDerivable r
  derived f = record { param = f.param; derivable = derivable f.accepts; is = f.is }

module _ (i : PineParam) (d : Derivable i) where
  pub limits_of : Limits d.F i
  limits_of = limits d.F i (none d.accepts)

  pub sizes_of : Sizes i
  sizes_of = sizes d.F i d.narrow limits_of

  pub recovered_of : Recovered i
  recovered_of = recovered d.F i d.narrow limits_of

-- an answer whose number is 0 accepts such inputs
pub answered : {i : PineParam} {a : Answer} → Answered i a → a.number ≡ 0 → (a ≡ accepted) × Derivable i
answered {i = i} r h =
    let e = param_accepted r.F i (sym (ap (λ (a : Answer). a.number) r.is) ∙ h) in
    (r.is ∙ e, derivable r.F r.narrow e)

-- 2b is below a modulus above 2 ^ 49
pub bound_below : (p : ℕ) → 2 ^ 49 < p → (i : PineParam) → Derivable i → 2 * wr_test_bound i < p
bound_below p room i d =
    let h : 2 * wr_test_bound i ≤ 2 ^ 49 = omega (arith, (sizes_of i d).bound) in
    lt_of_le_of_lt h room

-- B is below one that is above the square of the largest norm bound
pub norm_below : (F : Field) → F.norm_limit * F.norm_limit < F.p → (i : PineParam) → param_answer F i ≡ accepted → sq_norm_bound_of i < F.p
unfolding sq_norm_bound_of
norm_below F room i e =
    let l = (limits F i (none e)).norm.1 in
    lt_of_le_of_lt (mul-le-mul l l) room

-- ---- Field64's
pub derivable_64 : {i : PineParam} → param_answer Field64 i ≡ accepted → Derivable i
derivable_64 = derivable Field64 (lit≤ tt)

pub derived_64 : {r : Pine} → FromAccepted Field64 r → FromDerivable r
derived_64 = derived Field64 (lit≤ tt)

pub limits_64 : (i : PineParam) → param_answer Field64 i ≡ accepted → Limits Field64 i
limits_64 i e = limits Field64 i (none e)

pub sizes_64 : (i : PineParam) → param_answer Field64 i ≡ accepted → Sizes i
sizes_64 i e = sizes_of i (derivable_64 e)

pub recovered_64 : (i : PineParam) → param_answer Field64 i ≡ accepted → Recovered i
recovered_64 i e = recovered_of i (derivable_64 e)

pub bound_64 : (i : PineParam) → param_answer Field64 i ≡ accepted → 2 * wr_test_bound i < p64
bound_64 i e = bound_below p64 (lit< tt) i (derivable_64 e)

pub norm_64 : (i : PineParam) → param_answer Field64 i ≡ accepted → sq_norm_bound_of i < p64
norm_64 = norm_below Field64 (lit< tt)

-- ---- the record's scale is that of its own fractional bits
pub scale_is : (i : PineParam) (r : Pine) → r ≡ pine_of i → r.scale ≡ power r.frac_bits
unfolding pine_of
scale_is i r e = rw e

-- ---- a record that was derived from such inputs
pub record Small (r : Pine) : Type 0 where
  pub dimension : r.dimension ≤ 65536
  pub tests : r.num_wr_tests ≤ 256
  pub chunk : r.chunk_len ≤ 65536
  pub chunk_norm : r.chunk_len_sq_norm_equal ≤ 65536
  pub calls : r.gadget_calls ≤ 2 * 64 + 50 * 256 + 256
  pub calls_norm : r.gadget_calls_sq_norm_equal ≤ 65536

pub small : (r : Pine) → FromDerivable r → Small r
unfolding pine_of
small r f =
    let l = limits_of f.param f.derivable in
    let s = sizes_of f.param f.derivable in
    rw f.is (record { dimension = l.dimension.1; tests = l.tests.1; chunk = l.chunk.1; chunk_norm = l.chunk_norm.1; calls = s.calls; calls_norm = s.calls_norm })
