-- `pine::record::Pine::new` meets its contract. Assumes nothing.
use mathlib.Core.Path.{◌≡◌, ap, ◌∙◌}
use Prim.Native.Nat.{ℕ, ◌+◌, ◌*◌, ◌≤◌}
use native.Mathlib.Nat.{le_trans}
use native.Mathlib.Omega.{arith}
use Rattle.pine.specs.declared.PineParam.{PineParam}
use Rattle.pine.specs.Param.{Field}
use Rattle.pine.specs.Record.{sq_norm_bound_of, sq_norm_bits_of, wr_test_exponent_of, wr_test_bits_of, bit_checked_len_of, encoded_input_len_of, input_len_of, gadget_calls_of, gadget_calls_norm, pine_of, Derivable}
use Rattle.pine.proofs.Digits.{ceil_le}
use Rattle.pine.proofs.Limits.{Limits}
use Rattle.pine.proofs.Sizes.{bits_recovered, limits_of, sizes_of}
use Rattle.pine.proofs.record.Pine.new.Lts as lts
use Rattle.pine.proofs.record.Pine.new.Reads as reads
use Rattle.pine.proofs.record.Pine.new.Tie as tie
use Rattle.pine.proofs.record.Pine.new.Goals as goal

abbrev After-wr_test_exponent-exponent : Type 0
After-wr_test_exponent-exponent = lts.After-wr_test_exponent tie.the-claims reads.Pre reads.Post

abbrev Start : Type 0
Start = lts.Start tie.the-claims reads.Pre reads.Post

-- how large the locals are
record Known (F : Field) (i : PineParam) (q w : ℕ) : Type 0 where
  norm_bits : q ≤ 64
  bound_bits : w ≤ 49
  test_bits_lem : (1 + w) * i.num_wr_tests ≤ 50 * 256
  limits : Limits F i

known_of : (i : PineParam) (q w : ℕ) (d : Derivable i) → q ≡ sq_norm_bits_of i → w ≡ wr_test_bits_of i → Known d.F i q w
known_of i q w d e f =
    let z = sizes_of i d in
    rw (e, f) (record { norm_bits = z.norm_bits; bound_bits = z.bound_bits; test_bits_lem = z.test_bits_lem; limits = limits_of i d })

-- what the locals are, where all of them are known
module _ (c : After-wr_test_exponent-exponent) where
  abbrev start : Start
  start = c.before.before.before

  abbrev param : PineParam
  param = start.args.param

  q_is : c.bits-sq_norm_bits.result ≡ sq_norm_bits_of param
  unfolding sq_norm_bits_of sq_norm_bound_of
  q_is = c.bits-sq_norm_bits.ensures

  e_is : c.wr_test_exponent-exponent.result ≡ wr_test_exponent_of param
  unfolding wr_test_exponent_of
  e_is = c.wr_test_exponent-exponent.ensures

  w_is : c.wr_test_exponent-exponent.result + 1 ≡ wr_test_bits_of param
  w_is = ap (λ (e : ℕ). e + 1) e_is ∙ bits_recovered param

  known : Known start.requires.F param c.bits-sq_norm_bits.result (c.wr_test_exponent-exponent.result + 1)
  known = known_of param _ _ start.requires q_is w_is

pub overflow_mul-sq_norm_bound : goal.overflow_mul-sq_norm_bound
overflow_mul-sq_norm_bound c = record { fits = unfold sq_norm_bound_of in (sizes_of c.args.param c.requires).norm }

pub wr_test_exponent-exponent-requires : goal.wr_test_exponent-exponent-requires
wr_test_exponent-exponent-requires c =
    let d = c.requires in
    let l = limits_of c.args.param d in
    (l.alpha_over.0, le_trans l.norm.1 d.narrow)

pub overflow_mul-bit_checked_len : goal.overflow_mul-bit_checked_len
overflow_mul-bit_checked_len c = omega (arith, known c)

pub overflow_mul-bit_checked_len-2 : goal.overflow_mul-bit_checked_len-2
overflow_mul-bit_checked_len-2 c = omega (arith, known c.before)

pub overflow_add-bit_checked_len-2 : goal.overflow_add-bit_checked_len-2
overflow_add-bit_checked_len-2 c = omega (arith, known c.before)

pub overflow_add-encoded_input_len : goal.overflow_add-encoded_input_len
overflow_add-encoded_input_len c = omega (arith, known c.before.before)

pub scale_of-requires : goal.scale_of-requires
scale_of-requires c = (known c.before.before).limits.fraction

pub overflow_add-result : goal.overflow_add-result
overflow_add-result c = omega (arith, known c.before.before.before.before)

pub chunk_count-requires : goal.chunk_count-requires
chunk_count-requires c =
    let k = known c.before.before.before.before in
    (k.limits.chunk.0, (k.limits.chunk.1, omega arith))

pub chunk_count-requires-2 : goal.chunk_count-requires-2
chunk_count-requires-2 c =
    let k = known c.before.before.before.before.before in
    (k.limits.chunk.0, (k.limits.chunk.1, omega arith))

pub overflow_add-result-2 : goal.overflow_add-result-2
overflow_add-result-2 c =
    let k = known c.before.before.before.before.before.before in
    let i = param c.before.before.before.before.before.before in
    omega (arith, c.chunk_count.ensures, c.chunk_count-2.ensures, ceil_le (2 * c.bits-sq_norm_bits.result + (1 + (c.wr_test_exponent-exponent.result + 1)) * i.num_wr_tests) i.chunk_len k.limits.chunk.0, ceil_le i.num_wr_tests i.chunk_len k.limits.chunk.0)

pub chunk_count-requires-3 : goal.chunk_count-requires-3
chunk_count-requires-3 c =
    let k = known c.before.before.before.before.before.before in
    (k.limits.chunk_norm.0, (k.limits.chunk_norm.1, omega arith))

pub returns : goal.returns
unfolding pine_of input_len_of encoded_input_len_of bit_checked_len_of gadget_calls_of gadget_calls_norm sq_norm_bound_of
returns c =
    simp (c.chunk_count-3.ensures, c.chunk_count-2.ensures, c.chunk_count.ensures, c.scale_of.ensures, q_is c.before.before.before.before.before.before.before, e_is c.before.before.before.before.before.before.before, bits_recovered (param c.before.before.before.before.before.before.before))
