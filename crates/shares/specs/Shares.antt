-- The shares of a report, the five seeds that they are made with, and its joint randomness seeds, as `shard_with_rand` of pine/vdaf.rs makes them (docs/PINE.md, "Cutting a report"). Assumes nothing.
use Rattle.std.specs.Prelude.{ℕ, ◌+◌, ◌*◌, List, [], ◌∷◌, ◌++◌, take, drop, Float}
use Rattle.field64.specs.Field.{sub_mod}
use Rattle.pine.specs.declared.PineParam.{PineParam}
use Rattle.pine.specs.Param.{Field}
use Rattle.pine.specs.Record.{sq_norm_bound_of, sq_norm_bits_of, encoded_input_len_of}
use Rattle.rows.specs.Rows.{sub_rows}
use Rattle.flp.specs.Bits.{bits}
use Rattle.flp.specs.Encode.{elements, sq_norm}
use Rattle.xof.specs.Xof.{algorithm_id, dst, xof_turbo_shake128}
use Rattle.sampler.specs.Sampler.{draw_limit, sampled}
use Rattle.joint_rand.specs.JointRand.{joint_rand_part, joint_rand_seed}

-- ---- the five seeds, sixteen bytes each, in the Rust's order: its seven without proofs_share_seed_1 and prove_seed

abbrev pub seed_at : (k : ℕ) (seeds : List ℕ) → List ℕ
seed_at k seeds = take 16 (drop (16 * k) seeds)

abbrev pub meas_share_seed₁ : (seeds : List ℕ) → List ℕ
meas_share_seed₁ seeds = seed_at 0 seeds

abbrev pub wr_blind₁ : (seeds : List ℕ) → List ℕ
wr_blind₁ seeds = seed_at 1 seeds

abbrev pub vf_blind₁ : (seeds : List ℕ) → List ℕ
vf_blind₁ seeds = seed_at 2 seeds

abbrev pub wr_blind₀ : (seeds : List ℕ) → List ℕ
wr_blind₀ seeds = seed_at 3 seeds

abbrev pub vf_blind₀ : (seeds : List ℕ) → List ℕ
vf_blind₀ seeds = seed_at 4 seeds

-- ---- joint randomness of a leader's share and a helper's, whose numbers are 0 and 1

abbrev pub joint_rand_of : (part-usage seed-usage : ℕ) (blind₀ blind₁ nonce leader helper : List ℕ) → List ℕ
joint_rand_of part-usage seed-usage blind₀ blind₁ nonce leader helper =
    joint_rand_seed seed-usage (joint_rand_part part-usage 0 blind₀ nonce leader) (joint_rand_part part-usage 1 blind₁ nonce helper)

-- for the wraparound tests, usages 10 and 9; for the verification, usages 7 and 6
abbrev pub wr_joint_rand : (nonce seeds leader helper : List ℕ) → List ℕ
wr_joint_rand nonce seeds leader helper = joint_rand_of 10 9 (wr_blind₀ seeds) (wr_blind₁ seeds) nonce leader helper

abbrev pub vf_joint_rand : (nonce seeds leader helper : List ℕ) → List ℕ
vf_joint_rand nonce seeds leader helper = joint_rand_of 7 6 (vf_blind₀ seeds) (vf_blind₁ seeds) nonce leader helper

-- ---- the shares

-- the first k values of the stream of a helper's share, eight bytes each: usage 1, the helper's number as the binder
abbrev pub helper_bytes : (k : ℕ) (seeds : List ℕ) → List ℕ
helper_bytes k seeds = xof_turbo_shake128 (meas_share_seed₁ seeds) (dst algorithm_id 1) (1 ∷ []) (8 * k)

-- as many as are drawn at most for n elements
unfoldable pub helper_stream : (n : ℕ) (seeds : List ℕ) → List ℕ
helper_stream n seeds = helper_bytes (draw_limit n) seeds

-- how many elements of a measurement come before its test bits: the Rust's `encoded_gradient_and_sq_norm_len`
abbrev pub gradient_and_norm_len : PineParam → ℕ
gradient_and_norm_len i = i.dimension + 2 * sq_norm_bits_of i

-- the helper's share: as many elements as a measurement has
unfoldable pub helper_share : Field → PineParam → (seeds : List ℕ) → List ℕ
helper_share F i seeds = sampled F.p (encoded_input_len_of i) (helper_stream (encoded_input_len_of i) seeds)

-- the elements of a measurement up to there: the gradient's; v, then u = B - v, as q bits each
abbrev pub with_norm : (p : ℕ) → PineParam → (xs : List ℕ) → List ℕ
with_norm p i xs = xs ++ (bits (sq_norm_bits_of i) (sq_norm p xs) ++ bits (sq_norm_bits_of i) (sub_mod p (sq_norm_bound_of i) (sq_norm p xs)))

unfoldable pub gradient_and_norm : Field → PineParam → (gradient : List Float) → List ℕ
gradient_and_norm F i gradient = with_norm F.p i (elements F.p i.frac_bits gradient)

-- as many of the helper's elements
abbrev pub helper_front : Field → PineParam → (seeds : List ℕ) → List ℕ
helper_front F i seeds = take (gradient_and_norm_len i) (helper_share F i seeds)

-- the wraparound seed: from both shares as far as their test bits, which are not known before it
unfoldable pub wr_seed : Field → PineParam → (gradient : List Float) (nonce seeds : List ℕ) → List ℕ
wr_seed F i gradient nonce seeds = wr_joint_rand nonce seeds (sub_rows F.p (gradient_and_norm F i gradient) (helper_front F i seeds)) (helper_front F i seeds)
