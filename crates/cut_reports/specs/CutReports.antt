-- What an accepted call of `cut` gives (docs/PINE.md, "Cutting a report"): a report of the main theorem, whose rows add up to the measurement that encoding gives with the stream of the wraparound seed. Assumes nothing.
use Rattle.std.specs.Prelude.{ℕ, ◌≤◌, ◌≡◌, List, take, drop, Float}
use Rattle.rules.specs.Rules.{accepted}
use Rattle.pine.specs.declared.PineParam.{PineParam}
use Rattle.pine.specs.Param.{Field}
use Rattle.pine.specs.Record.{encoded_input_len_of, stream_len_of}
use Rattle.wr_joint_rand.specs.WrJointRand.{wr_stream}
use Rattle.sampler.specs.Sampler.{draw_limit, values_of}
use Rattle.shares.specs.Shares.{wr_joint_rand, vf_joint_rand, helper_bytes, gradient_and_norm_len}
use Rattle.cut.specs.Cut.{cut_outcome, cut_of}
use Rattle.correctness.specs.Correctness.{Report}

-- of a gradient, a nonce and five seeds: the leader's row l, the helper's row h and the seeds v that are given
pub record CutReport (F : Field) (i : PineParam) (gradient : List Float) (nonce seeds l h v : List ℕ) : Type 0 where
  -- a report with this gradient, the stream of the wraparound seed given, and the two rows as its cut: they are field numbers, and add up to the measurement that encoding gives
  pub report : Report F i
  pub gradient_is : report.gradient ≡ gradient
  pub stream_is : report.stream ≡ wr_stream (stream_len_of i.num_wr_tests i.dimension) (take 16 v)
  pub left_is : report.left ≡ l
  pub right_is : report.right ≡ h
  -- the wraparound seed is the one that servers find of the first elements of both rows, the verification seed that of the whole rows
  pub wr_seed_is : take 16 v ≡ wr_joint_rand nonce seeds (take (gradient_and_norm_len i) l) (take (gradient_and_norm_len i) h)
  pub vf_seed_is : drop 16 v ≡ vf_joint_rand nonce seeds l h
  -- the helper's row is the first values below p of its stream, in their order, however far that is drawn beyond the limit
  pub first_values : (k : ℕ) → draw_limit (encoded_input_len_of i) ≤ k → h ≡ take (encoded_input_len_of i) (values_of F.p k (helper_bytes k seeds))

-- whatever the three rows held before
abbrev pub CutReports : Field → Type 0
CutReports F = (i : PineParam) (gradient : List Float) (nonce seeds leader helper given l h v : List ℕ) → cut_of F i gradient nonce seeds leader helper given ≡ cut_outcome accepted l h v → CutReport F i gradient nonce seeds l h v
