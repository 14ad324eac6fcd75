-- Cutting a report: both measurement shares and the two joint randomness seeds, as `shard_with_rand` of pine/vdaf.rs makes them up to the proofs (docs/PINE.md, "Cutting a report"). Assumes nothing.
use Rattle.std.specs.Prelude.{ℕ, cond, List, [], ◌∷◌, ◌++◌, length, eqb, Float}
use Rattle.rules.specs.declared.Answer.{Answer}
use Rattle.rules.specs.Rules.{in_order}
use Rattle.pine.specs.declared.PineParam.{PineParam}
use Rattle.pine.specs.Param.{Field, param_answer}
use Rattle.pine.specs.Record.{sq_norm_bound_of, wr_test_bound, encoded_input_len_of, stream_len_of}
use Rattle.rows.specs.Rows.{row_rule, sub_rows}
use Rattle.flp.specs.Encode.{elements, sq_norm, true_sq_norm_of, coordinates_rule, gradient_len_rule, true_sq_norm_rule, sq_norm_rule, range_rule, results_of, measurement_of}
use Rattle.wr_joint_rand.specs.WrJointRand.{wr_stream}
use Rattle.sampler.specs.Sampler.{draws_rule}
use Rattle.shares.specs.Shares.{helper_stream, helper_share, wr_seed, vf_joint_rand}

-- ---- the shares, the wraparound seed being made

module _ (F : Field) (i : PineParam) (gradient : List Float) (nonce seeds : List ℕ) where
  -- the stream that it makes for the tests
  unfoldable pub wr_stream_of : List ℕ
  wr_stream_of = wr_stream (stream_len_of i.num_wr_tests i.dimension) (wr_seed F i gradient nonce seeds)

  -- the measurement that this stream gives, less the helper's share
  unfoldable pub leader_share : List ℕ
  leader_share = sub_rows F.p (measurement_of F.p i wr_stream_of (elements F.p i.frac_bits gradient)) (helper_share F i seeds)

  -- the verification seed: from both whole shares
  unfoldable pub vf_seed : List ℕ
  vf_seed = vf_joint_rand nonce seeds leader_share (helper_share F i seeds)

-- ---- the call

-- the answer and the three rows: the leader's share, the helper's share, and the wraparound seed followed by the verification seed
pub record Cut : Type 0 where
  pub answer : Answer
  pub leader : List ℕ
  pub helper : List ℕ
  pub given : List ℕ

abbrev pub cut_outcome : Answer → (leader helper given : List ℕ) → Cut
cut_outcome a l h g = record { answer = a; leader = l; helper = h; given = g }

-- what `cut` answers, with the three rows as found
module _ (F : Field) (i : PineParam) (gradient : List Float) (nonce seeds leader helper given : List ℕ) where
  -- the rules in their order
  unfoldable pub cut_rules : List Answer
  cut_rules =
      param_answer F i
      ∷ row_rule 2 (length nonce) 16
      ∷ row_rule 3 (length seeds) 80
      ∷ row_rule 4 (length leader) (encoded_input_len_of i)
      ∷ row_rule 5 (length helper) (encoded_input_len_of i)
      ∷ row_rule 6 (length given) 32
      ∷ coordinates_rule F.floor_limit i.frac_bits 0 gradient
      ∷ gradient_len_rule (length gradient) i.dimension
      ∷ true_sq_norm_rule i.true_sq_norm (true_sq_norm_of i.frac_bits gradient) (sq_norm_bound_of i)
      ∷ sq_norm_rule (sq_norm F.p (elements F.p i.frac_bits gradient)) (sq_norm_bound_of i)
      ∷ draws_rule F.p (encoded_input_len_of i) (helper_stream (encoded_input_len_of i) seeds)
      ∷ range_rule i.wr_test_rule F.p (wr_test_bound i) i.num_wr_successes (results_of F.p i (wr_stream_of F i gradient nonce seeds) (elements F.p i.frac_bits gradient))
      ∷ []

  abbrev pub cut_answer : Answer
  cut_answer = in_order cut_rules

  -- the rows are as found, where the call is refused
  unfoldable pub cut_of : Cut
  cut_of =
      cond (eqb cut_answer.number 0)
      (cut_outcome cut_answer (leader_share F i gradient nonce seeds) (helper_share F i seeds) (wr_seed F i gradient nonce seeds ++ vf_seed F i gradient nonce seeds))
      (cut_outcome cut_answer leader helper given)
