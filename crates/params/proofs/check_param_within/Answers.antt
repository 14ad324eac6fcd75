-- `params::check_param_within` meets its contract: the rules of `param_rules_within`, in their order. Assumes nothing.
use Rattle.rules.specs.Rules.{out_of}
use Rattle.rules.proofs.Chain.{refuse_last}
use Rattle.params.proofs.check_param_within.Goals as goal

pub returns : goal.returns
returns c =
    let i = c.args.param in
    simp (
      c.or-6.ensures,
      c.or-5.ensures,
      c.or-4.ensures,
      c.or-3.ensures,
      c.or-chunks.ensures,
      c.or-2.ensures,
      c.or.ensures,
      c.check_alpha-alpha.ensures,
      c.limit-num_wr_tests.ensures,
      c.limit-chunk_len_sq_norm_equal.ensures,
      c.limit-chunk_len.ensures,
      c.check_frac_bits-frac_bits.ensures,
      c.limit-dimension.ensures,
      c.limit-norm_bound.ensures,
      c.refuse_if-successes.ensures,
      refuse_last (out_of i.alpha_denominator 65535) 18 0,
    )
