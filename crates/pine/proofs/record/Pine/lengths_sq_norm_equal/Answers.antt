-- `pine::record::Pine::lengths_sq_norm_equal` meets its contract. Assumes nothing.
use Rattle.pine.specs.Record.{lengths_norm}
use Rattle.pine.proofs.record.Pine.lengths_sq_norm_equal.Goals as goal

pub returns : goal.returns
unfolding lengths_norm
returns c =
    simp (c.query_rand_len_sq_norm_equal.ensures, c.prove_rand_len_sq_norm_equal.ensures, c.joint_rand_len_sq_norm_equal.ensures, c.verifier_len_sq_norm_equal.ensures, c.proof_len_sq_norm_equal.ensures, c.input_len_sq_norm_equal.ensures)
