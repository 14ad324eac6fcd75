-- `pine::record::Pine::lengths` meets its contract. Assumes nothing.
use Rattle.pine.specs.Record.{lengths_main}
use Rattle.pine.proofs.record.Pine.lengths.Goals as goal

pub returns : goal.returns
unfolding lengths_main
returns c =
    simp (c.query_rand_len.ensures, c.prove_rand_len.ensures, c.joint_rand_len.ensures, c.verifier_len.ensures, c.proof_len.ensures, c.input_len.ensures)
